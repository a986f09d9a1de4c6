-- What a yard counts for its seats, and how the counts add up.
use Rattle.std.specs.Prelude.{◌≡◌, ℕ, ◌+◌, ◌-◌, ◌*◌, ◌%◌, ◌^◌, List, [], ◌∷◌, length, replicate, slice_index_or, slice_set}
use Rattle.std.specs.List.{All, sum_by}
use Rattle.domains.specs.Drive.{Drive}
use Rattle.slot_yard.specs.declared.counts.Counts.{Counts}
use Rattle.slot_yard.specs.declared.counts.Move.{Move}
use Rattle.slot_yard.specs.declared.counts.Move.TheVariants.{Put, Take, Retire}

abbrev pub no_counts : Counts
no_counts = record { put = 0; taken = 0; retired = 0 }

-- the counts, with one move of this kind more
abbrev pub count_one : Move → Counts → Counts
count_one Put c = record c { put = (c.put + 1) % 2 ^ 64 }
count_one Take c = record c { taken = (c.taken + 1) % 2 ^ 64 }
count_one Retire c = record c { retired = (c.retired + 1) % 2 ^ 64 }

-- the counts, with `taken` more slots taken from the yard and `retired` more retired
abbrev pub count_all : ℕ → ℕ → Counts → Counts
count_all taken retired c = record c { taken = (c.taken + taken) % 2 ^ 64; retired = (c.retired + retired) % 2 ^ 64 }

-- the rank of a drive: node by node, with room for 16 drives each
abbrev pub rank_of : Drive → ℕ
rank_of d = (d.node - 1) * 16 + (d.drive - 1)

-- what a seat's tally says of the drive
abbrev pub counts_of : Drive → List Counts → Counts
counts_of d tally = slice_index_or tally (rank_of d) no_counts

-- the tally, once its seat has counted for the drive
abbrev pub with_counts : Drive → (Counts → Counts) → List Counts → List Counts
with_counts d counted tally = slice_set tally (rank_of d) (counted (counts_of d tally))

-- the tally of the seat of this number
abbrev pub tally_at : List (List Counts) → ℕ → List Counts
tally_at tallies seat = slice_index_or tallies seat []

-- the tallies, once the seat of this number has counted
abbrev pub with_tally : ℕ → (List Counts → List Counts) → List (List Counts) → List (List Counts)
with_tally seat counted tallies = slice_set tallies seat (counted (tally_at tallies seat))

-- the numbers of a tally, three for each drive
abbrev pub numbers_of : List Counts → List ℕ
numbers_of [] = []
numbers_of (c ∷ cs) = c.put ∷ c.taken ∷ c.retired ∷ numbers_of cs

-- the tallies before the first turn, for the drives of `nodes` nodes
pub record AreNew (nodes : ℕ) (tallies : List (List Counts)) : Type 0 where
  pub seats : length tallies ≡ 32
  pub none : All (λ tally. tally ≡ replicate (nodes * 16) no_counts) tallies

-- the drive's slots that wait and those taken add up to those put, and its retired slots to those that the seats retired, each
-- modulo 2^64
pub record AddUp (waiting retired : ℕ) (d : Drive) (tallies : List (List Counts)) : Type 0 where
  pub waiting_is : (waiting + sum_by (λ tally. (counts_of d tally).taken) tallies) % 2 ^ 64 ≡ sum_by (λ tally. (counts_of d tally).put) tallies % 2 ^ 64
  pub retired_is : retired % 2 ^ 64 ≡ sum_by (λ tally. (counts_of d tally).retired) tallies % 2 ^ 64

-- how many more of a drive's slots a seat put into the yard than it took, and how many it retired
pub record Left : Type 0 where
  pub waiting : ℕ
  pub retired : ℕ

-- a seat with this tally left these numbers of the drive's slots, modulo 2^64
pub record HasLeft (d : Drive) (left : Left) (tally : List Counts) : Type 0 where
  pub waiting_is : ((counts_of d tally).taken + left.waiting) % 2 ^ 64 ≡ (counts_of d tally).put % 2 ^ 64
  pub retired_is : (counts_of d tally).retired % 2 ^ 64 ≡ left.retired % 2 ^ 64

-- what a seat with this tally left of the drive's slots, modulo 2^64
abbrev pub left_of : Drive → List Counts → Left
left_of d tally = record {
  waiting = ((counts_of d tally).put + 2 ^ 64 - (counts_of d tally).taken % 2 ^ 64) % 2 ^ 64;
  retired = (counts_of d tally).retired;
}
