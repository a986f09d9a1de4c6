-- What a pool counts for its seats, and how the counts add up.
use Rattle.std.specs.Prelude.{◌≡◌, ℕ, ◌+◌, ◌-◌, ◌%◌, ◌^◌, ◌≤◌, min, List, [], ◌∷◌, slice_index_or, slice_set}
use Rattle.std.specs.List.{sum_by}
use Rattle.slot_pool.specs.declared.tally.Tally.{Tally}

abbrev pub no_tally : Tally
no_tally = record { taken = 0; given = 0; empties = 0; drawn = 0 }

-- the tally once the seat took this many slots more
abbrev pub took : ℕ → Tally → Tally
took slots t = record t { taken = (t.taken + slots) % 2 ^ 64; drawn = min (t.drawn + slots) (2 ^ 64 - 1) }

-- the tally once it gave a slot
abbrev pub gave : Tally → Tally
gave t = record t { given = (t.given + 1) % 2 ^ 64 }

-- the tally once it found no slot free
abbrev pub found_none : Tally → Tally
found_none t = record t { empties = min (t.empties + 1) (2 ^ 64 - 1) }

-- the tally of the seat of this number
abbrev pub tally_at : List Tally → ℕ → Tally
tally_at tallies seat = slice_index_or tallies seat no_tally

-- the tallies, once the seat of this number has counted
abbrev pub with_tally : ℕ → (Tally → Tally) → List Tally → List Tally
with_tally seat counted tallies = slice_set tallies seat (counted (tally_at tallies seat))

-- the four numbers of a tally
abbrev pub numbers_of : Tally → List ℕ
numbers_of t = t.taken ∷ t.given ∷ t.empties ∷ t.drawn ∷ []

-- the seat gave as many slots as it took
abbrev pub IsEven : Tally → Type 0
IsEven t = t.taken ≡ t.given

-- a seat with this tally took `kept` slots more than it gave, modulo 2^64
abbrev pub HasKept : ℕ → Tally → Type 0
HasKept kept t = t.taken % 2 ^ 64 ≡ (t.given + kept) % 2 ^ 64

-- how many slots a seat with this tally took more than it gave, modulo 2^64
abbrev pub kept_of : Tally → ℕ
kept_of t = (t.taken + 2 ^ 64 - t.given % 2 ^ 64) % 2 ^ 64

-- the free slots of a drive of `slots` and what all seats took and gave add up to the drive's slots: exactly, modulo 2^64; and
-- at least, by the counts that stop. If a seat found none, the seats took them all.
pub record AddUp (slots free : ℕ) (tallies : List Tally) : Type 0 where
  pub balanced : (free + sum_by (λ t. t.taken) tallies) % 2 ^ 64 ≡ (slots + sum_by (λ t. t.given) tallies) % 2 ^ 64
  pub covered : slots ≤ free + sum_by (λ t. t.drawn) tallies
  pub emptied : (seat : ℕ) → 1 ≤ (tally_at tallies seat).empties → slots ≤ sum_by (λ t. t.drawn) tallies
