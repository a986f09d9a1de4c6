-- How the counts add up once a slot was moved.
use Rattle.std.proofs.Common.{◌≡◌, ℕ, ◌+◌, ◌*◌, ◌%◌, ◌^◌, ◌<◌, Bool, true, false, cond, List, [], length, refl, sym, ap, ◌∙◌, subst, inl, inr, arith}
use Rattle.std.specs.List.{All, sum_by}
use Rattle.std.proofs.lemmas.Bool.{cases_Bool}
use Rattle.std.proofs.lemmas.Grind.{get_or-set_at}
use Rattle.std.proofs.lemmas.List.{get_or-set_other}
use Rattle.std.proofs.lemmas.List.Sums.{sum_by-set}
use Rattle.domains.specs.Shape.{Shape, IsShape, is_of}
use Rattle.domains.specs.Counts.{one_if}
use Rattle.domains.specs.Drive.{Drive, same_drive}
use Rattle.domains.proofs.DriveLemmas.{same_drive-eq}
use Rattle.domains.proofs.ShapeLemmas.{IsDrive-of}
use Rattle.slot_yard.specs.declared.counts.Counts.{Counts}
use Rattle.slot_yard.specs.declared.counts.Move.TheVariants.{Put, Take, Retire}
use Rattle.slot_yard.specs.Tallies.{AddUp, count_all, count_one, counts_of, no_counts, rank_of, tally_at, with_counts, with_tally}
use Rattle.slot_yard.proofs.DriveRanks.{rank_of-apart, rank_of-within}

module _ (shape : Shape) (is : IsShape shape) (counted : Counts → Counts) (e d : Drive) (of_e : is_of shape e ≡ true) (of_d : is_of shape d ≡ true) where
  -- what a tally says of d, once a slot of e was counted
  counted_at : (tally : List Counts) → length tally ≡ shape.nodes * 16
      → counts_of d (with_counts e counted tally) ≡ cond (same_drive e d) (counted (counts_of d tally)) (counts_of d tally)
  counted_at tally long =
      let within : rank_of e < length tally = subst (λ (n : ℕ). rank_of e < n) (sym long) (rank_of-within shape e is of_e) in
      elim (cases_Bool (same_drive e d)) [
        | inl same ↦ (
            let here : counts_of e (with_counts e counted tally) ≡ counted (counts_of e tally) =
            get_or-set_at tally (rank_of e) (rank_of e) (counted (counts_of e tally)) no_counts refl within in
            subst (λ (x : Drive). counts_of x (with_counts e counted tally) ≡ counted (counts_of x tally)) (same_drive-eq e d same) here
            ∙ sym (ap (λ b. cond b (counted (counts_of d tally)) (counts_of d tally)) same)
            )
        | inr other ↦ (
            get_or-set_other tally (rank_of e) (rank_of d) (counted (counts_of e tally)) no_counts
            (rank_of-apart e d (IsDrive-of shape e is of_e) (IsDrive-of shape d is of_d) other)
            ∙ sym (ap (λ b. cond b (counted (counts_of d tally)) (counts_of d tally)) other)
            )
      ]

  -- a number of all seats' tallies, once a slot of e was counted for one of them
  pub sum-moved : (f : Counts → ℕ) (tallies : List (List Counts)) (seat : ℕ) → seat < length tallies → All (λ tally. length tally ≡ shape.nodes * 16) tallies
      → sum_by (λ tally. f (counts_of d tally)) (with_tally seat (with_counts e counted) tallies) + f (counts_of d (tally_at tallies seat))
      ≡ sum_by (λ tally. f (counts_of d tally)) tallies
      + f (cond (same_drive e d) (counted (counts_of d (tally_at tallies seat))) (counts_of d (tally_at tallies seat)))
  sum-moved f tallies seat within long =
      sum_by-set (λ tally. f (counts_of d tally)) tallies seat (with_counts e counted (tally_at tallies seat)) [] within
      ∙ ap (λ c. sum_by (λ tally. f (counts_of d tally)) tallies + f c) (counted_at (tally_at tallies seat) (long seat [] within))

module _ (shape : Shape) (is : IsShape shape) (e d : Drive) (of_e : is_of shape e ≡ true) (of_d : is_of shape d ≡ true)
    (tallies : List (List Counts)) (seat : ℕ) (within : seat < length tallies) (long : All (λ tally. length tally ≡ shape.nodes * 16) tallies) where
  abbrev moved_tallies : (Counts → Counts) → List (List Counts)
  moved_tallies counted = with_tally seat (with_counts e counted) tallies

  abbrev sum_of : (Counts → ℕ) → List (List Counts) → ℕ
  sum_of f all = sum_by (λ tally. f (counts_of d tally)) all

  -- one seat's count, to which `more` was added where the test holds
  count-if : (b : Bool) (counted : Counts → Counts) (f : Counts → ℕ) (more : ℕ) (c : Counts) → f (counted c) % 2 ^ 64 ≡ (f c + more) % 2 ^ 64
      → f (cond b (counted c) c) % 2 ^ 64 ≡ (f c + cond b more 0) % 2 ^ 64
  count-if true counted f more c adds = adds
  count-if false counted f more c adds = omega arith

  -- the drive's count of all seats, once a call has added `more` for e
  sum-counted : (counted : Counts → Counts) (f : Counts → ℕ) (more : ℕ) → ((c : Counts) → f (counted c) % 2 ^ 64 ≡ (f c + more) % 2 ^ 64)
      → sum_of f (moved_tallies counted) % 2 ^ 64 ≡ (sum_of f tallies + cond (same_drive e d) more 0) % 2 ^ 64
  sum-counted counted f more adds =
      let sum = sum-moved shape is counted e d of_e of_d f tallies seat within long in
      let one = count-if (same_drive e d) counted f more (counts_of d (tally_at tallies seat)) (adds (counts_of d (tally_at tallies seat))) in
      omega (arith, sum, one)

  abbrev more_if : Bool → ℕ → ℕ
  more_if b n = cond b n 0

  nothing : (b : Bool) → more_if b 0 ≡ 0
  nothing true = refl
  nothing false = refl

  pub AddUp-put : (waiting retired : ℕ) → AddUp waiting retired d tallies → AddUp (waiting + one_if (same_drive e d)) retired d (moved_tallies (count_one Put))
  AddUp-put waiting retired add =
      let old = add.waiting_is in
      let old_retired = add.retired_is in
      let put = sum-counted (count_one Put) (λ c. c.put) 1 (λ c. omega arith) in
      let taken = sum-counted (count_one Put) (λ c. c.taken) 0 (λ c. omega arith) in
      let gone = sum-counted (count_one Put) (λ c. c.retired) 0 (λ c. omega arith) in
      let none = nothing (same_drive e d) in
      record { waiting_is = omega (arith, old, put, taken, none); retired_is = omega (arith, old_retired, gone, none) }

  pub AddUp-take : (waiting retired : ℕ) → AddUp (waiting + one_if (same_drive e d)) retired d tallies → AddUp waiting retired d (moved_tallies (count_one Take))
  AddUp-take waiting retired add =
      let old = add.waiting_is in
      let old_retired = add.retired_is in
      let put = sum-counted (count_one Take) (λ c. c.put) 0 (λ c. omega arith) in
      let taken = sum-counted (count_one Take) (λ c. c.taken) 1 (λ c. omega arith) in
      let gone = sum-counted (count_one Take) (λ c. c.retired) 0 (λ c. omega arith) in
      let none = nothing (same_drive e d) in
      record { waiting_is = omega (arith, old, put, taken, none); retired_is = omega (arith, old_retired, gone, none) }

  pub AddUp-retire : (waiting retired : ℕ) → AddUp waiting retired d tallies → AddUp waiting (retired + one_if (same_drive e d)) d (moved_tallies (count_one Retire))
  AddUp-retire waiting retired add =
      let old = add.waiting_is in
      let old_retired = add.retired_is in
      let put = sum-counted (count_one Retire) (λ c. c.put) 0 (λ c. omega arith) in
      let taken = sum-counted (count_one Retire) (λ c. c.taken) 0 (λ c. omega arith) in
      let gone = sum-counted (count_one Retire) (λ c. c.retired) 1 (λ c. omega arith) in
      let none = nothing (same_drive e d) in
      record { waiting_is = omega (arith, old, put, taken, none); retired_is = omega (arith, old_retired, gone) }

  -- `less` slots of e were taken from the yard, and `more` were retired
  pub AddUp-all : (less more waiting retired : ℕ) → AddUp (waiting + cond (same_drive e d) less 0) retired d tallies
      → AddUp waiting (retired + cond (same_drive e d) more 0) d (moved_tallies (count_all less more))
  AddUp-all less more waiting retired add =
      let old = add.waiting_is in
      let old_retired = add.retired_is in
      let put = sum-counted (count_all less more) (λ c. c.put) 0 (λ c. omega arith) in
      let taken = sum-counted (count_all less more) (λ c. c.taken) less (λ c. omega arith) in
      let gone = sum-counted (count_all less more) (λ c. c.retired) more (λ c. omega arith) in
      let none = nothing (same_drive e d) in
      record { waiting_is = omega (arith, old, put, taken, none); retired_is = omega (arith, old_retired, gone) }
