-- What the seats of a closed cell left of a drive's slots, and the slots that its yard has.
use Rattle.std.proofs.Common.{◌≡◌, ℕ, suc, ◌+◌, ◌-◌, ◌%◌, ◌^◌, ◌<◌, ◌≤◌, true, List, [], ◌∷◌, length, refl, sym, ap, subst, inl, inr, arith}
use Rattle.std.specs.Prelude.{slice_index_or}
use Rattle.std.specs.List.{sum_by}
use Rattle.std.proofs.lemmas.Bool.{cases_lt, cases_eq}
use Rattle.std.proofs.lemmas.List.{get_or_past}
use Rattle.std.proofs.lemmas.List.Sums.{count_by-le-length, sum_by-cons}
use Rattle.domains.specs.Shape.{is_of}
use Rattle.domains.specs.Drive.{Drive}
use Rattle.flex_io.specs.declared.raw_place.RawPlace.{RawPlace}
use Rattle.held_slots.specs.Slots.{count_on, is_on}
use Rattle.turn_cell.specs.declared.seat.Seat.{Seat}
use Rattle.turn_cell.specs.Seats.{Closes, FollowsEach, seat_view}
use Rattle.slot_yard.specs.declared.counts.Counts.{Counts}
use Rattle.slot_yard.specs.Queues.{queue_of}
use Rattle.slot_yard.specs.Tallies.{HasLeft, Left, counts_of, left_of, numbers_of, rank_of, tally_at}
use Rattle.slot_yard.specs.Yards.{IsYard, YardView}
use Rattle.slot_yard.proofs.KnownCounts.{same_counts}
use Rattle.slot_yard.proofs.NewYard.{no_counts_of}
use Rattle.slot_yard.proofs.QueueLemmas.{length-queue}

-- each tally says what its seat left
pub HasLeft-left_of : (d : Drive) (tally : List Counts) → HasLeft d (left_of d tally) tally
HasLeft-left_of d tally = record { waiting_is = waiting (counts_of d tally).put (counts_of d tally).taken; retired_is = refl } where
  waiting : (put taken : ℕ) → (taken + (put + 2 ^ 64 - taken % 2 ^ 64) % 2 ^ 64) % 2 ^ 64 ≡ put % 2 ^ 64
  waiting put taken = omega arith

-- nothing left
abbrev pub none_left : Left
none_left = record { waiting = 0; retired = 0 }

-- what a seat of this number left
abbrev left_at : List Left → ℕ → Left
left_at lefts seat = slice_index_or lefts seat none_left

-- what each seat left adds up to what all left
sums : (d : Drive) (tallies : List (List Counts)) (lefts : List Left) → length lefts ≤ length tallies → ((seat : ℕ) → HasLeft d (left_at lefts seat) (tally_at tallies seat))
    → ((sum_by (λ t. (counts_of d t).taken) tallies + sum_by (λ l. l.waiting) lefts) % 2 ^ 64 ≡ sum_by (λ t. (counts_of d t).put) tallies % 2 ^ 64)
    × (sum_by (λ t. (counts_of d t).retired) tallies % 2 ^ 64 ≡ sum_by (λ l. l.retired) lefts % 2 ^ 64)
sums d [] [] few each = (refl, refl)
sums d [] (l ∷ ls) few each = absurd (omega (arith, few))
sums d (t ∷ ts) [] few each =
    let rest = sums d ts [] (omega arith) (λ seat. each (suc seat)) in
    let here = each 0 in
    let a = rest.0 in
    let b = rest.1 in
    let f = here.waiting_is in
    let g = here.retired_is in
    let taken = sum_by-cons (λ t. (counts_of d t).taken) t ts in
    let put = sum_by-cons (λ t. (counts_of d t).put) t ts in
    let retired = sum_by-cons (λ t. (counts_of d t).retired) t ts in
    (omega (arith, a, f, taken, put), omega (arith, b, g, retired))
sums d (t ∷ ts) (l ∷ ls) few each =
    let rest = sums d ts ls (omega (arith, few)) (λ seat. each (suc seat)) in
    let here = each 0 in
    let a = rest.0 in
    let b = rest.1 in
    let f = here.waiting_is in
    let g = here.retired_is in
    let taken = sum_by-cons (λ t. (counts_of d t).taken) t ts in
    let put = sum_by-cons (λ t. (counts_of d t).put) t ts in
    let retired = sum_by-cons (λ t. (counts_of d t).retired) t ts in
    let waiting = sum_by-cons (λ l. l.waiting) l ls in
    let gone = sum_by-cons (λ l. l.retired) l ls in
    (omega (arith, a, f, taken, put, waiting), omega (arith, b, g, retired, gone))

module _ {S : Type 0} where
  -- the seats, numbered from `number` on, left these numbers of the drive's slots
  abbrev pub AreLeftFrom : Drive → ℕ → List (Seat (YardView S)) → List Left → Type 0
  AreLeftFrom d number [] [] = Unit {0}
  AreLeftFrom d number [] (l ∷ ls) = ⊥
  AreLeftFrom d number (seat ∷ seats) [] = ⊥
  AreLeftFrom d number (seat ∷ seats) (l ∷ ls) = HasLeft d l (tally_at (seat_view seat).last.tallies number) × AreLeftFrom d (suc number) seats ls

  -- what the seats, numbered from `number` on, left of the drive's slots
  abbrev pub left_from : Drive → ℕ → List (Seat (YardView S)) → List Left
  left_from d number [] = []
  left_from d number (seat ∷ seats) = left_of d (tally_at (seat_view seat).last.tallies number) ∷ left_from d (suc number) seats

  pub AreLeftFrom-left_from : (d : Drive) (number : ℕ) (seats : List (Seat (YardView S))) → AreLeftFrom d number seats (left_from d number seats)
  AreLeftFrom-left_from d number [] = tt
  AreLeftFrom-left_from d number (seat ∷ seats) = (HasLeft-left_of d (tally_at (seat_view seat).last.tallies number), AreLeftFrom-left_from d (suc number) seats)

  as_many : (d : Drive) (number : ℕ) (seats : List (Seat (YardView S))) (lefts : List Left) → AreLeftFrom d number seats lefts → length lefts ≡ length seats
  as_many d number [] [] left = refl
  as_many d number [] (l ∷ ls) left = absurd left
  as_many d number (seat ∷ seats) [] left = absurd left
  as_many d number (seat ∷ seats) (l ∷ ls) left = ap suc (as_many d (suc number) seats ls left.1)

  -- the closed yard counts for a seat what the seat knows
  each_left : (y : YardView S) (d : Drive) (number : ℕ) (seats : List (Seat (YardView S))) (lefts : List Left)
      → FollowsEach {E = Unit {0}} (λ y. y.turns) (λ y. []) (λ y number. numbers_of (tally_at y.tallies number)) (λ y. y.shape) y number seats → AreLeftFrom d number seats lefts
      → (seat : ℕ) → number ≤ seat → seat < number + length seats → HasLeft d (left_at lefts (seat - number)) (tally_at y.tallies seat)
  each_left y d number [] lefts follows left seat from below = absurd (omega (arith, from, below))
  each_left y d number (x ∷ xs) [] follows left seat from below = absurd left
  each_left y d number (x ∷ xs) (l ∷ ls) follows left seat from below =
      elim (cases_eq number seat) [
        | inl is ↦ (
            let first : 0 ≡ seat - number = omega (arith, is) in
            let known = subst (HasLeft d l) (sym (same_counts _ _ follows.0.tally)) left.0 in
            subst (λ (k : ℕ). HasLeft d (left_at (l ∷ ls) k) (tally_at y.tallies seat)) first (subst (λ (k : ℕ). HasLeft d l (tally_at y.tallies k)) is known)
            )
        | inr other ↦ (
            let later : suc (seat - suc number) ≡ seat - number = omega (arith, other, from) in
            subst (λ (k : ℕ). HasLeft d (left_at (l ∷ ls) k) (tally_at y.tallies seat)) later
            (each_left y d (suc number) xs ls follows.1 left.1 seat (omega (arith, other, from)) (omega (arith, below)))
            )
      ]

  -- if it is known what each seat of a closed cell left, as many slots of the drive wait as all left, and as many are retired as all
  -- retired
  pub left-closed : (place_of : S → RawPlace) (y : YardView S) (seats : List (Seat (YardView S))) (d : Drive) (lefts : List Left) → IsYard place_of y
      → Closes {E = Unit {0}} (λ y. y.turns) (λ y. []) (λ y number. numbers_of (tally_at y.tallies number)) (λ y. y.shape) seats y
      → is_of y.shape d ≡ true → length seats ≤ 32 → AreLeftFrom d 0 seats lefts
      → (length (queue_of d y.waiting) ≡ sum_by (λ l. l.waiting) lefts % 2 ^ 64) × (count_on place_of d y.retired ≡ sum_by (λ l. l.retired) lefts % 2 ^ 64)
  left-closed place_of y seats d lefts is closes of few left =
      let seats_are = is.seats in
      let many = as_many d 0 seats lefts left in
      let each : (seat : ℕ) → HasLeft d (left_at lefts seat) (tally_at y.tallies seat) =
      λ seat. elim (cases_lt seat (length seats)) [
        | inl below ↦ (
            let same : seat - 0 ≡ seat = omega arith in
            subst (λ (k : ℕ). HasLeft d (left_at lefts k) (tally_at y.tallies seat)) same (each_left y d 0 seats lefts closes.follows left seat (omega arith) (omega (arith, below)))
            )
        | inr past ↦ (
            let none = no_counts_of (tally_at y.tallies seat) (rank_of d) (closes.zeros seat past) in
            let put = ap (λ c. c.put) none in
            let taken = ap (λ c. c.taken) none in
            let gone = ap (λ c. c.retired) none in
            subst (λ (l : Left). HasLeft d l (tally_at y.tallies seat)) (sym (get_or_past lefts seat none_left (omega (arith, past, many))))
            (record { waiting_is = omega (arith, put, taken); retired_is = omega (arith, gone) })
            )
      ] in
      let all = sums d y.tallies lefts (omega (arith, few, many, seats_are)) each in
      let a = all.0 in
      let b = all.1 in
      let add = is.add_up d of in
      let waiting_is = add.waiting_is in
      let retired_is = add.retired_is in
      let w = length-queue y.waiting (rank_of d) in
      let r = count_by-le-length (is_on place_of d) y.retired in
      let few_waiting = is.waiting.few in
      let few_retired = is.few_retired in
      (omega (arith, a, waiting_is, w, few_waiting), omega (arith, b, retired_is, r, few_retired))
