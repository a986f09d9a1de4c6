-- What the seats of a closed cell took and gave, and the slots that its pool has.
use Rattle.std.proofs.Common.{◌≡◌, ℕ, suc, ◌+◌, ◌-◌, ◌%◌, ◌^◌, ◌<◌, ◌≤◌, List, [], ◌∷◌, length, replicate, refl, sym, ap, subst, inl, inr, arith}
use Rattle.std.specs.Prelude.{slice_index, slice_index_or}
use Rattle.std.specs.List.{sum, sum_by}
use Rattle.std.proofs.lemmas.Bool.{cases_lt, cases_eq}
use Rattle.std.proofs.lemmas.List.{get_or_past}
use Rattle.std.proofs.lemmas.List.Folds.{sum_by-replicate}
use Rattle.std.proofs.lemmas.List.Sums.{sum_by-cons}
use Rattle.flex_io.specs.declared.raw_place.RawPlace.{RawPlace}
use Rattle.slot_pool.specs.declared.chronicle.DriveSlots.{DriveSlots}
use Rattle.slot_pool.specs.declared.tally.Tally.{Tally}
use Rattle.slot_pool.specs.Pools.{PoolView, IsPool}
use Rattle.slot_pool.specs.Tallies.{HasKept, IsEven, kept_of, numbers_of, tally_at}
use Rattle.turn_cell.specs.declared.seat.Seat.{Seat}
use Rattle.turn_cell.specs.Notes.{AreZeros}
use Rattle.turn_cell.specs.Seats.{Closes, FollowsEach, seat_view}

-- what each seat kept adds up to what all kept
kept_by_all : (tallies : List Tally) (kept : List ℕ) → ((seat : ℕ) → HasKept (slice_index_or kept seat 0) (tally_at tallies seat))
    → sum_by (λ t. t.taken) tallies % 2 ^ 64 ≡ (sum_by (λ t. t.given) tallies + sum kept) % 2 ^ 64
kept_by_all [] [] each = refl
kept_by_all [] (k ∷ ks) each =
    let rest = kept_by_all [] ks (λ seat. each (suc seat)) in
    let here : 0 % 2 ^ 64 ≡ (0 + k) % 2 ^ 64 = each 0 in
    omega (arith, rest, here, sum_by-cons (λ n. n) k ks)
kept_by_all (t ∷ ts) [] each =
    let rest = kept_by_all ts [] (λ seat. each (suc seat)) in
    let here : t.taken % 2 ^ 64 ≡ (t.given + 0) % 2 ^ 64 = each 0 in
    omega (arith, rest, here, sum_by-cons (λ t. t.taken) t ts, sum_by-cons (λ t. t.given) t ts)
kept_by_all (t ∷ ts) (k ∷ ks) each =
    let rest = kept_by_all ts ks (λ seat. each (suc seat)) in
    let here : t.taken % 2 ^ 64 ≡ (t.given + k) % 2 ^ 64 = each 0 in
    omega (arith, rest, here, sum_by-cons (λ t. t.taken) t ts, sum_by-cons (λ t. t.given) t ts, sum_by-cons (λ n. n) k ks)

-- each tally says what its seat kept
pub HasKept-kept_of : (t : Tally) → HasKept (kept_of t) t
HasKept-kept_of t = kept t.taken t.given where
  kept : (taken given : ℕ) → taken % 2 ^ 64 ≡ (given + (taken + 2 ^ 64 - given % 2 ^ 64) % 2 ^ 64) % 2 ^ 64
  kept taken given = omega arith

HasKept-same : (kept : ℕ) (s t : Tally) → numbers_of s ≡ numbers_of t → HasKept kept t → HasKept kept s
HasKept-same kept s t same has =
    let taken : s.taken ≡ t.taken = ap (λ l. slice_index l 0) same in
    let given : s.given ≡ t.given = ap (λ l. slice_index l 1) same in
    omega (arith, taken, given, has)

HasKept-zeros : (t : Tally) → AreZeros (numbers_of t) → HasKept 0 t
HasKept-zeros t zeros =
    let taken : t.taken ≡ 0 = zeros 0 0 (omega arith) in
    let given : t.given ≡ 0 = zeros 1 0 (omega arith) in
    omega (arith, taken, given)

module _ {S : Type 0} where
  -- each seat, numbered from here on, took its number of slots more than it gave
  abbrev pub AreKeptFrom : ℕ → List (Seat (PoolView S)) → List ℕ → Type 0
  AreKeptFrom number [] [] = Unit {0}
  AreKeptFrom number [] (k ∷ ks) = ⊥
  AreKeptFrom number (seat ∷ seats) [] = ⊥
  AreKeptFrom number (seat ∷ seats) (k ∷ ks) = HasKept k (tally_at (seat_view seat).last.tallies number) × AreKeptFrom (suc number) seats ks

  -- how many slots each seat, numbered from here on, took more than it gave
  abbrev pub kept_from : ℕ → List (Seat (PoolView S)) → List ℕ
  kept_from number [] = []
  kept_from number (seat ∷ seats) = kept_of (tally_at (seat_view seat).last.tallies number) ∷ kept_from (suc number) seats

  pub AreKeptFrom-kept_from : (number : ℕ) (seats : List (Seat (PoolView S))) → AreKeptFrom number seats (kept_from number seats)
  AreKeptFrom-kept_from number [] = tt
  AreKeptFrom-kept_from number (seat ∷ seats) = (HasKept-kept_of (tally_at (seat_view seat).last.tallies number), AreKeptFrom-kept_from (suc number) seats)

  -- each seat, numbered from here on, gave as many slots as it took
  abbrev pub AreEvenFrom : ℕ → List (Seat (PoolView S)) → Type 0
  AreEvenFrom number [] = Unit {0}
  AreEvenFrom number (seat ∷ seats) = IsEven (tally_at (seat_view seat).last.tallies number) × AreEvenFrom (suc number) seats

  -- such seats kept no slot
  even_kept : (number : ℕ) (seats : List (Seat (PoolView S))) → AreEvenFrom number seats → AreKeptFrom number seats (replicate (length seats) 0)
  even_kept number [] even = tt
  even_kept number (seat ∷ seats) even =
      let here : (tally_at (seat_view seat).last.tallies number).taken ≡ (tally_at (seat_view seat).last.tallies number).given = even.0 in
      (omega (arith, here), even_kept (suc number) seats even.1)

  -- what no turn changes of a pool
  abbrev pub drive_slots : PoolView S → DriveSlots
  drive_slots p = record { drive = p.drive; slots = p.slots }

  as_many : (number : ℕ) (seats : List (Seat (PoolView S))) (kept : List ℕ) → AreKeptFrom number seats kept → length kept ≡ length seats
  as_many number [] [] are = refl
  as_many number [] (k ∷ ks) are = absurd are
  as_many number (seat ∷ seats) [] are = absurd are
  as_many number (seat ∷ seats) (k ∷ ks) are = ap suc (as_many (suc number) seats ks are.1)

  -- the closed pool counts for a seat what the seat knows
  kept_each : (p : PoolView S) (number : ℕ) (seats : List (Seat (PoolView S))) (kept : List ℕ)
      → FollowsEach {E = Unit {0}} (λ p. p.turns) (λ p. []) (λ p number. numbers_of (tally_at p.tallies number)) drive_slots p number seats → AreKeptFrom number seats kept
      → (seat : ℕ) → number ≤ seat → seat < number + length seats → HasKept (slice_index_or kept (seat - number) 0) (tally_at p.tallies seat)
  kept_each p number [] kept follows are seat from below = absurd (omega (arith, from, below))
  kept_each p number (x ∷ xs) [] follows are seat from below = absurd are
  kept_each p number (x ∷ xs) (k ∷ ks) follows are seat from below =
      elim (cases_eq number seat) [
        | inl is ↦ (
            let first : 0 ≡ seat - number = omega (arith, is) in
            let known = HasKept-same k _ _ follows.0.tally are.0 in
            subst (λ (i : ℕ). HasKept (slice_index_or (k ∷ ks) i 0) (tally_at p.tallies seat)) first (subst (λ (i : ℕ). HasKept k (tally_at p.tallies i)) is known)
            )
        | inr other ↦ (
            let later : suc (seat - suc number) ≡ seat - number = omega (arith, other, from) in
            subst (λ (i : ℕ). HasKept (slice_index_or (k ∷ ks) i 0) (tally_at p.tallies seat)) later
            (kept_each p (suc number) xs ks follows.1 are.1 seat (omega (arith, other, from)) (omega (arith, below)))
            )
      ]

  -- where it is known what each seat of a closed cell kept, the free slots and all that were kept add up to the drive's, modulo 2^64
  pub kept-closed : (place_of : S → RawPlace) (p : PoolView S) (seats : List (Seat (PoolView S))) (kept : List ℕ) → IsPool place_of p
      → Closes {E = Unit {0}} (λ p. p.turns) (λ p. []) (λ p number. numbers_of (tally_at p.tallies number)) drive_slots seats p → AreKeptFrom 0 seats kept
      → (length p.free + sum kept) % 2 ^ 64 ≡ p.slots % 2 ^ 64
  kept-closed place_of p seats kept is closes are =
      let many = as_many 0 seats kept are in
      let each : (seat : ℕ) → HasKept (slice_index_or kept seat 0) (tally_at p.tallies seat) =
      λ seat. elim (cases_lt seat (length seats)) [
        | inl below ↦ (
            let same : seat - 0 ≡ seat = omega arith in
            subst (λ (i : ℕ). HasKept (slice_index_or kept i 0) (tally_at p.tallies seat)) same (kept_each p 0 seats kept closes.follows are seat (omega arith) (omega (arith, below)))
            )
        | inr past ↦ subst (λ (k : ℕ). HasKept k (tally_at p.tallies seat)) (sym (get_or_past kept seat 0 (omega (arith, past, many)))) (HasKept-zeros (tally_at p.tallies seat) (closes.zeros seat past))
      ] in
      let all = kept_by_all p.tallies kept each in
      let balanced = is.add_up.balanced in
      omega (arith, all, balanced)

  -- where each seat of a closed cell gave as many slots as it took, all slots of the drive are free
  pub all_free-closed : (place_of : S → RawPlace) (p : PoolView S) (seats : List (Seat (PoolView S))) → IsPool place_of p
      → Closes {E = Unit {0}} (λ p. p.turns) (λ p. []) (λ p number. numbers_of (tally_at p.tallies number)) drive_slots seats p → AreEvenFrom 0 seats → length p.free ≡ p.slots
  all_free-closed place_of p seats is closes even =
      let all = kept-closed place_of p seats (replicate (length seats) 0) is closes (even_kept 0 seats even) in
      let none = sum_by-replicate (λ n. n) (length seats) 0 in
      let few = is.few in
      let within = is.within in
      omega (arith, all, none, few, within)
