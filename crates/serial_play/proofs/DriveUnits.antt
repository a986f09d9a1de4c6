-- No more units stand on a drive than it has slots.
use Rattle.std.proofs.Common.{inl, inr, ◌≡◌, ℕ, zero, suc, ◌≤◌, Bool, true, false, ◌&&◌, ◌||◌, ltb, List, [], ◌∷◌, refl, sym, ap, subst, ◌∙◌, arith}
use Rattle.std.specs.List.{AllByRecursion, count_by}
use Rattle.std.proofs.lemmas.Bool.{and_from, and_parts, cases_Bool, cases_lt, false≢true, le-ltb, ltb-true, lt-ltb}
use Rattle.domains.specs.Counts.{one_if}
use Rattle.domains.specs.Drive.{Drive}
use Rattle.domains.specs.Place.{IsPlaceOf, Place, same_place}
use Rattle.domains.specs.Shape.{Shape}
use Rattle.domains.proofs.CountLemmas.{count_by-cons, count_by-or}
use Rattle.domains.proofs.DriveLemmas.{eq-same_place, same_drive-eq, same_place-eq}
use Rattle.file_history.specs.Step.{AreDistinct}
use Rattle.file_turns.specs.PathAccounts.{on_drive}
use Rattle.serial_runs.proofs.OrderedOperations.{count-weaker}

-- a place that is none of some places
apart-count : (t : Place) (ss : List Place) → AllByRecursion (λ (u : Place). same_place t u ≡ false) ss → count_by (same_place t) ss ≡ 0
apart-count t [] apart = refl
apart-count t (s ∷ ss) apart =
    let all = count_by-cons (same_place t) s ss in
    let here : one_if (same_place t s) ≡ 0 = ap one_if apart.0 in
    let rest = apart-count t ss apart.1 in
    omega (arith, all, here, rest)

-- a place comes once among different ones
once : (t : Place) (ss : List Place) → AreDistinct ss → count_by (same_place t) ss ≤ 1
once t [] distinct = omega arith
once t (s ∷ ss) distinct =
    let all = count_by-cons (same_place t) s ss in
    elim (cases_Bool (same_place t s)) [
      | inl same ↦
          let one : one_if (same_place t s) ≡ 1 = ap one_if same in
          let none = apart-count t ss (subst (λ (x : Place). AllByRecursion (λ (u : Place). same_place x u ≡ false) ss) (sym (same_place-eq t s same)) distinct.0) in
          omega (arith, all, one, none)
      | inr other ↦
          let zero_here : one_if (same_place t s) ≡ 0 = ap one_if other in
          let rest = once t ss distinct.1 in
          omega (arith, all, zero_here, rest)
    ]

-- on the drive, at a slot below the number
abbrev below : Drive → ℕ → Place → Bool
below d n s = on_drive d s && ltb s.slot n

none-below : (d : Drive) (ss : List Place) → count_by (below d 0) ss ≡ 0
none-below d [] = refl
none-below d (s ∷ ss) =
    let all = count_by-cons (below d 0) s ss in
    let here : one_if (below d 0 s) ≡ 0 = ap (λ (b : Bool). one_if (on_drive d s && b)) (le-ltb s.slot 0 (omega arith)) ∙ ap one_if (no (on_drive d s)) in
    let rest = none-below d ss in
    omega (arith, all, here, rest)
  where
    no : (b : Bool) → (b && false) ≡ false
    no true = refl
    no false = refl

few-below : (d : Drive) (n : ℕ) (ss : List Place) → AreDistinct ss → count_by (below d n) ss ≤ n
few-below d zero ss distinct = let none = none-below d ss in omega (arith, none)
few-below d (suc n) ss distinct =
    let t : Place = record { drive = d; slot = n } in
    let rest = few-below d n ss distinct in
    let last = once t ss distinct in
    let both = count_by-or ss (below d n) (same_place t) in
    let weaker = count-weaker (below d (suc n)) (λ s. below d n s || same_place t s) ss (λ s is. either s is) in
    omega (arith, rest, last, both, weaker)
  where
    left_or : (a b : Bool) → a ≡ true → (a || b) ≡ true
    left_or true b is = refl
    left_or false b is = absurd (false≢true is)

    right_or : (a b : Bool) → b ≡ true → (a || b) ≡ true
    right_or true b is = refl
    right_or false b is = is

    either : (s : Place) → below d (suc n) s ≡ true → (below d n s || same_place (record { drive = d; slot = n }) s) ≡ true
    either s is =
        let parts = and_parts (on_drive d s) (ltb s.slot (suc n)) is in
        let low = ltb-true s.slot (suc n) parts.1 in
        elim (cases_lt s.slot n) [
          | inl before ↦ left_or (below d n s) _ (and_from (on_drive d s) (ltb s.slot n) parts.0 (lt-ltb s.slot n before))
          | inr after ↦
              let slot : n ≡ s.slot = omega (arith, low, after) in
              let drive : d ≡ s.drive = sym (same_drive-eq s.drive d parts.0) in
              right_or (below d n s) _ (eq-same_place (record { drive = d; slot = n }) s (λ i. record { drive = drive i; slot = slot i }))
        ]

-- different places of the cluster on one drive are no more than its slots
pub drive-places : (shape : Shape) (d : Drive) (ss : List Place) → AreDistinct ss → AllByRecursion (IsPlaceOf shape) ss → count_by (on_drive d) ss ≤ shape.slots
drive-places shape d ss distinct within =
    let few = few-below d shape.slots ss distinct in
    let same = all-below ss within in
    omega (arith, few, same)
  where
    yes_and : (a b : Bool) → b ≡ true → a ≡ (a && b)
    yes_and true b is = sym is
    yes_and false b is = refl

    all-below : (ts : List Place) → AllByRecursion (IsPlaceOf shape) ts → count_by (on_drive d) ts ≡ count_by (below d shape.slots) ts
    all-below [] all = refl
    all-below (t ∷ ts) all =
        let one = count_by-cons (on_drive d) t ts in
        let two = count_by-cons (below d shape.slots) t ts in
        let here : one_if (on_drive d t) ≡ one_if (below d shape.slots t) = ap one_if (yes_and (on_drive d t) (ltb t.slot shape.slots) (lt-ltb t.slot shape.slots all.0.slot)) in
        let rest = all-below ts all.1 in
        omega (arith, one, two, here, rest)
