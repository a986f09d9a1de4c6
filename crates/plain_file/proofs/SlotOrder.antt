-- Slots in order, of which one is taken, or to which one is added.
use Rattle.std.proofs.Common.{◌≡◌, ◌≢◌, ℕ, ◌+◌, ◌<◌, ◌≤◌, leb, ltb, eqb, Bool, true, false, ◌&&◌, ◌||◌, cond, List, [], ◌∷◌, ◌++◌, length, take, drop, get_or, map, count_by, refl, sym, ap, ◌∙◌, inl, inr, ◌⊎◌, subst, add-one, arith}
use Rattle.std.specs.List.{AllByRecursion}
use Rattle.std.proofs.lemmas.Bool.{and_parts, and_cases, and_from, or_parts, and_left, and_right, cases_Bool, cases_lt, ltb-true, ltb-false, lt-ltb, leb-false, eqb-true, eqb-false, eq-eqb, ne_eqb, lt-leb, true≢false}
use Rattle.std.proofs.lemmas.List.{take_all, take-append-drop, set_split, set-get_or}
use Rattle.std.proofs.lemmas.List.Sums.{sum_by-cons, sum_by-take-drop}
use Rattle.flex_io.specs.declared.raw_place.RawPlace.{RawPlace}
use Rattle.domains.specs.Drive.{Drive, same_drive}
use Rattle.domains.specs.Place.{Place}
use Rattle.domains.specs.Counts.{one_if}
use Rattle.held_slots.specs.Slots.{place_from, count_at}
use Rattle.domains.proofs.DriveLemmas.{same_drive-eq, same_drive-self}
use Rattle.plain_file.specs.FreeOrder.{is_before, ComesBefore, is_under, StandInOrder, HasLowerNumber}

none_of : (b : Bool) (n m : ℕ) → n ≡ one_if b + m → n ≡ 0 → (b ≡ false) × (m ≡ 0)
none_of true n m sum none = absurd (omega (arith, sum, none))
none_of false n m sum none = (refl, omega (arith, sum, none))

or_true : (b : Bool) → b || true ≡ true
or_true true = refl
or_true false = refl

pub drive_eq : (a b : Drive) → a.node ≡ b.node → a.drive ≡ b.drive → a ≡ b
drive_eq a b node drive =
    ap (λ (n : ℕ). let made : Drive = record { node = n; drive = a.drive } in made) node
    ∙ ap (λ (n : ℕ). let made : Drive = record { node = b.node; drive = n } in made) drive

-- a drive of an earlier node is before, and so is an earlier drive of one node
pub earlier_node : (a b : Drive) → a.node < b.node → is_before a b ≡ true
earlier_node a b less = ap (λ x. x || (eqb a.node b.node && ltb a.drive b.drive)) (lt-ltb a.node b.node less)

pub earlier_drive : (a b : Drive) → a.node ≡ b.node → a.drive < b.drive → is_before a b ≡ true
earlier_drive a b same less =
    ap (λ x. ltb a.node b.node || x) (and_from _ _ (eq-eqb a.node b.node same) (lt-ltb a.drive b.drive less)) ∙ or_true (ltb a.node b.node)

-- a drive is before another, is it, or is behind it
not_behind : (a b : Drive) → is_before a b ≡ false → (is_before b a ≡ true) ⊎ (b ≡ a)
not_behind a b h =
    let parts = or_parts _ _ h in
    let nodes = ltb-false a.node b.node parts.0 in
    elim (cases_lt b.node a.node) [
      | inl less ↦ inl (earlier_node b a less)
      | inr more ↦
          let same : b.node ≡ a.node = omega (arith, nodes, more) in
          elim (and_cases _ _ parts.1) [
            | inl other ↦ absurd (eqb-false a.node b.node other (sym same))
            | inr later ↦
                let drives = ltb-false a.drive b.drive later in
                elim (cases_lt b.drive a.drive) [
                  | inl earlier ↦ inl (earlier_drive b a same earlier)
                  | inr not_earlier ↦ inr (drive_eq b a same (omega (arith, drives, not_earlier)))
                ]
          ]
    ]

before : (a b : Drive) → is_before a b ≡ true → (a.node < b.node) ⊎ ((a.node ≡ b.node) × (a.drive < b.drive))
before a b h = elim (cases_Bool (ltb a.node b.node)) [
  | inl less ↦ inl (ltb-true a.node b.node less)
  | inr not_less ↦
      let both = and_parts _ _ (ap (λ x. x || (eqb a.node b.node && ltb a.drive b.drive)) (sym not_less) ∙ h) in
      inr (eqb-true a.node b.node both.0, ltb-true a.drive b.drive both.1)
]

before_then : (a b c : Drive) → is_before a b ≡ true → is_before b c ≡ true → is_before a c ≡ true
before_then a b c one two = elim (before a b one) [
  | inl less ↦ elim (before b c two) [
    | inl again ↦ earlier_node a c (omega (arith, less, again))
    | inr here ↦ let same = here.0 in earlier_node a c (omega (arith, less, same))
  ]
  | inr here ↦
      let same = here.0 in
      let drives = here.1 in
      elim (before b c two) [
        | inl less ↦ earlier_node a c (omega (arith, less, same))
        | inr there ↦
            let more = there.1 in
            earlier_drive a c (same ∙ there.0) (omega (arith, drives, more))
      ]
]

not_itself : (a b : Drive) → is_before a b ≡ true → same_drive b a ≡ false
not_itself a b h = elim (before a b h) [
  | inl less ↦ and_left _ _ (ne_eqb b.node a.node (λ same. absurd (omega (arith, less, same))))
  | inr here ↦ let drives = here.1 in and_right _ _ (ne_eqb b.drive a.drive (λ same. absurd (omega (arith, drives, same))))
]

not_under : (s t : Place) → is_under s t ≡ false → s.drive ≡ t.drive → t.slot < s.slot
not_under s t h same = elim (and_cases _ _ h) [
  | inl other ↦ absurd (true≢false (sym (same_drive-self t.drive) ∙ sym (ap (same_drive t.drive) same) ∙ other))
  | inr above ↦ leb-false s.slot t.slot above
]

-- what comes before a place is not under it
above : (s t : Place) → ComesBefore s t → is_under s t ≡ false
above s t (inl drives) = and_left _ _ (not_itself s.drive t.drive drives)
above s t (inr on) = and_right _ _ (lt-leb s.slot t.slot on.1)

-- behind the last element that passes none does
pub none_behind : {X : Type 0} (q : X → Bool) (xs : List X) (top at : ℕ) → length xs ≤ at → 1 ≤ count_by q xs
    → (1 ≤ count_by q (take at xs) → (top < at) × ((d : X) → q (get_or xs top d) ≡ true) × (count_by q (take at xs) ≡ count_by q (take (top + 1) xs)))
    → count_by q (drop (top + 1) xs) ≡ 0
none_behind q xs top at all some so_far =
    let whole : count_by q (take at xs) ≡ count_by q xs = ap (λ l. count_by q l) (take_all at xs all) in
    let last = (so_far (omega (arith, whole, some))).2 in
    let parts = sum_by-take-drop (λ x. one_if (q x)) xs (top + 1) in
    omega (arith, whole, last, parts)

-- a list is what stands before a place, what stands there, and what stands behind
split_at : {X : Type 0} (xs : List X) (at : ℕ) (x : X) → at < length xs → x ≡ get_or xs at x → xs ≡ take at xs ++ x ∷ drop (at + 1) xs
split_at xs at x within is =
    sym (set-get_or xs at x) ∙ sym (ap (λ y. Rattle.std.proofs.Common.set xs at y) is) ∙ set_split xs at x within
    ∙ ap (λ n. take at xs ++ x ∷ drop n xs) (sym (add-one at))

module _ {S : Type 0} (place_of : S → RawPlace) where
  abbrev placed : S → Place
  placed x = place_from (place_of x)

  abbrev all_placed : List S → List Place
  all_placed slots = map (λ x. placed x) slots

  count-cons : (p : Place → Bool) (x : S) (xs : List S) → count_at place_of p (x ∷ xs) ≡ one_if (p (placed x)) + count_at place_of p xs
  count-cons p x xs = sum_by-cons (λ y. one_if (p (placed y))) x xs

  -- what comes before all slots of a list comes before those that are left of it
  all_taken : (s : Place) (x : S) (front back : List S) → AllByRecursion (ComesBefore s) (all_placed (front ++ x ∷ back))
      → ComesBefore s (placed x) × AllByRecursion (ComesBefore s) (all_placed (front ++ back))
  all_taken s x [] back h = (h.0, h.1)
  all_taken s x (y ∷ ys) back h = let rest = all_taken s x ys back h.1 in (rest.0, (h.0, rest.1))

  all_put : (s : Place) (x : S) (front back : List S) → ComesBefore s (placed x) → AllByRecursion (ComesBefore s) (all_placed (front ++ back))
      → AllByRecursion (ComesBefore s) (all_placed (front ++ x ∷ back))
  all_put s x [] back here h = (here, h)
  all_put s x (y ∷ ys) back here h = (h.0, all_put s x ys back here h.1)

  -- slots in order stay so where one is taken
  pub taken_in_order : (x : S) (front back : List S) → StandInOrder place_of (front ++ x ∷ back) → StandInOrder place_of (front ++ back)
  taken_in_order x [] back h = h.1
  taken_in_order x (y ∷ ys) back h = ((all_taken (placed y) x ys back h.0).1, taken_in_order x ys back h.1)

  none_under : (x : S) (back : List S) → count_at place_of (λ s. same_drive (placed x).drive s.drive) back ≡ 0 → HasLowerNumber place_of back x
  none_under x [] none = refl
  none_under x (y ∷ ys) none =
      let both = none_of _ _ _ (count-cons (λ s. same_drive (placed x).drive s.drive) y ys) none in
      let here : one_if (is_under (placed y) (placed x)) ≡ 0 = ap one_if (and_left _ _ both.0) in
      let rest = none_under x ys both.1 in
      let sum = count-cons (λ s. is_under s (placed x)) y ys in
      omega (arith, here, rest, sum)

  -- the last slot of a drive has the lowest number of those on it
  pub top_is_lowest : (x : S) (front back : List S) → StandInOrder place_of (front ++ x ∷ back)
      → count_at place_of (λ s. same_drive (placed x).drive s.drive) back ≡ 0 → HasLowerNumber place_of (front ++ back) x
  top_is_lowest x [] back h none = none_under x back none
  top_is_lowest x (y ∷ ys) back h none =
      let before = (all_taken (placed y) x ys back h.0).0 in
      let here : one_if (is_under (placed y) (placed x)) ≡ 0 = ap one_if (above (placed y) (placed x) before) in
      let rest = top_is_lowest x ys back h.1 none in
      let sum = count-cons (λ s. is_under s (placed x)) y (ys ++ back) in
      omega (arith, here, rest, sum)

  -- the list is empty or begins with a slot of a drive behind that of the place
  abbrev pub BeginsBehind : Place → List S → Type 0
  BeginsBehind s [] = Unit {0}
  BeginsBehind s (y ∷ ys) = is_before s.drive (placed y).drive ≡ true

  before_later : (s t u : Place) → is_before s.drive t.drive ≡ true → ComesBefore t u → ComesBefore s u
  before_later s t u h (inl next) = inl (before_then s.drive t.drive u.drive h next)
  before_later s t u h (inr on) = inl (sym (ap (is_before s.drive) on.0) ∙ h)

  all_behind : (s t : Place) (slots : List S) → is_before s.drive t.drive ≡ true → AllByRecursion (ComesBefore t) (all_placed slots) → AllByRecursion (ComesBefore s) (all_placed slots)
  all_behind s t [] h all = tt
  all_behind s t (y ∷ ys) h all = (before_later s t (placed y) h all.0, all_behind s t ys h all.1)

  begins_behind : (x : S) (back : List S) → BeginsBehind (placed x) back → StandInOrder place_of back → AllByRecursion (ComesBefore (placed x)) (all_placed back)
  begins_behind x [] h order = tt
  begins_behind x (y ∷ ys) h order = (inl h, all_behind (placed x) (placed y) ys h order.0)

  -- slots in order stay so where one is put on top of its drive's stack that has a lower number than the slots on it
  pub put_in_order : (x : S) (front back : List S) → count_at place_of (λ s. is_before (placed x).drive s.drive) front ≡ 0 → BeginsBehind (placed x) back
      → StandInOrder place_of (front ++ back) → HasLowerNumber place_of (front ++ back) x → StandInOrder place_of (front ++ x ∷ back)
  put_in_order x [] back none first h lower = (begins_behind x back first h, h)
  put_in_order x (y ∷ ys) back none first h lower =
      let here = none_of _ _ _ (count-cons (λ s. is_before (placed x).drive s.drive) y ys) none in
      let free = none_of _ _ _ (count-cons (λ s. is_under s (placed x)) y (ys ++ back)) lower in
      let before : ComesBefore (placed y) (placed x) = elim (not_behind (placed x).drive (placed y).drive here.0) [
        | inl earlier ↦ inl earlier
        | inr on ↦ inr (on, not_under (placed y) (placed x) free.0 on)
      ] in
      (all_put (placed y) x ys back before h.0, put_in_order x ys back here.1 first h.1 free.1)

  -- a drive's top slot was taken
  pub taken : (free new : List S) (at : ℕ) (x : S) (drive : Drive) → at < length free → x ≡ get_or free at x → new ≡ take at free ++ drop (at + 1) free
      → same_drive drive (placed x).drive ≡ true → count_at place_of (λ s. same_drive drive s.drive) (drop (at + 1) free) ≡ 0
      → StandInOrder place_of free → StandInOrder place_of new × HasLowerNumber place_of new x
  taken free new at x drive within is left on none order =
      let whole = subst (λ (l : List S). StandInOrder place_of l) (split_at free at x within is) order in
      let none_of_its = subst (λ (d : Drive). count_at place_of (λ s. same_drive d s.drive) (drop (at + 1) free) ≡ 0) (same_drive-eq drive (placed x).drive on) none in (
        subst (λ (l : List S). StandInOrder place_of l) (sym left) (taken_in_order x (take at free) (drop (at + 1) free) whole),
        subst (λ (l : List S). HasLowerNumber place_of l x) (sym left) (top_is_lowest x (take at free) (drop (at + 1) free) whole none_of_its),
      )

  begins_at : (s : Place) (slots : List S) (at : ℕ) → ((d : S) → at < length slots → is_before s.drive (placed (get_or slots at d)).drive ≡ true)
      → BeginsBehind s (drop at slots)
  begins_at s [] ℕ.zero h = tt
  begins_at s [] (ℕ.suc n) h = tt
  begins_at s (y ∷ ys) ℕ.zero h = h y (omega arith)
  begins_at s (y ∷ ys) (ℕ.suc n) h = begins_at s ys n (λ d within. h d (omega arith))

  -- a slot was put where its drive's stack ends
  pub put : (free new : List S) (at : ℕ) (x : S) → new ≡ take at free ++ x ∷ drop at free
      → count_at place_of (λ s. is_before (placed x).drive s.drive) (take at free) ≡ 0
      → ((d : S) → at < length free → is_before (placed x).drive (placed (get_or free at d)).drive ≡ true)
      → StandInOrder place_of free → HasLowerNumber place_of free x → StandInOrder place_of new
  put free new at x grown front back order lower =
      let whole : free ≡ take at free ++ drop at free = sym (take-append-drop at free) in
      subst (λ (l : List S). StandInOrder place_of l) (sym grown)
      (put_in_order x (take at free) (drop at free) front (begins_at (placed x) free at back)
      (subst (λ (l : List S). StandInOrder place_of l) whole order) (subst (λ (l : List S). HasLowerNumber place_of l x) whole lower))
