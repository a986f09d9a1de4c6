-- How many places of a cluster pass a test.
use Rattle.std.proofs.Common.{◌≡◌, ℕ, ◌+◌, ◌<◌, ◌≤◌, ◌==◌, ◌⊎◌, inl, inr, nat_lt, nat_le, Bool, true, false, cond, not, ◌&&◌, List, [], ◌∷◌, ◌++◌, map, count_by, refl, ap, sym, ◌∙◌, subst, arith}
use Rattle.std.proofs.lemmas.Bool.{cases_lt}
use Rattle.std.proofs.lemmas.Bool.Decides.{nat_tests}
use Rattle.std.proofs.lemmas.List.Sums.{sum_by-append, sum_by-cons}
use Rattle.flex_io.specs.declared.raw_place.RawPlace.{RawPlace}
use Rattle.domains.specs.Drive.{Drive, IsDrive, same_drive}
use Rattle.domains.specs.Place.{Place, same_place, is_place_of}
use Rattle.domains.specs.Shape.{Shape, is_of}
use Rattle.held_slots.specs.Slots.{place_from, count_at, places_from}
use Rattle.plain_file.specs.Slots.{AreOf}
use Rattle.flex_run.specs.StockOrder.{drive_stack, node_stacks, all_stacks, stock_order}

abbrev one_of : Bool → ℕ
one_of b = cond b 1 0

count_by-cons : {X : Type 0} (p : X → Bool) (x : X) (xs : List X) → count_by p (x ∷ xs) ≡ one_of (p x) + count_by p xs
count_by-cons p x xs = sum_by-cons (λ y. cond (p y) 1 0) x xs

count_by-append : {X : Type 0} (p : X → Bool) (xs ys : List X) → count_by p (xs ++ ys) ≡ count_by p xs + count_by p ys
count_by-append p xs ys = sum_by-append (λ y. cond (p y) 1 0) xs ys

pub count_by-map : {X Y : Type 0} (p : Y → Bool) (f : X → Y) (xs : List X) → count_by (λ x. p (f x)) xs ≡ count_by p (map f xs)
count_by-map p f [] = refl
count_by-map p f (x ∷ xs) =
    count_by-cons (λ y. p (f y)) x xs ∙ ap (λ n. one_of (p (f x)) + n) (count_by-map p f xs) ∙ sym (count_by-cons p (f x) (map f xs))

-- slots that stand in stock order are counted by their places
pub count_at-stock : {S : Type 0} (place_of : S → RawPlace) (slots : List S) (shape : Shape) (p : Place → Bool) → places_from place_of slots ≡ stock_order shape
    → count_at place_of p slots ≡ count_by p (stock_order shape)
count_at-stock place_of slots shape p order =
    count_by-map p (λ x. place_from (place_of x)) slots ∙ ap (λ (l : List Place). count_by p l) order

drive_stack-count : (p : Place → Bool) (k : ℕ) (d : Drive) → count_by p (drive_stack (ℕ.suc k) d) ≡ one_of (p (record { drive = d; slot = k })) + count_by p (drive_stack k d)
drive_stack-count p k d = count_by-cons p (record { drive = d; slot = k }) (drive_stack k d)

node_stacks-count : (p : Place → Bool) (k node slots : ℕ)
    → count_by p (node_stacks (ℕ.suc k) node slots) ≡ count_by p (node_stacks k node slots) + count_by p (drive_stack slots (record { node = node; drive = ℕ.suc k }))
node_stacks-count p k node slots = count_by-append p (node_stacks k node slots) (drive_stack slots (record { node = node; drive = ℕ.suc k }))

all_stacks-count : (p : Place → Bool) (n : ℕ) (shape : Shape)
    → count_by p (all_stacks (ℕ.suc n) shape) ≡ count_by p (all_stacks n shape) + count_by p (node_stacks shape.drives (ℕ.suc n) shape.slots)
all_stacks-count p n shape = count_by-append p (all_stacks n shape) (node_stacks shape.drives (ℕ.suc n) shape.slots)

-- all places are of the cluster
module _ (shape : Shape) where
  abbrev outside : Place → Bool
  outside s = not (is_place_of shape s)

  inside : (node drive slot : ℕ) → 1 ≤ node → node ≤ shape.nodes → 1 ≤ drive → drive ≤ shape.drives → slot < shape.slots
      → outside (record { drive = record { node = node; drive = drive }; slot = slot }) ≡ false
  inside node drive slot a b c d e =
      let p : nat_le 1 node ≡ true = grind (arith, nat_tests) in
      let q : nat_le 1 drive ≡ true = grind (arith, nat_tests) in
      let r : nat_le node shape.nodes ≡ true = grind (arith, nat_tests) in
      let s : nat_le drive shape.drives ≡ true = grind (arith, nat_tests) in
      let t : nat_lt slot shape.slots ≡ true = grind (arith, nat_tests) in
      rw (p, q, r, s, t) refl

  drive_inside : (k node drive : ℕ) → 1 ≤ node → node ≤ shape.nodes → 1 ≤ drive → drive ≤ shape.drives → k ≤ shape.slots
      → count_by outside (drive_stack k (record { node = node; drive = drive })) ≡ 0
  drive_inside ℕ.zero node drive a b c d e = refl
  drive_inside (ℕ.suc k) node drive a b c d e =
      let rest = drive_inside k node drive a b c d (omega arith) in
      let here = ap one_of (inside node drive k a b c d (omega arith)) in
      let sum = drive_stack-count outside k (record { node = node; drive = drive }) in
      omega (arith, rest, here, sum)

  node_inside : (k node : ℕ) → 1 ≤ node → node ≤ shape.nodes → k ≤ shape.drives → count_by outside (node_stacks k node shape.slots) ≡ 0
  node_inside ℕ.zero node a b c = refl
  node_inside (ℕ.suc k) node a b c =
      let rest = node_inside k node a b (omega arith) in
      let here = drive_inside shape.slots node (ℕ.suc k) a b (omega arith) c (omega arith) in
      let sum = node_stacks-count outside k node shape.slots in
      omega (arith, rest, here, sum)

  all_inside : (n : ℕ) → n ≤ shape.nodes → count_by outside (all_stacks n shape) ≡ 0
  all_inside ℕ.zero a = refl
  all_inside (ℕ.suc n) a =
      let rest = all_inside n (omega arith) in
      let here = node_inside shape.drives (ℕ.suc n) (omega arith) a (omega arith) in
      let sum = all_stacks-count outside n shape in
      omega (arith, rest, here, sum)

-- slots in stock order are of the cluster
pub AreOf-stock : {S : Type 0} (place_of : S → RawPlace) (slots : List S) (shape : Shape) → places_from place_of slots ≡ stock_order shape → AreOf place_of shape slots
AreOf-stock place_of slots shape order =
    count_at-stock place_of slots shape (λ s. not (is_place_of shape s)) order ∙ all_inside shape shape.nodes (omega arith)

-- each place stands there once
module _ (s : Place) where
  at_slot : (d : Drive) (k : ℕ) → one_of (same_place s (record { drive = d; slot = k })) ≤ one_of (same_drive s.drive d)
  at_slot d k = elim (same_drive s.drive d) as (λ b. one_of (b && (s.slot == k)) ≤ one_of b)
      [ true ↦ elim (s.slot == k) as (λ b. one_of b ≤ 1) [ true ↦ omega arith | false ↦ omega arith ] | false ↦ omega arith ]

  other_slot : (d : Drive) (k : ℕ) → (k < s.slot) ⊎ (s.slot < k) → one_of (same_place s (record { drive = d; slot = k })) ≡ 0
  other_slot d k apart =
      let differ : (s.slot == k) ≡ false = elim apart [ inl below ↦ grind (arith, nat_tests) | inr above ↦ grind (arith, nat_tests) ] in
      elim (same_drive s.drive d) as (λ b. one_of (b && (s.slot == k)) ≡ 0) [ true ↦ ap one_of differ | false ↦ refl ]

  drive_below : (k : ℕ) (d : Drive) → k ≤ s.slot → count_by (same_place s) (drive_stack k d) ≡ 0
  drive_below ℕ.zero d below = refl
  drive_below (ℕ.suc k) d below =
      let rest = drive_below k d (omega arith) in
      let here = other_slot d k (inl (omega arith)) in
      let sum = drive_stack-count (same_place s) k d in
      omega (arith, rest, here, sum)

  -- the last slot counted is this one, or none of the later
  drive_once : (k : ℕ) (d : Drive) → count_by (same_place s) (drive_stack k d) ≤ one_of (same_drive s.drive d)
  drive_once ℕ.zero d = elim (same_drive s.drive d) as (λ b. 0 ≤ one_of b) [ true ↦ omega arith | false ↦ omega arith ]
  drive_once (ℕ.suc k) d =
      let rest = drive_once k d in
      let here = at_slot d k in
      let sum = drive_stack-count (same_place s) k d in
      elim (cases_lt s.slot k) [
        | inl later ↦ let none = other_slot d k (inr later) in omega (arith, rest, sum, none)
        | inr within ↦ let none = drive_below k d within in omega (arith, here, sum, none)
      ]

  abbrev on_node : ℕ → Bool
  on_node node = s.drive.node == node

  other_drive : (k node drive : ℕ) → (drive < s.drive.drive) ⊎ (s.drive.drive < drive) → count_by (same_place s) (drive_stack k (record { node = node; drive = drive })) ≡ 0
  other_drive k node drive apart =
      let differ : (s.drive.drive == drive) ≡ false = elim apart [ inl below ↦ grind (arith, nat_tests) | inr above ↦ grind (arith, nat_tests) ] in
      let none : one_of (same_drive s.drive (record { node = node; drive = drive })) ≡ 0 =
      elim (on_node node) as (λ b. one_of (b && (s.drive.drive == drive)) ≡ 0) [ true ↦ ap one_of differ | false ↦ refl ] in
      let most = drive_once k (record { node = node; drive = drive }) in
      omega (arith, none, most)

  here_drive : (k node drive : ℕ) → count_by (same_place s) (drive_stack k (record { node = node; drive = drive })) ≤ one_of (on_node node)
  here_drive k node drive =
      let most = drive_once k (record { node = node; drive = drive }) in
      let less : one_of (same_drive s.drive (record { node = node; drive = drive })) ≤ one_of (on_node node) =
      elim (on_node node) as (λ b. one_of (b && (s.drive.drive == drive)) ≤ one_of b)
      [ true ↦ elim (s.drive.drive == drive) as (λ b. one_of b ≤ 1) [ true ↦ omega arith | false ↦ omega arith ] | false ↦ omega arith ] in
      omega (arith, most, less)

  node_below : (k node slots : ℕ) → k < s.drive.drive → count_by (same_place s) (node_stacks k node slots) ≡ 0
  node_below ℕ.zero node slots below = refl
  node_below (ℕ.suc k) node slots below =
      let rest = node_below k node slots (omega arith) in
      let here = other_drive slots node (ℕ.suc k) (inl below) in
      let sum = node_stacks-count (same_place s) k node slots in
      omega (arith, rest, here, sum)

  node_once : (k node slots : ℕ) → count_by (same_place s) (node_stacks k node slots) ≤ one_of (on_node node)
  node_once ℕ.zero node slots = elim (on_node node) as (λ b. 0 ≤ one_of b) [ true ↦ omega arith | false ↦ omega arith ]
  node_once (ℕ.suc k) node slots =
      let rest = node_once k node slots in
      let here = here_drive slots node (ℕ.suc k) in
      let sum = node_stacks-count (same_place s) k node slots in
      elim (cases_lt k s.drive.drive) [
        | inl below ↦ let none = node_below k node slots below in omega (arith, here, sum, none)
        | inr above ↦ let none = other_drive slots node (ℕ.suc k) (inr (omega arith)) in omega (arith, rest, sum, none)
      ]

  other_node : (k node slots : ℕ) → (node < s.drive.node) ⊎ (s.drive.node < node) → count_by (same_place s) (node_stacks k node slots) ≡ 0
  other_node k node slots apart =
      let differ : on_node node ≡ false = elim apart [ inl below ↦ grind (arith, nat_tests) | inr above ↦ grind (arith, nat_tests) ] in
      let none = ap one_of differ in
      let most = node_once k node slots in
      omega (arith, none, most)

  here_node : (k node slots : ℕ) → count_by (same_place s) (node_stacks k node slots) ≤ 1
  here_node k node slots =
      let most = node_once k node slots in
      let less : one_of (on_node node) ≤ 1 = elim (on_node node) as (λ b. one_of b ≤ 1) [ true ↦ omega arith | false ↦ omega arith ] in
      omega (arith, most, less)

  all_below : (n : ℕ) (shape : Shape) → n < s.drive.node → count_by (same_place s) (all_stacks n shape) ≡ 0
  all_below ℕ.zero shape below = refl
  all_below (ℕ.suc n) shape below =
      let rest = all_below n shape (omega arith) in
      let here = other_node shape.drives (ℕ.suc n) shape.slots (inl below) in
      let sum = all_stacks-count (same_place s) n shape in
      omega (arith, rest, here, sum)

  all_once : (n : ℕ) (shape : Shape) → count_by (same_place s) (all_stacks n shape) ≤ 1
  all_once ℕ.zero shape = omega arith
  all_once (ℕ.suc n) shape =
      let rest = all_once n shape in
      let here = here_node shape.drives (ℕ.suc n) shape.slots in
      let sum = all_stacks-count (same_place s) n shape in
      elim (cases_lt n s.drive.node) [
        | inl below ↦ let none = all_below n shape below in omega (arith, here, sum, none)
        | inr above ↦ let none = other_node shape.drives (ℕ.suc n) shape.slots (inr (omega arith)) in omega (arith, rest, sum, none)
      ]

-- no place comes twice among slots in stock order
pub one_each-stock : {S : Type 0} (place_of : S → RawPlace) (slots : List S) (shape : Shape) (s : Place) → places_from place_of slots ≡ stock_order shape
    → count_at place_of (same_place s) slots ≤ 1
one_each-stock place_of slots shape s order =
    let same = count_at-stock place_of slots shape (same_place s) order in
    let once = all_once s shape.nodes shape in
    omega (arith, same, once)

-- each drive has all its slots
module _ (d : Drive) where
  abbrev its : Place → Bool
  its s = same_drive d s.drive

  itself : (e : Drive) → d ≡ e → same_drive d e ≡ true
  itself e same = let n : (d.node == d.node) ≡ true = grind (arith, nat_tests) in let k : (d.drive == d.drive) ≡ true = grind (arith, nat_tests) in
      subst (λ (f : Drive). same_drive d f ≡ true) same (rw (n, k) refl)

  drive_full : (k : ℕ) (e : Drive) → d ≡ e → count_by its (drive_stack k e) ≡ k
  drive_full ℕ.zero e same = refl
  drive_full (ℕ.suc k) e same =
      let rest = drive_full k e same in
      let here = ap one_of (itself e same) in
      let sum = drive_stack-count its k e in
      omega (arith, rest, here, sum)

  node_full : (k slots : ℕ) → 1 ≤ d.drive → d.drive ≤ k → slots ≤ count_by its (node_stacks k d.node slots)
  node_full ℕ.zero slots some within = absurd (omega arith)
  node_full (ℕ.suc k) slots some within =
      let sum = node_stacks-count its k d.node slots in
      elim (cases_lt k d.drive) [
        | inl last ↦
            let number : d.drive ≡ ℕ.suc k = omega arith in
            let full = drive_full slots (record { node = d.node; drive = ℕ.suc k }) (ap (λ (n : ℕ). let e : Drive = record { node = d.node; drive = n } in e) number) in
            omega (arith, full, sum)
        | inr earlier ↦ let rest = node_full k slots some earlier in omega (arith, rest, sum)
      ]

  all_full : (n : ℕ) (shape : Shape) → 1 ≤ d.node → d.node ≤ n → 1 ≤ d.drive → d.drive ≤ shape.drives → shape.slots ≤ count_by its (all_stacks n shape)
  all_full ℕ.zero shape some within first last = absurd (omega arith)
  all_full (ℕ.suc n) shape some within first last =
      let sum = all_stacks-count its n shape in
      elim (cases_lt n d.node) [
        | inl here ↦
            let number : d.node ≡ ℕ.suc n = omega arith in
            let full = subst (λ (k : ℕ). shape.slots ≤ count_by its (node_stacks shape.drives k shape.slots)) number (node_full shape.drives shape.slots first last) in
            omega (arith, full, sum)
        | inr earlier ↦ let rest = all_full n shape some earlier first last in omega (arith, rest, sum)
      ]

both_true : (a b : Bool) → (a && b) ≡ true → (a ≡ true) × (b ≡ true)
both_true true b h = (refl, h)
both_true false b h = absurd (cc)

pub is_of-within : (shape : Shape) (d : Drive) → is_of shape d ≡ true → (d.node ≤ shape.nodes) × (d.drive ≤ shape.drives)
is_of-within shape d h =
    let counted = both_true (nat_le 1 d.node && nat_le 1 d.drive) (nat_le d.node shape.nodes && nat_le d.drive shape.drives) h in
    let both = both_true (nat_le d.node shape.nodes) (nat_le d.drive shape.drives) counted.1 in
    let first = both.0 in
    let second = both.1 in
    (grind (arith, nat_tests, first), grind (arith, nat_tests, second))

-- each drive of the cluster has all its slots among slots in stock order
pub room-stock : {S : Type 0} (place_of : S → RawPlace) (slots : List S) (shape : Shape) (d : Drive) → places_from place_of slots ≡ stock_order shape
    → IsDrive d → is_of shape d ≡ true → shape.slots ≤ count_at place_of (λ s. same_drive d s.drive) slots
room-stock place_of slots shape d order is of =
    let within = is_of-within shape d of in
    let same = count_at-stock place_of slots shape (λ s. same_drive d s.drive) order in
    let full = all_full d shape.nodes shape is.some_node within.0 is.some_drive within.1 in
    omega (arith, same, full)
