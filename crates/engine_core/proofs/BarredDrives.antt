-- Bars that are drives of the cluster are few.
use Rattle.std.proofs.Common.{◌≡◌, ℕ, zero, suc, ◌+◌, ◌*◌, ◌<◌, ◌≤◌, inl, inr, Bool, true, false, cond, ◌&&◌, [], ◌∷◌, length, length-append, refl, ap, ◌∙◌, subst, arith, nat_le, lit≤}
use Rattle.std.proofs.lemmas.Bool.{cases_lt}
use Rattle.std.proofs.lemmas.Bool.Decides.{nat_tests}
use Rattle.std.proofs.lemmas.List.Elements.{filter-append}
use Rattle.std.specs.List.{filter}
use Rattle.domains.specs.Drive.{Drive, IsDrive}
use Rattle.domains.specs.DriveSet.{has}
use Rattle.domains.specs.Shape.{IsShape, Shape, is_of}
use Rattle.domains.specs.declared.drive_set.DriveSet.{DriveSet}
use Rattle.checkpoints.specs.Saved.{all_drives, drives_of, drives_on, drives_up_to}

module _ (shape : Shape) (set : DriveSet) (within : (d : Drive) → IsDrive d → has set d ≡ true → is_of shape d ≡ true) where
  abbrev count_on : ℕ → ℕ → ℕ
  count_on node k = length (filter (has set) (drives_on node k))

  abbrev one : Bool → ℕ
  one t = cond t 1 0

  on_next : (node k : ℕ) → count_on node (suc k) ≡ count_on node k + one (has set (record { node = node; drive = suc k }))
  on_next node k =
      ap length (filter-append (has set) (drives_on node k) (record { node = node; drive = suc k } ∷ []))
      ∙ length-append (filter (has set) (drives_on node k)) (filter (has set) (record { node = node; drive = suc k } ∷ []))
      ∙ ap (λ n. count_on node k + n) (one_long (record { node = node; drive = suc k }))
    where
      one_long : (d : Drive) → length (filter (has set) (d ∷ [])) ≡ one (has set d)
      one_long d = elim (has set d) as (λ t. length (cond t (d ∷ []) []) ≡ cond t 1 0) [ true ↦ refl | false ↦ refl ]

  of_cluster : (node k : ℕ) → 1 ≤ node → node ≤ 32 → suc k ≤ 16 → has set (record { node = node; drive = suc k }) ≡ true → (node ≤ shape.nodes) × (suc k ≤ shape.drives)
  of_cluster node k some few small here = parts (within (record { node = node; drive = suc k }) (record { some_node = some; nodes = few; some_drive = omega arith; drives = small }) here)
    where
      and_split : (x y : Bool) → x && y ≡ true → (x ≡ true) × (y ≡ true)
      and_split true y h = (refl, h)
      and_split false y h = absurd cc

      le_from : (m n : ℕ) → nat_le m n ≡ true → m ≤ n
      le_from m n test = grind (arith, nat_tests)

      parts : is_of shape (record { node = node; drive = suc k }) ≡ true → (node ≤ shape.nodes) × (suc k ≤ shape.drives)
      parts h =
          let both = (and_split (nat_le 1 node && nat_le 1 (suc k)) (nat_le node shape.nodes && nat_le (suc k) shape.drives) h).1 in
          let each = and_split (nat_le node shape.nodes) (nat_le (suc k) shape.drives) both in
          (le_from node shape.nodes each.0, le_from (suc k) shape.drives each.1)

  few_on : (node k : ℕ) → 1 ≤ node → node ≤ 32 → k ≤ 16 → (count_on node k ≤ k) × (count_on node k ≤ shape.drives)
  few_on node zero some few small = (omega arith, omega arith)
  few_on node (suc k) some few small =
      let before = few_on node k some few (omega (arith, small)) in
      let next = on_next node k in
      elim (has set (record { node = node; drive = suc k })) as (λ t. has set (record { node = node; drive = suc k }) ≡ t → count_on node (suc k) ≡ count_on node k + cond t 1 0 → (count_on node (suc k) ≤ suc k) × (count_on node (suc k) ≤ shape.drives)) [
        | true ↦ λ here counted. let of = of_cluster node k some few small here in (omega (arith, counted, before.0), omega (arith, counted, before.0, of.1))
        | false ↦ λ _ counted. (omega (arith, counted, before.0), omega (arith, counted, before.1))
      ] refl next

  none_on : (node k : ℕ) → 1 ≤ node → node ≤ 32 → k ≤ 16 → shape.nodes < node → count_on node k ≡ 0
  none_on node zero some few small past = refl
  none_on node (suc k) some few small past =
      let before = none_on node k some few (omega (arith, small)) past in
      elim (has set (record { node = node; drive = suc k })) as (λ t. has set (record { node = node; drive = suc k }) ≡ t → count_on node (suc k) ≡ count_on node k + cond t 1 0 → count_on node (suc k) ≡ 0) [
        | true ↦ λ here _. let of = of_cluster node k some few small here in absurd (omega (arith, past, of.0))
        | false ↦ λ _ counted. omega (arith, counted, before)
      ] refl (on_next node k)

  abbrev count_to : ℕ → ℕ
  count_to n = length (filter (has set) (drives_up_to n))

  to_next : (n : ℕ) → count_to (suc n) ≡ count_to n + count_on (suc n) 16
  to_next n = ap length (filter-append (has set) (drives_up_to n) (drives_on (suc n) 16)) ∙ length-append (filter (has set) (drives_up_to n)) (filter (has set) (drives_on (suc n) 16))

  times_next : (n d : ℕ) → suc n * d ≡ n * d + d
  times_next n d = grind arith

  few_to : (n : ℕ) → n ≤ 32 → (n ≤ shape.nodes → count_to n ≤ n * shape.drives) × (shape.nodes ≤ n → count_to n ≤ shape.nodes * shape.drives)
  few_to zero few = ((λ _. omega arith), (λ none. omega arith))
  few_to (suc n) few =
      let before = few_to n (omega (arith, few)) in
      let next = to_next n in
      let here = (few_on (suc n) 16 (omega arith) few (lit≤ tt)).1 in
      let product = times_next n shape.drives in
      let inside : suc n ≤ shape.nodes → count_to (suc n) ≤ suc n * shape.drives = λ under. let was = before.0 (omega (arith, under)) in omega (arith, next, here, product, was) in (
        inside,
        λ over. elim (cases_lt shape.nodes (suc n)) [
          | inl past ↦ let none = none_on (suc n) 16 (omega arith) few (lit≤ tt) past in let was = before.1 (omega (arith, past)) in omega (arith, next, none, was)
          | inr not_past ↦ let same : suc n ≡ shape.nodes = omega (arith, over, not_past) in subst (λ m. count_to (suc n) ≤ m * shape.drives) same (inside (omega (arith, same)))
        ],
      )

  pub few_barred : IsShape shape → length (drives_of set) ≤ 200
  unfolding all_drives
  few_barred limits = let most = (few_to 32 (lit≤ tt)).1 limits.nodes in let all = limits.all_drives in omega (arith, most, all)
