-- A set to which drives are added one by one.
use Rattle.std.proofs.Common.{◌≡◌, ℕ, ◌+◌, ◌-◌, ◌*◌, ◌/◌, ◌%◌, ◌≤◌, Bool, true, false, ◌&&◌, ◌||◌, eqb, nat_lt, refl, sym, ap, ◌∙◌, inl, inr, arith}
use Rattle.std.proofs.lemmas.Bool.{cases_eq, cases_lt, eq-eqb, ne_eqb, lt-ltb, le-ltb, and_from, and_parts, and_left, and_right, or_left, or_right, or_from, eqb-true}
use Rattle.std.specs.Cmp.{both_ways}
use Rattle.domains.specs.Drive.{Drive, IsDrive, same_drive}
use Rattle.domains.specs.DriveSet.{has}
use Rattle.domains.specs.declared.drive_set.DriveSet.{DriveSet}
use Rattle.domains.proofs.DriveLemmas.{same_drive-eq}

-- how many drives come before this one, with room for 16 on each node
abbrev pub rank_of : Drive → ℕ
rank_of d = (d.node - 1) * 16 + (d.drive - 1)

abbrev pub drive_at : ℕ → Drive
drive_at rank = record { node = rank / 16 + 1; drive = rank % 16 + 1 }

-- the drive is among these, and its rank is below this one
abbrev pub is_before : DriveSet → ℕ → Drive → Bool
is_before drives rank d = has drives d && nat_lt (rank_of d) rank

either : (a b p q : Bool) → (a || (b && p)) || (b && q) ≡ a || (b && (p || q))
either true b p q = refl
either false true p q = refl
either false false p q = refl

lt-more : (x r : ℕ) → nat_lt x (r + 1) ≡ nat_lt x r || eqb x r
lt-more x r =
    elim (cases_eq x r) [
      | inl same ↦ lt-ltb x (r + 1) (omega (arith, same)) ∙ sym (or_right (nat_lt x r) (eqb x r) (eq-eqb x r same))
      | inr other ↦ elim (cases_lt x r) [
        | inl below ↦ lt-ltb x (r + 1) (omega (arith, below)) ∙ sym (or_left (nat_lt x r) (eqb x r) (lt-ltb x r below))
        | inr above ↦ le-ltb x (r + 1) (apart above other) ∙ sym (or_from (nat_lt x r) (eqb x r) (le-ltb x r above) (ne_eqb x r other))
      ]
    ]
  where
    apart : r ≤ x → (x ≡ r → ⊥) → r + 1 ≤ x
    apart above other =
        elim (cases_lt r x) [
          | inl less ↦ omega (arith, less)
          | inr not_less ↦ absurd (other (omega (arith, above, not_less)))
        ]

-- a drive is the one of its rank
same_rank : (d : Drive) (r : ℕ) → IsDrive d → same_drive d (drive_at r) ≡ eqb (rank_of d) r
same_rank d r is =
    let some = is.some_node in
    let first = is.some_drive in
    let last = is.drives in
    both_ways (same_drive d (drive_at r)) (eqb (rank_of d) r)
    (λ same.
    let parts = and_parts (eqb d.node (r / 16 + 1)) (eqb d.drive (r % 16 + 1)) same in
    let node = eqb-true d.node (r / 16 + 1) parts.0 in
    let drive = eqb-true d.drive (r % 16 + 1) parts.1 in
    eq-eqb (rank_of d) r (omega (arith, node, drive)))
    (λ same.
    let rank = eqb-true (rank_of d) r same in
    and_from (eqb d.node (r / 16 + 1)) (eqb d.drive (r % 16 + 1)) (eq-eqb d.node (r / 16 + 1) (omega (arith, rank, some, first, last))) (eq-eqb d.drive (r % 16 + 1) (omega (arith, rank, some, first, last))))

-- one more drive is added
pub before-more : (drives : DriveSet) (r : ℕ) (d : Drive) (a : Bool) → IsDrive d
    → (a || is_before drives r d) || (has drives d && same_drive d (drive_at r)) ≡ a || is_before drives (r + 1) d
before-more drives r d a is =
    ap (λ (q : Bool). (a || is_before drives r d) || (has drives d && q)) (same_rank d r is)
    ∙ either a (has drives d) (nat_lt (rank_of d) r) (eqb (rank_of d) r)
    ∙ ap (λ (q : Bool). a || (has drives d && q)) (sym (lt-more (rank_of d) r))

pub before-none : (drives : DriveSet) (d : Drive) (a : Bool) → a ≡ a || is_before drives 0 d
before-none drives d true = refl
before-none drives d false = sym (and_right (has drives d) (nat_lt (rank_of d) 0) (le-ltb (rank_of d) 0 (omega arith)))

pub before-all : (drives : DriveSet) (d : Drive) (a : Bool) → IsDrive d → a || is_before drives 512 d ≡ a || has drives d
before-all drives d a is =
    let last = is.drives in
    let nodes = is.nodes in
    ap (λ (q : Bool). a || q) (ap (λ (q : Bool). has drives d && q) (lt-ltb (rank_of d) 512 (omega (arith, last, nodes))) ∙ and-true (has drives d))
  where
    and-true : (b : Bool) → b && true ≡ b
    and-true true = refl
    and-true false = refl

-- a drive that is one of the set is added
pub added_in : (old drives : DriveSet) (x d : Drive) → has drives x ≡ true → same_drive d x || has old d ≡ has old d || (has drives d && same_drive d x)
added_in old drives x d there =
    elim (same_drive d x) as (λ b. same_drive d x ≡ b → b || has old d ≡ has old d || (has drives d && b)) [
      | true ↦ λ same. sym (or_right (has old d) (has drives d && true) (and_from (has drives d) true (ap (has drives) (same_drive-eq d x same) ∙ there) refl))
      | false ↦ λ same. sym (or-false (has old d) (has drives d && false) (and_right (has drives d) false refl))
    ] refl
  where
    or-false : (a b : Bool) → b ≡ false → a || b ≡ a
    or-false true b none = refl
    or-false false b none = none

pub not_in : (old drives : DriveSet) (x d : Drive) → has drives x ≡ false → has old d ≡ has old d || (has drives d && same_drive d x)
not_in old drives x d none =
    sym (or-false (has old d) (has drives d && same_drive d x) (elim (same_drive d x) as (λ b. same_drive d x ≡ b → has drives d && b ≡ false) [
      | true ↦ λ same. and_left (has drives d) true (ap (has drives) (same_drive-eq d x same) ∙ none)
      | false ↦ λ same. and_right (has drives d) false refl
    ] refl))
  where
    or-false : (a b : Bool) → b ≡ false → a || b ≡ a
    or-false true b none = refl
    or-false false b none = none
