-- How many drives of a node pass a test.
use Rattle.std.proofs.Common.{◌≡◌, ℕ, suc, zero, ◌+◌, ◌≤◌, inl, inr, Bool, true, false, cond, ◌&&◌, ◌||◌, List, [], ◌∷◌, count_by, eqb, refl, sym, ap, subst, ◌∙◌, arith}
use Rattle.std.proofs.lemmas.Bool.{cases_Bool, cases_eq, eq-eqb, ne_eqb, and_from, and_left, and_right, both_ways}
use Rattle.domains.specs.Counts.{one_if}
use Rattle.domains.specs.Drive.{Drive, same_drive, is_in, AreApart}
use Rattle.domains.specs.Room.{drives_on}
use Rattle.domains.proofs.DriveLemmas.{same_drive-eq, is_in-first, is_in-rest}
use Rattle.domains.proofs.CountLemmas.{count_by-cons, one_if-most}
use Rattle.placement_order.specs.Order.{DrawRequest, drives_of}
use Rattle.placement_order.proofs.ApartDrives.{is_in-midst}
use Rattle.placement_order.proofs.NodeDrives.{IsOn, drives_of-on, drives_of-apart, on-drives_of}

abbrev at : ℕ → ℕ → Drive
at node drive = record { node = node; drive = drive }

one_more : (a b : Bool) → (a ≡ true → b ≡ true) → one_if a ≤ one_if b
one_more false b h = omega arith
one_more true b h = let both = ap one_if (h refl) in omega (arith, both)

-- where each drive of the node that passes the one test passes the other, at least as many pass that
pub drives_on-le : (count node : ℕ) (p q : Drive → Bool) → ((d : Drive) → IsOn node count d → p d ≡ true → q d ≡ true)
    → drives_on count node p ≤ drives_on count node q
drives_on-le zero node p q all = omega arith
drives_on-le (suc n) node p q all =
    let last = one_more (p (at node (suc n))) (q (at node (suc n))) (all (at node (suc n)) (record { node_is = refl; some = omega arith; within = omega arith })) in
    let rest = drives_on-le n node p q (λ d on. all d (record { node_is = on.node_is; some = on.some; within = let low = on.within in omega (arith, low) })) in
    omega (arith, last, rest)

-- tests that agree on the drives of the node are passed by as many
pub drives_on-agree : (count node : ℕ) (p q : Drive → Bool) → ((d : Drive) → IsOn node count d → p d ≡ q d) → drives_on count node p ≡ drives_on count node q
drives_on-agree zero node p q same = refl
drives_on-agree (suc n) node p q same =
    let last = ap one_if (same (at node (suc n)) (record { node_is = refl; some = omega arith; within = omega arith })) in
    let rest = drives_on-agree n node p q (λ d on. same d (record { node_is = on.node_is; some = on.some; within = let low = on.within in omega (arith, low) })) in
    omega (arith, last, rest)

or_none : (a b : Bool) → b ≡ false → (a || b) ≡ a
or_none true b h = refl
or_none false b h = h

-- a drive that is none of the node's counts nothing there
drives_on_apart : (count node : ℕ) (p : Drive → Bool) (x : Drive) → ((d : Drive) → IsOn node count d → same_drive x d ≡ false)
    → drives_on count node (λ d. p d || same_drive x d) ≡ drives_on count node p
drives_on_apart count node p x apart = drives_on-agree count node (λ d. p d || same_drive x d) p (λ d on. or_none (p d) (same_drive x d) (apart d on))

one_if_either : (a b : Bool) → a ≡ false → b ≡ true → one_if (a || b) ≡ one_if a + 1
one_if_either true b h k = absurd (both_ways true h refl)
one_if_either false b h k = ap one_if k

-- a drive of the node that did not pass the test counts one more
drives_on_more : (count node : ℕ) (p : Drive → Bool) (x : Drive) → p x ≡ false → IsOn node count x
    → drives_on count node (λ d. p d || same_drive x d) ≡ drives_on count node p + 1
drives_on_more zero node p x out on = let some = on.some in let within = on.within in absurd (omega (arith, some, within))
drives_on_more (suc n) node p x out on =
    let last : Drive = at node (suc n) in
    elim (cases_eq x.drive (suc n)) [
      | inl here ↦
          let this : same_drive x last ≡ true = and_from _ _ (eq-eqb x.node node on.node_is) (eq-eqb x.drive (suc n) here) in
          let not_yet : p last ≡ false = subst (λ d. p d ≡ false) (same_drive-eq x last this) out in
          let one = one_if_either (p last) (same_drive x last) not_yet this in
          let rest = drives_on_apart n node p x (λ d other. and_right _ _ (ne_eqb x.drive d.drive (λ h. let low = other.within in omega (arith, h, here, low)))) in
          omega (arith, one, rest)
      | inr other ↦
          let same = ap one_if (or_none (p last) (same_drive x last) (and_right _ _ (ne_eqb x.drive (suc n) other))) in
          let low : x.drive ≤ n = let within = on.within in omega (arith, within, other) in
          let rest = drives_on_more n node p x out (record { node_is = on.node_is; some = on.some; within = low }) in
          omega (arith, same, rest)
    ]

-- a node has at most all its drives that pass
pub drives_on-most : (count node : ℕ) (p : Drive → Bool) → drives_on count node p ≤ count
drives_on-most zero node p = omega arith
drives_on-most (suc n) node p =
    let rest = drives_on-most n node p in
    let last = one_if-most (p (at node (suc n))) in
    omega (arith, rest, last)

-- if each drive of the node passes one of two tests as often as the first, so do all
pub drives_on-sum : (count node : ℕ) (p q r : Drive → Bool) → ((d : Drive) → IsOn node count d → one_if (p d) ≡ one_if (q d) + one_if (r d))
    → drives_on count node p ≡ drives_on count node q + drives_on count node r
drives_on-sum zero node p q r each = refl
drives_on-sum (suc n) node p q r each =
    let last = each (at node (suc n)) (record { node_is = refl; some = omega arith; within = omega arith }) in
    let rest = drives_on-sum n node p q r (λ d on. each d (record { node_is = on.node_is; some = on.some; within = let low = on.within in omega (arith, low) })) in
    omega (arith, last, rest)

-- one drive more that passes counts on its node
pub drives_on-one : (count node : ℕ) (p : Drive → Bool) (x : Drive) → p x ≡ false → 1 ≤ x.drive → x.drive ≤ count
    → drives_on count node (λ d. p d || same_drive x d) ≡ drives_on count node p + one_if (eqb x.node node)
drives_on-one count node p x out some within = elim (cases_eq x.node node) [
  | inl here ↦
      let one = ap one_if (eq-eqb x.node node here) in
      let more = drives_on_more count node p x out (record { node_is = here; some = some; within = within }) in
      omega (arith, one, more)
  | inr other ↦
      let none = ap one_if (ne_eqb x.node node other) in
      let apart = drives_on_apart count node p x (λ d there. and_left _ _ (ne_eqb x.node d.node (λ h. other (h ∙ there.node_is)))) in
      omega (arith, none, apart)
]

none_of_none : (count node : ℕ) → 0 ≡ drives_on count node (is_in [])
none_of_none zero node = refl
none_of_none (suc n) node = let rest = none_of_none n node in omega (arith, rest)

-- a list in which no drive comes twice has on a node as many drives as are drives of the node that it has
pub counted : (count node : ℕ) (xs : List Drive) → AreApart xs → ((d : Drive) → is_in xs d ≡ true → (1 ≤ d.drive) × (d.drive ≤ count))
    → count_by (λ (d : Drive). eqb d.node node) xs ≡ drives_on count node (is_in xs)
counted count node [] apart within = none_of_none count node
counted count node (x ∷ xs) apart within =
    let this = within x (is_in-first x xs) in
    let step = count_by-cons (λ (d : Drive). eqb d.node node) x xs in
    let more = drives_on-one count node (is_in xs) x apart.0 this.0 this.1 in
    let with_x = drives_on-agree count node (is_in (x ∷ xs)) (λ d. is_in xs d || same_drive x d) (λ d on. is_in-midst [] xs x d) in
    let rest = counted count node xs apart.1 (λ d there. within d (is_in-rest x xs d there)) in
    omega (arith, step, more, with_x, rest)

passing_or : (b c p : Bool) (q : Bool) → q ≡ true → (b ≡ true → p ≡ q) → (cond b true c && p) ≡ ((c && p) || b)
passing_or true true true q h same = refl
passing_or true false true q h same = refl
passing_or true c false q h same = absurd (both_ways false refl (same refl ∙ h))
passing_or false true true q h same = refl
passing_or false true false q h same = refl
passing_or false false p q h same = refl

failing_or : (b c p : Bool) (q : Bool) → q ≡ false → (b ≡ true → p ≡ q) → (cond b true c && p) ≡ (c && p)
failing_or true true p q h same = refl
failing_or true false p q h same = same refl ∙ h
failing_or false c p q h same = refl

-- how many drives of a list pass, if no drive comes twice and all are on one node
counted_passing : (count node : ℕ) (p : Drive → Bool) (xs : List Drive) → AreApart xs → ((d : Drive) → is_in xs d ≡ true → IsOn node count d)
    → count_by p xs ≡ drives_on count node (λ d. is_in xs d && p d)
counted_passing count node p [] apart on = none_of_none count node
counted_passing count node p (x ∷ xs) apart on =
    let this = on x (is_in-first x xs) in
    let step = count_by-cons p x xs in
    let here = ap one_if (eq-eqb x.node node this.node_is) in
    let rest = counted_passing count node p xs apart.1 (λ d there. on d (is_in-rest x xs d there)) in
    let same : (d : Drive) → same_drive x d ≡ true → p d ≡ p x = λ d is. ap p (sym (same_drive-eq x d is)) in
    elim (cases_Bool (p x)) [
      | inl passes ↦
          let all = drives_on-agree count node (λ d. is_in (x ∷ xs) d && p d) (λ d. (is_in xs d && p d) || same_drive x d)
          (λ d on. passing_or (same_drive x d) (is_in xs d) (p d) (p x) passes (same d)) in
          let more = drives_on-one count node (λ d. is_in xs d && p d) x (and_left _ (p x) apart.0) this.some this.within in
          let one = ap one_if passes in
          omega (arith, step, here, rest, all, more, one)
      | inr fails ↦
          let all = drives_on-agree count node (λ d. is_in (x ∷ xs) d && p d) (λ d. is_in xs d && p d)
          (λ d on. failing_or (same_drive x d) (is_in xs d) (p d) (p x) fails (same d)) in
          let none = ap one_if fails in
          omega (arith, step, rest, all, none)
    ]

-- how many of a node's drives pass, in their order and by their numbers
pub drives_of-counted : (s : DrawRequest) (node : ℕ) (p : Drive → Bool) → count_by p (drives_of s node) ≡ drives_on s.shape.drives node p
drives_of-counted s node p =
    counted_passing s.shape.drives node p (drives_of s node) (drives_of-apart s node) (drives_of-on s node)
    ∙ drives_on-agree s.shape.drives node (λ d. is_in (drives_of s node) d && p d) p (λ d on. ap (λ b. b && p d) (on-drives_of s node d on))
