-- A set of drives after one drive is added or removed.
use Rattle.std.proofs.Common.{◌≡◌, ◌≢◌, ℕ, ◌+◌, ◌-◌, ◌*◌, ◌%◌, ◌^◌, ◌<◌, ◌≤◌, Bool, false, not, ◌&&◌, ◌||◌, List, length, set, get_or, eqb, leb, bit_and, bit_or, w16, replicate, cond, ltb, zero, suc, refl, sym, ap, ◌∙◌, inl, inr, arith}
use Rattle.std.specs.Int.{bit_at}
use Rattle.std.proofs.lemmas.Bool.{cases_eq, cases_lt, eq-eqb, ne_eqb, and_from, and_left, and_right, cond-true, cond-false, lt-ltb, le-ltb, le-leb, lt-leb}
use Rattle.std.proofs.lemmas.List.{get_or-set_other}
use Rattle.std.proofs.lemmas.Grind.{get_or-set_at}
use Rattle.std.proofs.lemmas.Nat.Bits.{bit_at-zero, bit_at_ones, bit_at_ones_above, bit_at_set_same, bit_at_set_other, bit_at_clear_same, bit_at_clear_other}
use Rattle.domains.specs.Drive.{Drive, IsDrive, same_drive}
use Rattle.domains.specs.Shape.{Shape, is_of}

-- the bit of a drive in the words of the nodes
abbrev bit_of : List ℕ → Drive → ℕ
bit_of words d = bit_at (get_or words (d.node - 1) 0) (d.drive - 1)

abbrev or_bit : Drive → List ℕ → ℕ
or_bit e words = bit_or (get_or words (e.node - 1) 0) (1 * 2 ^ (e.drive - 1) % 2 ^ 16)

abbrev and_not_bit : Drive → List ℕ → ℕ
and_not_bit e words = bit_and (get_or words (e.node - 1) 0) (2 ^ 16 - 1 - 1 * 2 ^ (e.drive - 1) % 2 ^ 16)

-- the word of another node stays
other_node : (words : List ℕ) (d e : Drive) (w : ℕ) → IsDrive d → IsDrive e → (d.node ≡ e.node → ⊥) → bit_of (set words (e.node - 1) w) d ≡ bit_of words d
other_node words d e w of_d of_e other =
    let apart : (d.node - 1) ≢ (e.node - 1) = λ h. other (omega arith) in
    ap (λ x. bit_at x (d.drive - 1)) (get_or-set_other words (e.node - 1) (d.node - 1) w 0 apart)

-- the word of the node is the new one
this_node : (words : List ℕ) (d e : Drive) (w : ℕ) → length words ≡ 32 → IsDrive e → d.node ≡ e.node → bit_of (set words (e.node - 1) w) d ≡ bit_at w (d.drive - 1)
this_node words d e w all of_e same =
    ap (λ x. bit_at x (d.drive - 1)) (get_or-set_at words (e.node - 1) (d.node - 1) w 0 (omega arith) (omega arith))

same_word : (words : List ℕ) (d e : Drive) → d.node ≡ e.node → get_or words (e.node - 1) 0 ≡ get_or words (d.node - 1) 0
same_word words d e same = ap (λ n. get_or words (n - 1) 0) (sym same)

-- a drive that is added is there, and the others are as they were
pub bit_added : (words : List ℕ) (d e : Drive) → length words ≡ 32 → IsDrive d → IsDrive e
    → eqb (bit_of (set words (e.node - 1) (or_bit e words)) d) 1 ≡ same_drive d e || eqb (bit_of words d) 1
bit_added words d e all of_d of_e =
    elim (cases_eq d.node e.node) [
      | inl same ↦ elim (cases_eq d.drive e.drive) [
        | inl this ↦
            let there : bit_at (or_bit e words) (d.drive - 1) ≡ 1 =
            ap (λ n. bit_at (or_bit e words) (n - 1)) this ∙ bit_at_set_same w16 (get_or words (e.node - 1) 0) (e.drive - 1) (omega arith) in
            eq-eqb _ _ (this_node words d e (or_bit e words) all of_e same ∙ there)
            ∙ sym (ap (λ b. b || eqb (bit_of words d) 1) (and_from _ _ (eq-eqb _ _ same) (eq-eqb _ _ this)))
        | inr other ↦
            let apart : (d.drive - 1) ≢ (e.drive - 1) = λ h. other (omega arith) in
            let kept : bit_at (or_bit e words) (d.drive - 1) ≡ bit_at (get_or words (e.node - 1) 0) (d.drive - 1) =
            bit_at_set_other w16 (get_or words (e.node - 1) 0) (e.drive - 1) (omega arith) (d.drive - 1) apart in
            ap (λ b. eqb b 1) (this_node words d e (or_bit e words) all of_e same ∙ kept ∙ ap (λ w. bit_at w (d.drive - 1)) (same_word words d e same))
            ∙ sym (ap (λ b. b || eqb (bit_of words d) 1) (and_right _ _ (ne_eqb _ _ other)))
      ]
      | inr other ↦
          ap (λ b. eqb b 1) (other_node words d e (or_bit e words) of_d of_e other)
          ∙ sym (ap (λ b. b || eqb (bit_of words d) 1) (and_left _ _ (ne_eqb _ _ other)))
    ]

-- a drive that is removed is not there, and the others are as they were
pub bit_removed : (words : List ℕ) (d e : Drive) → length words ≡ 32 → IsDrive d → IsDrive e
    → eqb (bit_of (set words (e.node - 1) (and_not_bit e words)) d) 1 ≡ not (same_drive d e) && eqb (bit_of words d) 1
bit_removed words d e all of_d of_e =
    elim (cases_eq d.node e.node) [
      | inl same ↦ elim (cases_eq d.drive e.drive) [
        | inl this ↦
            let gone : bit_at (and_not_bit e words) (d.drive - 1) ≡ 0 =
            ap (λ n. bit_at (and_not_bit e words) (n - 1)) this ∙ bit_at_clear_same w16 (get_or words (e.node - 1) 0) (e.drive - 1) (omega arith) in
            ap (λ b. eqb b 1) (this_node words d e (and_not_bit e words) all of_e same ∙ gone)
            ∙ sym (ap (λ b. not b && eqb (bit_of words d) 1) (and_from _ _ (eq-eqb _ _ same) (eq-eqb _ _ this)))
        | inr other ↦
            let apart : (d.drive - 1) ≢ (e.drive - 1) = λ h. other (omega arith) in
            let kept : bit_at (and_not_bit e words) (d.drive - 1) ≡ bit_at (get_or words (e.node - 1) 0) (d.drive - 1) =
            bit_at_clear_other w16 (get_or words (e.node - 1) 0) (e.drive - 1) (omega arith) (d.drive - 1) (omega arith) apart in
            ap (λ b. eqb b 1) (this_node words d e (and_not_bit e words) all of_e same ∙ kept ∙ ap (λ w. bit_at w (d.drive - 1)) (same_word words d e same))
            ∙ sym (ap (λ b. not b && eqb (bit_of words d) 1) (and_right _ _ (ne_eqb _ _ other)))
      ]
      | inr other ↦
          ap (λ b. eqb b 1) (other_node words d e (and_not_bit e words) of_d of_e other)
          ∙ sym (ap (λ b. not b && eqb (bit_of words d) 1) (and_left _ _ (ne_eqb _ _ other)))
    ]

zeros : (n j : ℕ) → let none : ℕ = 0 in get_or (replicate n none) j none ≡ none
zeros zero j = refl
zeros (suc n) zero = refl
zeros (suc n) (suc j) = zeros n j

-- no drive is in the words of the empty set
pub bit_of_none : (d : Drive) → eqb (bit_of (replicate 32 0) d) 1 ≡ false
bit_of_none d = ap (λ w. eqb (bit_at w (d.drive - 1)) 1) (zeros 32 (d.node - 1)) ∙ ap (λ b. eqb b 1) (bit_at-zero (d.drive - 1))

-- the first n words are of whole nodes, and the others are empty
abbrev pub AreWhole : Shape → ℕ → List ℕ → Type 0
AreWhole shape n words = (j : ℕ) → get_or words j 0 ≡ cond (ltb j n) (2 ^ shape.drives - 1) 0

pub whole_none : (shape : Shape) → AreWhole shape 0 (replicate 32 0)
whole_none shape j = zeros 32 j ∙ sym (cond-false (ltb j 0) (2 ^ shape.drives - 1) 0 (le-ltb j 0 (omega arith)))

pub whole_more : (shape : Shape) (n : ℕ) (words : List ℕ) → n < length words → AreWhole shape n words → AreWhole shape (n + 1) (set words n (2 ^ shape.drives - 1))
whole_more shape n words within whole j =
    let all : ℕ = 2 ^ shape.drives - 1 in
    elim (cases_eq j n) [
      | inl here ↦ get_or-set_at words n j all 0 here within ∙ sym (cond-true (ltb j (n + 1)) all 0 (lt-ltb j (n + 1) (omega arith)))
      | inr other ↦
          get_or-set_other words n j all 0 other ∙ whole j
          ∙ elim (cases_lt j n) [
            | inl below ↦ cond-true (ltb j n) all 0 (lt-ltb j n below) ∙ sym (cond-true (ltb j (n + 1)) all 0 (lt-ltb j (n + 1) (omega arith)))
            | inr above ↦
                let past : n + 1 ≤ j = omega arith in
                cond-false (ltb j n) all 0 (le-ltb j n above) ∙ sym (cond-false (ltb j (n + 1)) all 0 (le-ltb j (n + 1) past))
          ]
    ]

bit_of_counted : (shape : Shape) (words : List ℕ) (d : Drive) → IsDrive d → AreWhole shape shape.nodes words
    → eqb (bit_of words d) 1 ≡ leb d.node shape.nodes && leb d.drive shape.drives
bit_of_counted shape words d of_d whole =
    let all : ℕ = 2 ^ shape.drives - 1 in
    elim (cases_lt shape.nodes d.node) [
      | inl past ↦
          let empty : get_or words (d.node - 1) 0 ≡ 0 = whole (d.node - 1) ∙ cond-false _ all 0 (le-ltb (d.node - 1) shape.nodes (omega arith)) in
          ap (λ w. eqb (bit_at w (d.drive - 1)) 1) empty ∙ ap (λ b. eqb b 1) (bit_at-zero (d.drive - 1))
          ∙ sym (and_left _ _ (lt-leb d.node shape.nodes past))
      | inr within ↦
          let full : get_or words (d.node - 1) 0 ≡ all = whole (d.node - 1) ∙ cond-true _ all 0 (lt-ltb (d.node - 1) shape.nodes (omega arith)) in
          ap (λ w. eqb (bit_at w (d.drive - 1)) 1) full
          ∙ elim (cases_lt shape.drives d.drive) [
            | inl beyond ↦ ap (λ b. eqb b 1) (bit_at_ones_above shape.drives (d.drive - 1) (omega arith)) ∙ sym (and_right _ _ (lt-leb d.drive shape.drives beyond))
            | inr there ↦
                ap (λ b. eqb b 1) (bit_at_ones shape.drives (d.drive - 1) (omega arith))
                ∙ sym (and_from _ _ (le-leb d.node shape.nodes within) (le-leb d.drive shape.drives there))
          ]
    ]

-- a drive is of the cluster where its numbers are not above the cluster's
pub is_of-drive : (shape : Shape) (d : Drive) → IsDrive d → is_of shape d ≡ leb d.node shape.nodes && leb d.drive shape.drives
is_of-drive shape d of_d =
    let counted : Bool = leb d.node shape.nodes && leb d.drive shape.drives in
    ap (λ b. b && counted) (and_from _ _ (le-leb 1 d.node of_d.some_node) (le-leb 1 d.drive of_d.some_drive))

-- the drives of the cluster are in the words of whole nodes
pub bit_of_whole : (shape : Shape) (words : List ℕ) (d : Drive) → IsDrive d → AreWhole shape shape.nodes words → eqb (bit_of words d) 1 ≡ is_of shape d
bit_of_whole shape words d of_d whole = bit_of_counted shape words d of_d whole ∙ sym (is_of-drive shape d of_d)
