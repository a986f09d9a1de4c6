-- One unit more among those at hand.
use Rattle.std.proofs.Common.{◌≡◌, ◌≢◌, ℕ, suc, ◌+◌, ◌*◌, List, [], ◌∷◌, ◌++◌, length, Contains, sym, ap, ap₂, subst, ◌∙◌, length-append, suc-mul, add-one}
use Rattle.std.proofs.lemmas.List.{get_or_default}
use Rattle.std.proofs.lemmas.List.Quantifiers.{all_pairs_push}
use Rattle.rs_codes.specs.Units.{HeldUnits, units_in}
use Rattle.rs_codes.specs.Weights.{AreDifferent}
use Rattle.rs_codes.proofs.UnitBuffers.{units_in-push}

-- units of this length at these positions
abbrev pub held_units : ℕ → List ℕ → List (List ℕ) → HeldUnits
held_units len positions units = record { unit_length = len; positions = positions; units = units }

-- a new position differs from all others
different-push : (ps : List ℕ) (p : ℕ) → AreDifferent ps → ¬ Contains ps p → AreDifferent (ps ++ p ∷ [])
different-push ps p different fresh =
    all_pairs_push (λ a b. a ≢ b) ps p different
    (λ k d within same. fresh (k, within, get_or_default ps k p d within ∙ same))

-- the buffer and the positions keep their invariant
pub held_invariant : (len p : ℕ) (ps new_ps old new bytes : List ℕ) (now : HeldUnits)
    → held_units len ps (units_in (length ps) len old) ≡ now → new_ps ≡ ps ++ p ∷ [] → new ≡ old ++ bytes
    → length old ≡ length ps * len → AreDifferent ps → length bytes ≡ now.unit_length → ¬ Contains now.positions p
    → (length new ≡ length new_ps * len) × AreDifferent new_ps
held_invariant len p ps new_ps old new bytes now view_is is_ps is_new whole different unit fresh =
    let F : HeldUnits → Type 0 = λ v. ¬ Contains v.positions p in
    let fresh_inside : ¬ Contains ps p = subst F (sym view_is) fresh in
    let fits : length bytes ≡ len = unit ∙ sym (ap (λ (v : HeldUnits). v.unit_length) view_is) in
    let counted : length new_ps ≡ suc (length ps) =
    ap (λ (l : List ℕ). length l) is_ps ∙ length-append ps (p ∷ []) ∙ add-one (length ps) in (
      ap (λ (l : List ℕ). length l) is_new ∙ length-append old bytes ∙ ap₂ (λ a b. a + b) whole fits
          ∙ sym (ap (λ (n : ℕ). n * len) counted ∙ suc-mul (length ps) len),
      subst AreDifferent (sym is_ps) (different-push ps p different fresh_inside),
    )

-- what is seen of them is one unit more
pub held_view : (len p : ℕ) (ps new_ps old new bytes : List ℕ) (now : HeldUnits)
    → held_units len ps (units_in (length ps) len old) ≡ now → new_ps ≡ ps ++ p ∷ [] → new ≡ old ++ bytes
    → length old ≡ length ps * len → length bytes ≡ now.unit_length
    → held_units len new_ps (units_in (length new_ps) len new)
    ≡ held_units now.unit_length (now.positions ++ p ∷ []) (now.units ++ bytes ∷ [])
held_view len p ps new_ps old new bytes now view_is is_ps is_new whole unit =
    let A : HeldUnits → Type 0 = λ v. length bytes ≡ v.unit_length
    → held_units len new_ps (units_in (length new_ps) len new)
    ≡ held_units v.unit_length (v.positions ++ p ∷ []) (v.units ++ bytes ∷ []) in
    let counted : length new_ps ≡ suc (length ps) =
    ap (λ (l : List ℕ). length l) is_ps ∙ length-append ps (p ∷ []) ∙ add-one (length ps) in
    subst A view_is
    (λ fits. ap₂ (held_units len) is_ps
    (ap₂ (λ (n : ℕ) (l : List ℕ). units_in n len l) counted is_new ∙ units_in-push (length ps) len old bytes whole fits))
    unit
