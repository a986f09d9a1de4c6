-- Codewords of one data unit: all units are equal, and equal units are such a codeword.
use Rattle.std.proofs.Common.{◌≡◌, ℕ, ◌+◌, ◌<◌, List, [], ◌∷◌, length, All, get_or, sym, ap, subst, ◌∙◌, refl, arith}
use Rattle.std.specs.Int.Bits.{xor_zero_r}
use Rattle.std.proofs.lemmas.List.{ext_get_or}
use Rattle.std.proofs.lemmas.List.Elements.{All-cons, All-nil, All-from_get_or}
use Rattle.galois.specs.Field.{IsByte, doubled_times, product_below, field_product, field_power}
use Rattle.galois.specs.Polynomial.{value_from, polynomial_value}
use Rattle.galois.specs.Codeword.{IsCodeword, unit_at}

-- one is neutral on the right
pub field_product-one : (a : ℕ) → field_product a 1 ≡ a
unfolding field_product product_below doubled_times
field_product-one a = xor_zero_r a

-- a constant polynomial takes its constant everywhere
pub polynomial_value-constant : (c x : ℕ) → polynomial_value (c ∷ []) x ≡ c
unfolding polynomial_value value_from field_power
polynomial_value-constant c x = xor_zero_r (field_product c 1) ∙ field_product-one c

-- a list of one element
only_element : (xs : List ℕ) → length xs ≡ 1 → xs ≡ get_or xs 0 0 ∷ []
only_element [] one = absurd (omega arith)
only_element (x ∷ []) one = refl
only_element (x ∷ y ∷ xs) one = absurd (omega arith)

-- a polynomial with one coefficient takes it everywhere
one_coefficient : (cs : List ℕ) (x : ℕ) → length cs ≡ 1 → polynomial_value cs x ≡ get_or cs 0 0
one_coefficient cs x one =
    ap (λ (l : List ℕ). polynomial_value l x) (only_element cs one) ∙ polynomial_value-constant (get_or cs 0 0) x

-- of a codeword with one data unit, each unit equals the first
pub mirror_units : (m : ℕ) (units : List (List ℕ)) → IsCodeword 1 m units → (i : ℕ) → i < length units
    → unit_at units i ≡ unit_at units 0
mirror_units m units word i within =
    ext_get_or 0 (unit_at units i) (unit_at units 0) (word.equal i [] within)
    (λ column inside.
    let inside_first : column < length (unit_at units 0) =
    subst (λ (n : ℕ). column < n) (word.equal i [] within) inside in
    let found = word.columns column inside_first in
    let first_within : 0 < length units = omega arith in
    found.1.takes i within ∙ one_coefficient found.0 i found.1.degree
    ∙ sym (found.1.takes 0 first_within ∙ one_coefficient found.0 0 found.1.degree))

-- 1 + m equal byte lists are a codeword with one data unit
pub mirror_codeword : (m : ℕ) (units : List (List ℕ)) → length units ≡ 1 + m → All IsByte (unit_at units 0)
    → ((i : ℕ) → i < length units → unit_at units i ≡ unit_at units 0) → IsCodeword 1 m units
mirror_codeword m units count bytes same = record {
  count = count;
  equal =
      All-from_get_or (λ (unit : List ℕ). length unit ≡ length (unit_at units 0)) units []
      (λ i within. ap (λ (l : List ℕ). length l) (same i within));
  columns = λ column inside.
      let byte = get_or (unit_at units 0) column 0 in (
        byte ∷ [],
        record {
          degree = refl;
          bytes = All-cons IsByte byte [] (bytes column 0 inside) (All-nil IsByte);
          takes = λ i within. ap (λ (l : List ℕ). get_or l column 0) (same i within) ∙ sym (polynomial_value-constant byte i);
        },
      );
}
