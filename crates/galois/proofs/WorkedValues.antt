-- The definitions on the worked rows, by computation.
use Rattle.std.specs.Prelude.{◌≡◌, refl, [], ◌∷◌}
use Rattle.galois.specs.Field.{doubled, doubled_times, product_below, field_product, field_power}
use Rattle.galois.specs.Polynomial.{value_from, polynomial_value}

-- 80 times 02 is 1D
pub product_80_02 : field_product 0x80 0x02 ≡ 0x1D
unfolding doubled doubled_times product_below field_product
product_80_02 = refl

-- 8E is the inverse of 02
pub product_02_8E : field_product 0x02 0x8E ≡ 0x01
unfolding doubled doubled_times product_below field_product
product_02_8E = refl

-- the polynomial with the coefficients 01, 03 takes 01, 02, 07, 04 at 0, 1, 2, 3
pub values_01_03 : (polynomial_value (1 ∷ 3 ∷ []) 0 ∷ polynomial_value (1 ∷ 3 ∷ []) 1 ∷ polynomial_value (1 ∷ 3 ∷ []) 2 ∷ polynomial_value (1 ∷ 3 ∷ []) 3 ∷ []) ≡ (1 ∷ 2 ∷ 7 ∷ 4 ∷ [])
unfolding doubled doubled_times product_below field_product field_power value_from polynomial_value
values_01_03 = refl

-- the polynomial with the coefficients 00, 80 takes 00, 80, 1D, 9D at 0, 1, 2, 3
pub values_00_80 : (polynomial_value (0 ∷ 0x80 ∷ []) 0 ∷ polynomial_value (0 ∷ 0x80 ∷ []) 1 ∷ polynomial_value (0 ∷ 0x80 ∷ []) 2 ∷ polynomial_value (0 ∷ 0x80 ∷ []) 3 ∷ []) ≡ (0 ∷ 0x80 ∷ 0x1D ∷ 0x9D ∷ [])
unfolding doubled doubled_times product_below field_product field_power value_from polynomial_value
values_00_80 = refl
