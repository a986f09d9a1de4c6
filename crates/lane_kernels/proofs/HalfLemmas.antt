-- A product by the halves of the byte.
use Rattle.std.proofs.Common.{◌≡◌, ℕ, ◌*◌, ◌/◌, ◌%◌, ◌==◌, true, List, sym, ap, ap₂, ◌∙◌, refl, arith, eqb-true}
use Rattle.galois.specs.Field.{IsByte, field_sum, field_product}
use Rattle.galois.proofs.FieldSums.{all_below, all_below_at}
use Rattle.galois.proofs.FieldProducts.{product-sum}
use Rattle.lane_kernels.specs.Halves.{HoldsHalves, looked_up}

-- each byte is the sum of its halves, by computing all bytes
halves_of_bytes : all_below (λ b. field_sum (b % 16) (b / 16 * 16) == b) 256 ≡ true
halves_of_bytes = refl

pub sum_of_halves : (b : ℕ) → IsByte b → field_sum (b % 16) (b / 16 * 16) ≡ b
sum_of_halves b hb = eqb-true (field_sum (b % 16) (b / 16 * 16)) b (all_below_at (λ b. field_sum (b % 16) (b / 16 * 16) == b) 256 b halves_of_bytes hb)

-- what the table has for a byte is its product
pub looked_up-product : (c : ℕ) (table : List ℕ) (b : ℕ) → HoldsHalves c table → IsByte b → looked_up table b ≡ field_product c b
looked_up-product c table b halves hb =
    let small : IsByte (b % 16) = omega arith in
    let large : IsByte (b / 16 * 16) = omega arith in
    ap₂ field_sum (halves.low (b % 16) (omega arith)) (halves.high (b / 16) (omega arith))
    ∙ sym (product-sum c (b % 16) (b / 16 * 16) halves.factor small large) ∙ ap (field_product c) (sum_of_halves b hb)
