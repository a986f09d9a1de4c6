-- The values of digits that are small.
use Rattle.std.proofs.Common.{◌≡◌, ℕ, ◌<◌, ◌^◌, List, [], ◌∷◌, true, ◌&&◌, Err, refl, sym, subst, arith}
use Rattle.std.specs.Prelude.{nat_le}
use Rattle.std.specs.Char.{is_ascii_digit}
use Rattle.std.specs.List.{list_all}
use Rattle.std.specs.Str.{all_ascii_digits}
use Rattle.std.specs.Str.Parse.{ParsesUnsigned, digits_value}
use Rattle.std.proofs.lemmas.Bool.{and_parts}
use Rattle.std.proofs.lemmas.Bool.Decides.{nat_tests}
use Rattle.std.proofs.lemmas.Str.Parse.{IsNumeralModel, numerals_by_value, tells_all_ascii_digits, parse_digits}
use Rattle.operation_text.specs.Words.{IsNumberText}
use Rattle.operation_rules.specs.OpRules.{is_number_up_to}

pub own : IsNumeralModel (λ ds. all_ascii_digits ds ≡ true) (digits_value 10)
own = numerals_by_value _ tells_all_ascii_digits

pub all_digits : (bytes : List ℕ) → list_all is_ascii_digit bytes ≡ true → all_ascii_digits bytes ≡ true
all_digits [] h = refl
all_digits (b ∷ bs) h =
    let (here, more) = and_parts (is_ascii_digit b) (list_all is_ascii_digit bs) h in
    rw (here, all_digits bs more) refl

below : (value most : ℕ) → most < 2 ^ 8 → (nat_le 1 value && nat_le value most) ≡ true → value < 2 ^ 8
below value most small is = grind (arith, nat_tests)

-- a number up to a limit of one byte fits a byte
pub fits_a_byte : {E : Type 0} (bytes text : List ℕ) (most : ℕ) (e : E) → bytes ≡ text → IsNumberText bytes → ParsesUnsigned {E = E} 8 10 text (Err e) → most < 2 ^ 8
    → is_number_up_to most bytes ≡ true → ⊥
fits_a_byte {E = E} bytes text most e same number parsed small is =
    let here : ParsesUnsigned {E = E} 8 10 bytes (Err e) = subst (λ (t : List ℕ). ParsesUnsigned {E = E} 8 10 t (Err e)) (sym same) parsed in
    let big = parse_digits own {E = E} 8 bytes (Err e) here (all_digits bytes number.all) in
    big (number.some, below (digits_value 10 bytes) most small is)
