-- The values of digits.
use Rattle.std.proofs.Common.{◌≡◌, ℕ, ◌<◌, ◌≤◌, ◌^◌, List, [], ◌∷◌, length, Bool, true, false, ◌&&◌, Result, Err, refl, sym, subst, arith}
use Rattle.std.specs.Prelude.{nat_le}
use Rattle.std.specs.Char.{is_ascii_digit}
use Rattle.std.specs.List.{list_all}
use Rattle.std.specs.Str.{all_ascii_digits}
use Rattle.std.specs.Str.Parse.{ParsesUnsigned, digits_value}
use Rattle.std.proofs.lemmas.Bool.{and_parts}
use Rattle.std.proofs.lemmas.Bool.Decides.{nat_tests}
use Rattle.std.proofs.lemmas.Str.Parse.{IsNumeralModel, numerals_by_value, tells_all_ascii_digits, parse_digits}
use Rattle.operation_text.specs.Words.{IsNumberText}
use Rattle.operation_rules.specs.OpRules.{is_number_up_to}

own : IsNumeralModel (λ ds. all_ascii_digits ds ≡ true) (digits_value 10)
own = numerals_by_value _ tells_all_ascii_digits

all_digits : (bytes : List ℕ) → list_all is_ascii_digit bytes ≡ true → all_ascii_digits bytes ≡ true
all_digits [] h = refl
all_digits (b ∷ bs) h =
    let (here, more) = and_parts (is_ascii_digit b) (list_all is_ascii_digit bs) h in
    rw (here, all_digits bs more) refl

above : (value most : ℕ) → most < 2 ^ 8 → (value < 2 ^ 64 → ⊥) → false ≡ (nat_le 1 value && nat_le value most)
above value most small big = grind (arith, nat_tests)

-- a number that does not fit a word of 64 bits is past a small limit
pub too_long : {E : Type 0} (bytes text : List ℕ) (most : ℕ) (e : E) → bytes ≡ text → IsNumberText bytes → ParsesUnsigned {E = E} 64 10 text (Err e) → most < 2 ^ 8
    → false ≡ is_number_up_to most bytes
too_long {E = E} bytes text most e same number parsed small =
    let here : ParsesUnsigned {E = E} 64 10 bytes (Err e) = subst (λ (t : List ℕ). ParsesUnsigned {E = E} 64 10 t (Err e)) (sym same) parsed in
    let big = parse_digits own {E = E} 64 bytes (Err e) here (all_digits bytes number.all) in
    above (digits_value 10 bytes) most small (λ low. big (number.some, low))
