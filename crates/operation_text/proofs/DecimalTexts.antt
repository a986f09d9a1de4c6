-- Numbers in their one decimal form.
use Rattle.std.proofs.Common.{◌≡◌, ℕ, ◌<◌, ◌^◌, ◌==◌, List, [], ◌∷◌, length, get_or, true, false, Result, Ok, Err, refl, sym, ◌∙◌, ap, inl, inr, zero, suc, lit<, arith}
use Rattle.std.specs.Char.{is_ascii_digit}
use Rattle.std.specs.Fmt.{decimal}
use Rattle.std.specs.Option.{IfSome}
use Rattle.std.specs.Result.{result_ok}
use Rattle.std.specs.Str.{all_ascii_digits}
use Rattle.std.specs.Str.Parse.{ParsesUnsigned, digits_value}
use Rattle.std.proofs.lemmas.Bool.{and_parts, cases_Bool, eqb-true}
use Rattle.std.proofs.lemmas.Fmt.{decimal-digits_value, digits_decimal, decimal_nonempty, first_decimal, decimal_digit}
use Rattle.std.proofs.lemmas.Str.Parse.{IsNumeralModel, numerals_by_value, tells_all_ascii_digits, parse_plain, not_in_digits}
use Rattle.operation_text.specs.Decimals.{HasOneForm}
use Rattle.operation_text.specs.Words.{lacks}

own : IsNumeralModel (λ ds. all_ascii_digits ds ≡ true) (digits_value 10)
own = numerals_by_value _ tells_all_ascii_digits

-- what is read of such a text is what it spells
pub decimal-parsed : {E : Type 0} (ds : List ℕ) (r : Result ℕ E) → HasOneForm ds → ParsesUnsigned 64 10 ds r → IfSome (result_ok r) (λ n. ds ≡ decimal n)
decimal-parsed {E = E} ds (Ok x) form parsed =
    let read = parse_plain own {E = E} 64 ds (Ok x) parsed form.unsigned in
    sym (decimal-digits_value own ds read.0.0 form.some form.lone read.0.2) ∙ ap decimal (sym read.1)
decimal-parsed ds (Err e) form parsed = tt

lone_zero : (n : ℕ) → n < 2 ^ 64 → get_or (decimal n) 0 0 ≡ 48 → length (decimal n) ≡ 1
lone_zero zero small first = ap length (decimal_digit 0 (lit< tt))
lone_zero (suc n) small first = absurd (omega (arith, first_decimal (suc n) (omega arith) small))

-- a number in decimal is of the one form
pub one_form-decimal : (n : ℕ) → n < 2 ^ 64 → HasOneForm (decimal n)
one_form-decimal n small = record {
  some = decimal_nonempty n small;
  unsigned = not_in_digits own (decimal n) 43 (digits_decimal own n small) (λ h. omega (arith, h.0)) 0 (decimal_nonempty n small);
  lone = lone_zero n small;
}

-- a mark that is no digit is not among digits
lacks-digits : (mark : ℕ) (ds : List ℕ) → is_ascii_digit mark ≡ false → all_ascii_digits ds ≡ true → lacks mark ds ≡ true
lacks-digits mark [] other h = refl
lacks-digits mark (d ∷ ds) other h =
    let (here, more) = and_parts (is_ascii_digit d) (all_ascii_digits ds) h in
    let apart : (d == mark) ≡ false = elim (cases_Bool (d == mark)) [
      | inl is ↦ absurd (cc (sym here ∙ (ap is_ascii_digit (eqb-true d mark is) ∙ other)))
      | inr isnt ↦ isnt
    ] in
    rw (apart, lacks-digits mark ds other more) refl

pub lacks-decimal : (mark n : ℕ) → is_ascii_digit mark ≡ false → n < 2 ^ 64 → lacks mark (decimal n) ≡ true
lacks-decimal mark n other small = lacks-digits mark (decimal n) other (digits_decimal own n small)
