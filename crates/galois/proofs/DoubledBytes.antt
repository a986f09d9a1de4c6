-- Doubling is linear: the double of a sum is the sum of the doubles.
use Rattle.std.proofs.Common.{◌≡◌, ℕ, zero, suc, ◌+◌, ◌==◌, true, nat_lt, ap, ◌∙◌, refl, eqb-true, zero-add, suc-add}
use Rattle.std.proofs.lemmas.Bool.{ltb-true}
use Rattle.galois.specs.Field.{IsByte, field_sum, doubled, doubled_times}
use Rattle.galois.proofs.FieldSums.{all_below, all_below_at}

-- doubling keeps bytes
doubled_are_bytes : all_below (λ a. nat_lt (doubled a) 256) 256 ≡ true
unfolding doubled
doubled_are_bytes = refl

pub doubled-byte : (a : ℕ) → IsByte a → IsByte (doubled a)
doubled-byte a h = ltb-true (doubled a) 256 (all_below_at (λ a. nat_lt (doubled a) 256) 256 a doubled_are_bytes h)

pub doubled_times-byte : (i a : ℕ) → IsByte a → IsByte (doubled_times i a)
unfolding doubled_times
doubled_times-byte zero a h = h
doubled_times-byte (suc i) a h = doubled-byte (doubled_times i a) (doubled_times-byte i a h)

-- doubling a sum, by computing all pairs of bytes
doubling_is_linear : all_below (λ a. all_below (λ b. doubled (field_sum a b) == field_sum (doubled a) (doubled b)) 256) 256 ≡ true
unfolding doubled
doubling_is_linear = refl

pub doubled-sum : (a b : ℕ) → IsByte a → IsByte b → doubled (field_sum a b) ≡ field_sum (doubled a) (doubled b)
doubled-sum a b ha hb =
    let row = all_below_at (λ a. all_below (λ b. doubled (field_sum a b) == field_sum (doubled a) (doubled b)) 256) 256 a doubling_is_linear ha in
    eqb-true (doubled (field_sum a b)) (field_sum (doubled a) (doubled b))
    (all_below_at (λ b. doubled (field_sum a b) == field_sum (doubled a) (doubled b)) 256 b row hb)

pub doubled_times-sum : (i a b : ℕ) → IsByte a → IsByte b
    → doubled_times i (field_sum a b) ≡ field_sum (doubled_times i a) (doubled_times i b)
unfolding doubled_times
doubled_times-sum zero a b ha hb = refl
doubled_times-sum (suc i) a b ha hb =
    ap doubled (doubled_times-sum i a b ha hb)
    ∙ doubled-sum (doubled_times i a) (doubled_times i b) (doubled_times-byte i a ha) (doubled_times-byte i b hb)

pub doubled_times-doubled : (i a : ℕ) → doubled_times i (doubled a) ≡ doubled (doubled_times i a)
unfolding doubled_times
doubled_times-doubled zero a = refl
doubled_times-doubled (suc i) a = ap doubled (doubled_times-doubled i a)

pub doubled_times-zero : (i : ℕ) → doubled_times i 0 ≡ 0
unfolding doubled_times doubled
doubled_times-zero zero = refl
doubled_times-zero (suc i) = ap doubled (doubled_times-zero i)

pub doubled_times-add : (i j a : ℕ) → doubled_times (i + j) a ≡ doubled_times i (doubled_times j a)
unfolding doubled_times
doubled_times-add zero j a = ap (λ (n : ℕ). doubled_times n a) (zero-add j)
doubled_times-add (suc i) j a =
    ap (λ (n : ℕ). doubled_times n a) (suc-add i j) ∙ ap doubled (doubled_times-add i j a)
