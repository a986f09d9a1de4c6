-- Texts cut at a byte, and into the pieces between such bytes.
use Rattle.std.proofs.Common.{◌≡◌, ◌≢◌, ℕ, zero, suc, ◌<◌, ◌^◌, ◌==◌, Bool, true, false, not, cond, ◌&&◌, List, [], ◌∷◌, ◌++◌, length, get_or, map, refl, sym, ap, ◌∙◌, inl, inr, arith, append-nil, eqb, eq-eqb}
use Rattle.std.specs.Cmp.Lexicographic.{pointwise}
use Rattle.std.specs.Fmt.{decimal}
use Rattle.std.specs.List.{list_all, AllByRecursion}
use Rattle.std.specs.Str.{all_ascii_digits}
use Rattle.std.specs.Char.{is_ascii_digit}
use Rattle.std.specs.Str.Parse.{digits_value}
use Rattle.report_reader.specs.Lines.{lacks}
use Rattle.std.proofs.lemmas.List.{append_cancel_left}
use Rattle.std.proofs.lemmas.Bool.{and_parts, cases_Bool, false≢true, eqb-true}
use Rattle.std.proofs.lemmas.List.Folds.{list_all-append}
use Rattle.std.proofs.lemmas.Fmt.{digits_decimal, digits_value-decimal}
use Rattle.std.proofs.lemmas.Str.Parse.{IsNumeralModel, numerals_by_value, tells_all_ascii_digits}

-- what stands before the first such byte, and what follows it
abbrev pub cut : ℕ → List ℕ → List ℕ × List ℕ
cut c [] = ([], [])
cut c (b ∷ bs) = cond (b == c) ([], bs) (b ∷ (cut c bs).0, (cut c bs).1)

-- the two texts are one
abbrev pub same_text : List ℕ → List ℕ → Bool
same_text [] [] = true
same_text [] (d ∷ ds) = false
same_text (c ∷ cs) [] = false
same_text (c ∷ cs) (d ∷ ds) = (c == d) && same_text cs ds

abbrev onto : ℕ → List (List ℕ) → List (List ℕ)
onto b [] = []
onto b (p ∷ ps) = (b ∷ p) ∷ ps

-- the pieces between these bytes
abbrev pub pieces : ℕ → List ℕ → List (List ℕ)
pieces c [] = [] ∷ []
pieces c (b ∷ bs) = cond (b == c) ([] ∷ pieces c bs) (onto b (pieces c bs))

own : IsNumeralModel (λ ds. all_ascii_digits ds ≡ true) (digits_value 10)
own = numerals_by_value _ tells_all_ascii_digits

-- a text is cut where the first such byte is
pub cut_at : (c : ℕ) (xs ys : List ℕ) → lacks c xs ≡ true → cut c (xs ++ c ∷ ys) ≡ (xs, ys)
cut_at c [] ys h = rw (eq-eqb c c refl) refl
cut_at c (x ∷ xs) ys h =
    let (other, more) = and_parts (not (x == c)) (lacks c xs) h in
    let apart : (x == c) ≡ false = grind arith in
    rw (apart, cut_at c xs ys more) refl

-- a text with no such byte is not cut
pub cut_none : (c : ℕ) (xs : List ℕ) → lacks c xs ≡ true → cut c xs ≡ (xs, [])
cut_none c [] h = refl
cut_none c (x ∷ xs) h =
    let (other, more) = and_parts (not (x == c)) (lacks c xs) h in
    let apart : (x == c) ≡ false = grind arith in
    rw (apart, cut_none c xs more) refl

pub same_text-refl : (xs : List ℕ) → same_text xs xs ≡ true
same_text-refl [] = refl
same_text-refl (x ∷ xs) = rw (eq-eqb x x refl, same_text-refl xs) refl

-- no digit is this byte
digits_lack : (c : ℕ) (ds : List ℕ) → is_ascii_digit c ≡ false → all_ascii_digits ds ≡ true → lacks c ds ≡ true
digits_lack c [] other h = refl
digits_lack c (d ∷ ds) other h =
    let (digit, more) = and_parts (is_ascii_digit d) (all_ascii_digits ds) h in
    let apart : (d == c) ≡ false = elim (cases_Bool (d == c)) [
      | inl is ↦ absurd (false≢true (sym (ap is_ascii_digit (eqb-true d c is) ∙ other) ∙ digit))
      | inr isnt ↦ isnt
    ] in
    rw (apart, digits_lack c ds other more) refl

pub decimal_lacks : (c n : ℕ) → is_ascii_digit c ≡ false → n < 2 ^ 64 → lacks c (decimal n) ≡ true
decimal_lacks c n other small = digits_lack c (decimal n) other (digits_decimal own n small)

-- the number that a text of digits says
abbrev pub number_in : List ℕ → ℕ
number_in text = digits_value 10 text

pub number_again : (n : ℕ) → n < 2 ^ 64 → number_in (decimal n) ≡ n
number_again n small = digits_value-decimal own n small

pub lacks_both : (c : ℕ) (xs ys : List ℕ) → lacks c xs ≡ true → lacks c ys ≡ true → lacks c (xs ++ ys) ≡ true
lacks_both c xs ys a b = list_all-append (λ x. not (x == c)) xs ys ∙ rw (a, b) refl

pub piece_at : (c : ℕ) (xs ys : List ℕ) → lacks c xs ≡ true → pieces c (xs ++ c ∷ ys) ≡ xs ∷ pieces c ys
piece_at c [] ys h = rw (eq-eqb c c refl) refl
piece_at c (x ∷ xs) ys h =
    let (other, more) = and_parts (not (x == c)) (lacks c xs) h in
    let apart : (x == c) ≡ false = grind arith in
    rw (apart, piece_at c xs ys more) refl

pub one_piece : (c : ℕ) (xs : List ℕ) → lacks c xs ≡ true → pieces c xs ≡ xs ∷ []
one_piece c [] h = refl
one_piece c (x ∷ xs) h =
    let (other, more) = and_parts (not (x == c)) (lacks c xs) h in
    let apart : (x == c) ≡ false = grind arith in
    rw (apart, one_piece c xs more) refl

pub has_it : (c : ℕ) (xs ys : List ℕ) → lacks c (xs ++ c ∷ ys) ≡ false
has_it c [] ys = rw (eq-eqb c c refl) refl
has_it c (x ∷ xs) ys = rw (has_it c xs ys) (neither (not (x == c)))
  where
    neither : (b : Bool) → (b && false) ≡ false
    neither true = refl
    neither false = refl

-- neither a space nor a line feed
abbrev pub IsWord : List ℕ → Type 0
IsWord text = (lacks 32 text ≡ true) × (lacks 10 text ≡ true)

pub number_word : (n : ℕ) → n < 2 ^ 64 → IsWord (decimal n)
number_word n h = (decimal_lacks 32 n refl h, decimal_lacks 10 n refl h)

-- a word, a space and the rest
pub spaced : (word rest : List ℕ) → lacks 10 word ≡ true → lacks 10 rest ≡ true → lacks 10 (word ++ 32 ∷ rest) ≡ true
spaced word rest a b = lacks_both 10 word (32 ∷ rest) a b

-- where a text that lacks the byte is, the byte is not
pub lacks_at : (c : ℕ) (xs : List ℕ) → lacks c xs ≡ true → (i : ℕ) → i < length xs → get_or xs i 0 ≢ c
lacks_at c [] h i within = absurd (omega arith)
lacks_at c (x ∷ xs) h zero within =
    let (apart, more) = and_parts (not (x == c)) (lacks c xs) h in
    λ is. absurd (grind (arith, eq-eqb x c is))
lacks_at c (x ∷ xs) h (suc i) within = lacks_at c xs (and_parts (not (x == c)) (lacks c xs) h).1 i (omega arith)

pub not_both : (c : ℕ) (text xs ys : List ℕ) → text ≡ xs ++ c ∷ ys → lacks c text ≡ true → ⊥
not_both c text xs ys is clean = let has : lacks c (xs ++ c ∷ ys) ≡ false = has_it c xs ys in let lack : lacks c (xs ++ c ∷ ys) ≡ true = sym (ap (lacks c) is) ∙ clean in absurd cc

same_bytes : (xs : List ℕ) → pointwise eqb xs xs ≡ true
same_bytes [] = refl
same_bytes (x ∷ xs) = rw (eq-eqb x x refl, same_bytes xs) refl

-- texts that are the same are told to be so
pub told_apart : (xs ys : List ℕ) → xs ≡ ys → pointwise eqb xs ys ≡ false → ⊥
told_apart xs ys is other =
    let same : pointwise eqb xs xs ≡ true = same_bytes xs in
    let differ : pointwise eqb xs xs ≡ false = ap (pointwise eqb xs) is ∙ other in
    absurd cc

-- and texts that are told to be the same are
pub told_same : (xs ys : List ℕ) → pointwise eqb xs ys ≡ true → xs ≡ ys
told_same [] [] h = refl
told_same [] (y ∷ ys) h = absurd cc
told_same (x ∷ xs) [] h = absurd cc
told_same (x ∷ xs) (y ∷ ys) h =
    let (head, tail) = and_parts (eqb x y) (pointwise eqb xs ys) h in
    let first : x ≡ y = eqb-true x y head in
    rw (first, told_same xs ys tail) refl

-- what stands behind one line is what stands behind the other
pub rest_is : (a b xs ys text : List ℕ) → a ≡ b → text ≡ a ++ xs → text ≡ b ++ ys → xs ≡ ys
rest_is a b xs ys text same one other = append_cancel_left b xs ys (ap (λ t. t ++ xs) (sym same) ∙ sym one ∙ other)
