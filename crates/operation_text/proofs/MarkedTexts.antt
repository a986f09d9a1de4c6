-- Texts cut at a mark.
use Rattle.std.proofs.Common.{◌≡◌, ◌≢◌, ℕ, zero, suc, ◌<◌, ◌==◌, List, [], ◌∷◌, ◌++◌, length, get_or, true, false, not, Option, Some, None, refl, sym, ◌∙◌, ap, inl, inr, arith}
use denote.Ref.{Bor}
use Rattle.std.specs.Char.{is_ascii_digit}
use Rattle.std.specs.List.{list_all}
use Rattle.std.specs.Option.{IfSome, IsSomeAnd}
use Rattle.std.proofs.lemmas.Bool.{and_parts, cases_Bool, eqb-true}
use Rattle.std.proofs.lemmas.Bool.Decides.{nat_tests}
use Rattle.std.proofs.lemmas.Str.Pattern.{IsSplitOnceResult, split_after, split_parts}
use Rattle.scenario.specs.Words.{is_name_byte}
use Rattle.operation_text.specs.Words.{lacks}

-- a byte at a place is not the mark
pub free_of : (mark : ℕ) (bytes : List ℕ) → lacks mark bytes ≡ true → (i : ℕ) → i < length bytes → get_or bytes i 0 ≢ mark
free_of mark [] h i within = absurd (omega (arith, within))
free_of mark (b ∷ bs) h zero within =
    let (here, more) = and_parts (not (b == mark)) (lacks mark bs) h in
    λ is. grind (arith, nat_tests)
free_of mark (b ∷ bs) h (suc i) within =
    let (here, more) = and_parts (not (b == mark)) (lacks mark bs) h in
    free_of mark bs more i (omega (arith, within))

-- a text without the mark is not cut at it
pub not_cut : (mark : ℕ) (bytes front rest : List ℕ) → lacks mark bytes ≡ true → bytes ≡ front ++ mark ∷ rest → ⊥
not_cut mark [] [] rest h is = cc
not_cut mark [] (f ∷ front) rest h is = cc
not_cut mark (b ∷ bs) [] rest h is =
    let (here, more) = and_parts (not (b == mark)) (lacks mark bs) h in
    let same : b ≡ mark = cc in
    grind (arith, nat_tests)
not_cut mark (b ∷ bs) (f ∷ front) rest h is =
    let (here, more) = and_parts (not (b == mark)) (lacks mark bs) h in
    not_cut mark bs front rest more cc

pub cut_found : (mark : ℕ) (bytes : List ℕ) (r : Option (Bor (List ℕ) × Bor (List ℕ))) → IsSplitOnceResult mark bytes r → mark < 128
    → IfSome r (λ p. bytes ≡ p.0.now ++ mark ∷ p.1.now)
cut_found mark bytes None cut low = tt
cut_found mark bytes (Some p) cut low = (split_parts mark bytes (Some p) cut low).0

pub cut_only : (mark : ℕ) (bytes : List ℕ) (r : Option (Bor (List ℕ) × Bor (List ℕ))) → IsSplitOnceResult mark bytes r → mark < 128 → (word rest : List ℕ)
    → lacks mark word ≡ true → bytes ≡ word ++ mark ∷ rest → IsSomeAnd r (λ p. (p.0.now ≡ word) × (p.1.now ≡ rest))
cut_only mark bytes None cut low word rest free is = absurd (split_after mark bytes word rest None cut low is (free_of mark word free))
cut_only mark bytes (Some p) cut low word rest free is = split_after mark bytes word rest (Some p) cut low is (free_of mark word free)

-- a mark that may not stand in a name is not in one
pub lacks-name : (mark : ℕ) (bytes : List ℕ) → is_name_byte mark ≡ false → list_all is_name_byte bytes ≡ true → lacks mark bytes ≡ true
lacks-name mark [] other h = refl
lacks-name mark (b ∷ bs) other h =
    let (here, more) = and_parts (is_name_byte b) (list_all is_name_byte bs) h in
    let apart : (b == mark) ≡ false = elim (cases_Bool (b == mark)) [
      | inl is ↦ absurd (cc (sym here ∙ (ap is_name_byte (eqb-true b mark is) ∙ other)))
      | inr isnt ↦ isnt
    ] in
    rw (apart, lacks-name mark bs other more) refl

-- a mark that is no digit is not in a number
pub lacks-number : (mark : ℕ) (bytes : List ℕ) → is_ascii_digit mark ≡ false → list_all is_ascii_digit bytes ≡ true → lacks mark bytes ≡ true
lacks-number mark [] other h = refl
lacks-number mark (b ∷ bs) other h =
    let (here, more) = and_parts (is_ascii_digit b) (list_all is_ascii_digit bs) h in
    let apart : (b == mark) ≡ false = elim (cases_Bool (b == mark)) [
      | inl is ↦ absurd (cc (sym here ∙ (ap is_ascii_digit (eqb-true b mark is) ∙ other)))
      | inr isnt ↦ isnt
    ] in
    rw (apart, lacks-number mark bs other more) refl
