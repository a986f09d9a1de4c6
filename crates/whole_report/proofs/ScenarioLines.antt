-- Texts of lines that do not begin with `b`, with a line behind them that does.
use Rattle.std.proofs.Common.{◌≡◌, ℕ, true, List, [], ◌∷◌, ◌++◌, get_or, refl, sym, ap, ◌∙◌, subst, ap₂, inl, inr, arith, append_assoc}
use Rattle.std.specs.List.{AllByRecursion}
use Rattle.report_reader.specs.Lines.{lacks}
use Rattle.report_reader.proofs.LogsTold.{line_told}
use Rattle.report_blocks.specs.WrongLine.{IsBoardNext}
use Rattle.whole_report.specs.ScenarioLines.{AreLines, HasTail, IsOther, lines_text}

-- a text that begins with such a line is not at the board
pub not_board : (l rest : List ℕ) → IsOther l → IsBoardNext (l ++ 10 ∷ rest) → ⊥
not_board [] rest other (inl none) = absurd cc
not_board [] rest other (inr more) = let head : 10 ≡ 98 = ap (λ (t : List ℕ). get_or t 0 0) more.1 in absurd (omega (arith, head))
not_board (b ∷ bs) rest other (inl none) = absurd cc
not_board (b ∷ bs) rest other (inr more) = absurd (other.other (ap (λ (t : List ℕ). get_or t 0 0) more.1))

-- where the text is at the board, its tail is all of it
pub tail_here : (text tail : List ℕ) → HasTail text tail → IsBoardNext text → text ≡ tail
tail_here text tail has next = here has.lines has.others has.is
  where
    here : (lines : List (List ℕ)) → AllByRecursion IsOther lines → text ≡ lines_text lines ++ tail → text ≡ tail
    here [] others is = is
    here (l ∷ ls) others is =
        let spelled : text ≡ l ++ 10 ∷ (lines_text ls ++ tail) = is ∙ append_assoc l (10 ∷ lines_text ls) tail in
        absurd (not_board l (lines_text ls ++ tail) others.0 (subst IsBoardNext spelled next))

-- the tail stands behind the first line too
pub tail_behind : (text behind tail : List ℕ) → HasTail text tail → IsBoardNext tail → (IsBoardNext text → ⊥) → ((xs ys : List ℕ) → lacks 10 xs ≡ true → text ≡ xs ++ 10 ∷ ys → behind ≡ ys) → HasTail behind tail
tail_behind text behind tail has next not cut = past has.lines has.others has.is
  where
    past : (lines : List (List ℕ)) → AllByRecursion IsOther lines → text ≡ lines_text lines ++ tail → HasTail behind tail
    past [] others is = absurd (not (subst IsBoardNext (sym is) next))
    past (l ∷ ls) others is = record {
      lines = ls;
      others = others.1;
      is = cut l (lines_text ls ++ tail) others.0.clean (is ∙ append_assoc l (10 ∷ lines_text ls) tail);
    }

-- a text of lines with a tail behind it has this tail
pub tail_of : (front tail : List ℕ) → AreLines front → HasTail (front ++ tail) tail
tail_of front tail lines = record { lines = lines.lines; others = lines.others; is = ap (λ (t : List ℕ). t ++ tail) lines.is }

-- two such texts with tails at the board, which are one text, are the same
pub fronts_told : (front other tail more : List ℕ) → AreLines front → AreLines other → IsBoardNext tail → IsBoardNext more → front ++ tail ≡ other ++ more → (front ≡ other) × (tail ≡ more)
fronts_told front other tail more a b next after is =
    let told = lines_told a.lines b.lines a.others b.others (ap (λ (t : List ℕ). t ++ tail) (sym a.is) ∙ is ∙ ap (λ (t : List ℕ). t ++ more) b.is) in
    (a.is ∙ told.0 ∙ sym b.is, told.1)
  where
    lines_told : (ls ks : List (List ℕ)) → AllByRecursion IsOther ls → AllByRecursion IsOther ks → lines_text ls ++ tail ≡ lines_text ks ++ more → (lines_text ls ≡ lines_text ks) × (tail ≡ more)
    lines_told [] [] x y same = (refl, same)
    lines_told [] (k ∷ ks) x y same =
        absurd (not_board k (lines_text ks ++ more) y.0 (subst IsBoardNext (same ∙ append_assoc k (10 ∷ lines_text ks) more) next))
    lines_told (l ∷ ls) [] x y same =
        absurd (not_board l (lines_text ls ++ tail) x.0 (subst IsBoardNext (sym same ∙ append_assoc l (10 ∷ lines_text ls) tail) after))
    lines_told (l ∷ ls) (k ∷ ks) x y same =
        let first = line_told l k (lines_text ls ++ tail) (lines_text ks ++ more) x.0.clean y.0.clean
        (sym (append_assoc l (10 ∷ lines_text ls) tail) ∙ same ∙ append_assoc k (10 ∷ lines_text ks) more) in
        let rest = lines_told ls ks x.1 y.1 first.1 in
        (ap₂ (λ (p q : List ℕ). p ++ 10 ∷ q) first.0 rest.0, rest.1)
