-- A board's log that is judged up to some entry.
use Rattle.std.proofs.Common.{◌≡◌, ℕ, zero, suc, ◌+◌, ◌<◌, ◌≤◌, ◌++◌, ◌⊎◌, inl, inr, List, [], ◌∷◌, length, take, get_or, Option, Some, slice_get, refl, sym, ap, subst, ◌∙◌, arith}
use Rattle.std.proofs.lemmas.List.{take_more}
use Rattle.std.proofs.lemmas.Option.{get_or_from_slice_get, slice_get_within}
use Rattle.std.proofs.lemmas.Bool.{cases_lt, cases_eq}
use Rattle.board_history.specs.declared.entry.BoardEntry.{BoardEntry}
use Rattle.board_history.specs.Board.{IsBoardStep}
use Rattle.board.specs.History.{History, log_of}
use Rattle.whole_scenario.specs.declared.whole.Scenario.{Scenario}
use Rattle.legal_runs.specs.Entries.{IsBrokenOrder, IsLeast, IsLegalBoard, IsLegalOrder}
use Rattle.legal_runs.specs.Operations.{FitsOrder}
use Rattle.board_judge.specs.Orders.{HasEntry}

-- the first entries of the log are legal, and the board has them, with memory for the others
pub record AreJudged (s : Scenario) (log : List BoardEntry) (count : ℕ) (board : History) : Type 0 where
  pub shape : board.shape ≡ s.shape
  pub log_is : log_of board ≡ take count log
  pub spare : length log ≤ count + board.spare
  pub legal : (index : ℕ) (e : BoardEntry) → index < count → slice_get log index ≡ Some e → IsLegalOrder s (take index log) e

-- the entry at a place is the one that the loop comes to
at_place : (log : List BoardEntry) (count : ℕ) (e : BoardEntry) → count < length log → e ≡ get_or log count e → slice_get log count ≡ Some e
at_place [] count e below is = absurd (omega (arith, below))
at_place (x ∷ xs) zero e below is = ap (λ (y : BoardEntry). let o : Option BoardEntry = Some y in o) (sym is)
at_place (x ∷ xs) (suc count) e below is = at_place xs count e (omega (arith, below)) is

-- one place has one entry
same_entry : (log : List BoardEntry) (count : ℕ) (e other : BoardEntry) → slice_get log count ≡ Some e → slice_get log count ≡ Some other → e ≡ other
same_entry log count e other one two = sym (get_or_from_slice_get log count e e one) ∙ get_or_from_slice_get log count other e two

-- a legal entry is judged with those before it
pub judged_more : (s : Scenario) (log : List BoardEntry) (count : ℕ) (old new : History) (e : BoardEntry) → AreJudged s log count old
    → count < length log → e ≡ get_or log count e → FitsOrder s e → IsBoardStep s.shape (log_of old) e → HasEntry old e new → AreJudged s log (count + 1) new
judged_more s log count old new e was below is fits step more = record {
  shape = more.shape ∙ was.shape;
  log_is = more.log ∙ ap (λ (l : List BoardEntry). l ++ e ∷ []) was.log_is
      ∙ ap (λ (x : BoardEntry). take count log ++ x ∷ []) is ∙ sym (take_more log count e below);
  spare =
      let spare = was.spare in
      let one = more.spare in
      omega (arith, spare, one);
  legal = λ index other within there. by_place index other there (cases_eq index count) within;
}
  where
    by_place : (index : ℕ) (other : BoardEntry) → slice_get log index ≡ Some other → (index ≡ count) ⊎ (index ≡ count → ⊥) → index < count + 1
        → IsLegalOrder s (take index log) other
    by_place index other there (inr apart) within = was.legal index other (omega (arith, within, apart)) there
    by_place index other there (inl same) within =
        let there_too : slice_get log count ≡ Some other = subst (λ (i : ℕ). slice_get log i ≡ Some other) same there in
        let P : ℕ → Type 0 = λ i. IsLegalOrder s (take i log) other in
        let Q : BoardEntry → Type 0 = λ x. IsLegalOrder s (take count log) x in
        let R : List BoardEntry → Type 0 = λ l. IsBoardStep s.shape l e in
        subst P (sym same) (subst Q (same_entry log count e other (at_place log count e below is) there_too)
        (record { step = subst R was.log_is step; fits = fits }))

-- an entry that is not legal is the first such
pub breaks_here : (s : Scenario) (log : List BoardEntry) (count : ℕ) (board : History) (e : BoardEntry) → AreJudged s log count board
    → count < length log → e ≡ get_or log count e → (FitsOrder s e → IsBoardStep s.shape (log_of board) e → ⊥) → IsLeast (IsBrokenOrder s log) (count + 1)
breaks_here s log count board e was below is broken = record {
  holds = (
    count,
    refl,
    e,
    at_place log count e below is,
    λ legal.
        let R : List BoardEntry → Type 0 = λ l. IsBoardStep s.shape l e in
        broken legal.fits (subst R (sym was.log_is) legal.step),
  );
  least = λ other found. least other found (cases_lt found.0 count);
}
  where
    least : (other : ℕ) (found : IsBrokenOrder s log other) → (found.0 < count) ⊎ (count ≤ found.0) → count + 1 ≤ other
    least other found (inl early) = absurd (found.4 (was.legal found.0 found.2 early found.3))
    least other found (inr late) =
        let numbered = found.1 in
        omega (arith, late, numbered)

-- if all are judged, all are legal
pub all_legal : (s : Scenario) (log : List BoardEntry) (count : ℕ) (board : History) → AreJudged s log count board → length log ≤ count → IsLegalBoard s log
all_legal s log count board was whole index e there =
    let within = slice_get_within log index e there in
    was.legal index e (omega (arith, within, whole)) there
