-- Orders of the board that grow at their end.
use Rattle.std.proofs.Common.{◌≡◌, List, [], ◌∷◌, ◌++◌, sym, subst, append_assoc}
use Rattle.std.proofs.lemmas.List.{append-nil}
use Rattle.board_history.specs.Board.{IsBoardStep}
use Rattle.board_history.specs.declared.entry.BoardEntry.{BoardEntry}
use Rattle.scenario.specs.declared.scenario.Scenario.{Scenario}
use Rattle.report.specs.Script.{FitsOrder}
use Rattle.report.specs.Legal.{AreLegalOrders}

-- legal orders grow by a legal order
pub AreLegalOrders-push : (es before : List BoardEntry) (s : Scenario) (e : BoardEntry) → AreLegalOrders es before s
    → IsBoardStep s.shape (before ++ es) e → FitsOrder s e → AreLegalOrders (es ++ e ∷ []) before s
AreLegalOrders-push [] before s e legal step fits = (subst (λ (l : List BoardEntry). IsBoardStep s.shape l e) (append-nil before) step, fits, tt)
AreLegalOrders-push (x ∷ xs) before s e legal step fits = (
  legal.0,
  legal.1,
  AreLegalOrders-push xs (before ++ x ∷ []) s e legal.2 (subst (λ (l : List BoardEntry). IsBoardStep s.shape l e) (sym (append_assoc before (x ∷ []) xs)) step) fits,
)
