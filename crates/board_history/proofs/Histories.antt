-- The board's log as it grows.
use Rattle.std.proofs.Common.{◌≡◌, ℕ, ◌≤◌, ◌&&◌, List, [], ◌∷◌, ◌++◌, length, take, refl, sym, ap, subst, append_assoc, append-nil}
use Rattle.std.proofs.Math.Seq.{take-length}
use Rattle.std.proofs.lemmas.List.{take-append-le}
use Rattle.domains.specs.Drive.{Drive}
use Rattle.domains.specs.Shape.{Shape, is_of}
use Rattle.board_history.specs.Board.{after_order, state_from, state_after, up_after, gone_after, is_up, is_gone, AreBoardSteps, IsBoardStep}
use Rattle.board_history.specs.declared.entry.State.{State}
use Rattle.board_history.specs.declared.entry.BoardEntry.{BoardEntry}

-- one more entry changes the state that the log leaves
pub state_from-push : (log : List BoardEntry) (e : BoardEntry) (d : Drive) (was : State)
    → state_from (log ++ e ∷ []) d was ≡ after_order e.order d (state_from log d was)
state_from-push [] e d was = refl
state_from-push (x ∷ xs) e d was = state_from-push xs e d (after_order x.order d was)

-- after the whole log, a drive of the cluster is up where the log leaves it up
pub up_after-all : (shape : Shape) (log : List BoardEntry) (d : Drive)
    → up_after shape log (length log) d ≡ is_of shape d && is_up (state_after log d)
up_after-all shape log d = ap (λ (l : List BoardEntry). is_of shape d && is_up (state_after l d)) (take-length log)

pub gone_after-all : (shape : Shape) (log : List BoardEntry) (d : Drive)
    → gone_after shape log (length log) d ≡ is_of shape d && is_gone (state_after log d)
gone_after-all shape log d = ap (λ (l : List BoardEntry). is_of shape d && is_gone (state_after l d)) (take-length log)

-- later entries change nothing before them
pub take-before : (log more : List BoardEntry) (epoch : ℕ) → epoch ≤ length log → take epoch (log ++ more) ≡ take epoch log
take-before log more epoch within = take-append-le epoch log more within

-- a legal log with one more legal entry
pub AreBoardSteps-push : (shape : Shape) (before log : List BoardEntry) (e : BoardEntry) → AreBoardSteps shape before log → IsBoardStep shape (before ++ log) e
    → AreBoardSteps shape before (log ++ e ∷ [])
AreBoardSteps-push shape before [] e legal step = (subst (λ (l : List BoardEntry). IsBoardStep shape l e) (append-nil before) step, tt)
AreBoardSteps-push shape before (x ∷ xs) e legal step =
    (legal.0, AreBoardSteps-push shape (before ++ x ∷ []) xs e legal.1 (subst (λ (l : List BoardEntry). IsBoardStep shape l e) (sym (append_assoc before (x ∷ []) xs)) step))
