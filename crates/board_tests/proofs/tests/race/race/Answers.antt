use Rattle.std.proofs.Common.{◌≡◌, ◌∙◌, ℕ, List, [], Some, ap, sym, subst, rules}
use Rattle.std.specs.Prelude.{slice_get}
use Rattle.domains.specs.Shape.{Shape}
use Rattle.board_history.specs.Board.{IsLegalBoardLog}
use Rattle.board_history.specs.declared.entry.BoardEntry.{BoardEntry}
use Rattle.turn_cell.specs.Seats.{seat_view}
use Rattle.turn_cell.proofs.SeatLists.{FollowsEach-at}
use Rattle.board.specs.Examples.{small_shape}
use Rattle.board.specs.History.{History, log_of}
use Rattle.board.specs.Views.{FollowsBoard, IsViewOf}
use Rattle.board.proofs.ViewLemmas.{IsViewOf-follows}
use Rattle.board_tests.proofs.tests.race.race.Goals as goal

module _ (g : Rattle.board_tests.proofs.tests.race.race.Given.Over) (c : goal.After-close g) where
  -- the board that is left follows what the watching seat had seen
  follows : FollowsBoard 1 (seat_view c.join-zero.result.1.2).last c.close-board.result
  follows =
      let at : slice_get c.push_reserved-2.new.self.items 1 ≡ Some c.join-zero.result.1.2 = search rules in
      FollowsEach-at (λ (h : History). h.turns) (λ (h : History). h.notes) (λ (h : History) (k : ℕ). []) (λ (h : History). (h.shape, h.room)) c.close-board.result 0 _ 1 c.join-zero.result.1.2 c.close-board.ensures.follows at

  shape : (seat_view c.join-zero.result.1.2).last.shape ≡ small_shape
  shape = search rules

  whole : c.close-board.result.shape ≡ small_shape
  whole = ap (λ (f : Shape × ℕ). f.0) follows.fixed ∙ shape

  late : IsViewOf (seat_view c.join-zero.result.1.2).last.shape (log_of (seat_view c.join-zero.result.1.2).last) c.join-zero.result.1.1
  late = search rules

pub returns-clause-view : goal.returns-clause-view
returns-clause-view g c =
    subst (λ (x : Shape × List BoardEntry). IsViewOf x.0 x.1 c.join-zero.result.1.1) (λ i. (whole g c i, sym c.close.ensures.log i))
    (IsViewOf-follows 1 (seat_view c.join-zero.result.1.2).last c.close-board.result c.join-zero.result.1.1 (follows g c) (late g c))

pub returns-clause-legal : goal.returns-clause-legal
returns-clause-legal g c = subst (λ (x : Shape). IsLegalBoardLog x c.close.result) (whole g c) c.close.ensures.legal
