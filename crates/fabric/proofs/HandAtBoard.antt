-- Laws for the crates above.
use Rattle.std.proofs.Common.{◌≡◌, ℕ, ◌<◌, ◌∙◌, subst, sym}
use Rattle.board.specs.History.{History}
use Rattle.turn_cell.specs.declared.seat.Seat.{Seat}
use Rattle.turn_cell.specs.Seats.{IsIdleOf, seat_view}
use Rattle.fabric.specs.Cells.{FabricView}
use Rattle.fabric.specs.Views.{IsHandOf, number_of}
use Rattle.fabric.specs.declared.hand.Hand.{Hand}

module _ {S : Type 0} where
  -- a hand whose seat at the board has looked at it, or given an order, is the fabric's still
  pub IsHandOf-board : (f : FabricView) (hand : Hand S) (seat : Seat History) → IsHandOf f hand → IsIdleOf f.board (seat_view seat) → (seat_view seat).number ≡ number_of hand
      → (seat_view seat).last.shape ≡ (seat_view hand.board).last.shape → IsHandOf f (record hand { board = seat })
  IsHandOf-board f hand seat is idle number shape = record {
    within = subst (λ (k : ℕ). k < f.hands) (sym number) is.within;
    board = idle;
    board_shape = shape ∙ is.board_shape;
    yard = is.yard;
    yard_number = is.yard_number ∙ sym number;
    yard_shape = is.yard_shape;
    many = is.many;
    pools = λ k cell there at here. let one = is.pools k cell there at here in (one.0, one.1 ∙ sym number);
    drives = is.drives;
    buffers = λ none. is.buffers (sym number ∙ none);
  }
