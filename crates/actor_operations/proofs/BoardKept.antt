-- Calls that release slots make no turn at the board.
use Rattle.std.proofs.Common.{◌≡◌, Bool, true, false, List, [], ◌∷◌, refl, ap, ◌∙◌}
use Rattle.board.specs.declared.board_view.View.{View}
use Rattle.domains.specs.DriveSet.{has}
use Rattle.domains.specs.Shape.{Shape}
use Rattle.flex_io.specs.declared.raw_place.RawPlace.{RawPlace}
use Rattle.held_slots.specs.Slots.{drive_of}
use Rattle.fabric.specs.HandTurns.{AtPool, AtYard}
use Rattle.fabric.specs.PoolTurns.{Gives}
use Rattle.fabric.specs.YardTurns.{Puts, Retires}
use Rattle.fabric.specs.declared.hand.Hand.{Hand}
use Rattle.turn_cell.specs.Seats.{seat_view}
use Rattle.write_path.specs.Releases.{ReleasesEach}

module _ {S : Type 0} (place_of : S → RawPlace) (shape : Shape) (view : View) where
  -- the board's seat is the same wherever the slot went, by cases on what the view says of its drive
  at_either : (held : S) (old new : Hand S) (up gone : Bool)
      → (up ≡ true → AtPool shape (drive_of place_of held) (Gives place_of held) old new)
      → (up ≡ false → gone ≡ true → AtYard shape (Retires place_of held) old new)
      → (up ≡ false → gone ≡ false → AtYard shape (Puts place_of held) old new)
      → seat_view new.board ≡ seat_view old.board
  at_either held old new true gone pool retires puts = (pool refl).board
  at_either held old new false true pool retires puts = (retires refl refl).board
  at_either held old new false false pool retires puts = (puts refl refl).board

  pub board_released : (slots : List S) (old new : Hand S) → ReleasesEach place_of slots shape view old new → seat_view new.board ≡ seat_view old.board
  board_released [] old new is = ap (λ (hand : Hand S). seat_view hand.board) is
  board_released (slot ∷ slots) old new is =
      board_released slots is.0 new is.2
      ∙ at_either slot old is.0 (has view.up (drive_of place_of slot)) (has view.gone (drive_of place_of slot)) is.1.went.up is.1.went.gone is.1.went.down
