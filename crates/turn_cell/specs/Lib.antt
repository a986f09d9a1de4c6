pub mod Notes
pub mod Histories
pub mod Views
pub mod CellRule
pub mod StepOutcomes
pub mod Seats
-- what the public clauses cite
pub use Rattle.turn_cell.specs.declared.chronicle.Note.{Note}
pub use Rattle.turn_cell.specs.declared.seat.Seat.{Seat}
pub use Rattle.turn_cell.specs.Notes.{AreBelow, AreOf, AreZeros, entries_by, notes_by}
pub use Rattle.turn_cell.specs.Histories.{Changed, Follows, IsFresh}
pub use Rattle.turn_cell.specs.Seats.{CellView, SeatView, cell_view, seat_view, turn_seat, taken, state_of}
pub use Rattle.turn_cell.specs.Seats.{IsIdleOf, AreIdleFrom, AreNewSeats, AreSeatsOf, new_seat, in_turn, left, seeing}
pub use Rattle.turn_cell.specs.Seats.{Enters, InTurn, Grows, FollowsEach, Closes}
