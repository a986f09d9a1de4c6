use Rattle.std.proofs.Common.{◌≡◌, refl, sym, length, rules}
use Rattle.turn_cell.specs.Seats.{seat_view, taken, turn_seat}
use Rattle.file_core.specs.FileView.{FileView, layout_of}
use Rattle.file_core.specs.Looks.{IsLook}
use Rattle.file_turns.specs.FileTurns.{FileTurn}
use Rattle.file_turns.proofs.FileTurnLemmas.{changes_none, file_turn, turn_within}
use Rattle.file_turns.proofs.look_turn.look.Goals as goal

pub leave-requires-clause-changed : goal.leave-requires-clause-changed
leave-requires-clause-changed g c =
    turn_within (seat_view c.args.seat.now) (turn_seat c.enter-turn.result) (taken c.enter-turn.result) _ c.state.result.now c.state.result.now
    c.enter-turn.ensures.entered c.state.ensures.value (changes_none c.state.result.now c.state.result.now refl)

pub returns-clause-turn : goal.returns-clause-turn
returns-clause-turn g c =
    let done : FileTurn (λ (x y : FileView g.row.S.Denot). (y ≡ x) × IsLook (layout_of x) (length x.notes) c.look-look.result) (seat_view c.args.seat.now) (seat_view c.leave.new.self.1.0) =
    file_turn _ (seat_view c.args.seat.now) (turn_seat c.enter-turn.result) _ (taken c.enter-turn.result) _ c.state.result.now c.state.result.now
    c.enter-turn.ensures.entered c.state.ensures.value (refl, c.look-look.ensures) c.leave.ensures.left in
    search rules
