-- The turn as a whole.
use Rattle.std.proofs.Common.{◌≡◌, ◌+◌, sym, ap, subst, ◌∙◌, rules}
use Rattle.turn_cell.specs.Seats.{SeatView, seat_view, taken, turn_seat}
use Rattle.fabric.specs.Views.{fabric_view}
use Rattle.file_core.specs.FileView.{FileView, IsFile}
use Rattle.file_turns.specs.FileTurns.{FileTurn, terms_of}
use Rattle.file_turns.proofs.FileTurnLemmas.{file_turn, turn_within}
use Rattle.file_turns.specs.PathAccounts.{KeepsAccount}
use Rattle.file_turns.proofs.PathTurns.{keeps_from_last, shape_found}
use Rattle.level_path.specs.Levels.{LevelTells}
use Rattle.level_path.proofs.LevelLemmas.{level_account, level_changes}
use Rattle.level_path.proofs.level_setting.set_level.Goals as goal

pub set_level_in-set-requires-clause-shape : goal.set_level_in-set-requires-clause-shape
set_level_in-set-requires-clause-shape g c κs within =
    shape_found (seat_view c.args.seat.now) (turn_seat c.enter-turn.result) (taken c.enter-turn.result) _ c.state.result.now c.enter-turn.ensures.entered c.state.ensures.value
    (fabric_view c.args.desk.now.fabric.now).shape c.requires.shape

pub leave-requires-clause-changed : goal.leave-requires-clause-changed
leave-requires-clause-changed g c =
    turn_within (seat_view c.args.seat.now) (turn_seat c.enter-turn.result) (taken c.enter-turn.result) _ c.state.result.now c.set_level_in-set.new.file
    c.enter-turn.ensures.entered c.state.ensures.value
    (level_changes (fabric_view c.args.desk.now.fabric.now) c.args.desk.now.by c.args.level c.state.result.now c.set_level_in-set.new.file
    c.args.desk.now.hand.now c.set_level_in-set.new.desk.hand.now c.set_level_in-set.result c.set_level_in-set.ensures.tells)

pub returns-clause-turn : goal.returns-clause-turn
returns-clause-turn g c =
    let done : FileTurn
    (λ (x y : FileView g.row.S.Denot). LevelTells c.set_level_in-set.result (fabric_view c.args.desk.now.fabric.now) c.args.desk.now.by c.args.level x y c.args.desk.now.hand.now c.set_level_in-set.new.desk.hand.now)
    (seat_view c.args.seat.now) (seat_view c.leave.new.self.1.0) =
    file_turn _ (seat_view c.args.seat.now) (turn_seat c.enter-turn.result) _ (taken c.enter-turn.result) _ c.state.result.now c.set_level_in-set.new.file
    c.enter-turn.ensures.entered c.state.ensures.value c.set_level_in-set.ensures.tells c.leave.ensures.left in
    search rules

pub returns-clause-account : goal.returns-clause-account
returns-clause-account g c =
    let f = fabric_view c.args.desk.now.fabric.now in
    let last = ap (λ (s : SeatView (FileView g.row.S.Denot)). s.last) c.leave.ensures.left in
    let kept : KeepsAccount f.shape (seat_view c.args.seat.now).number (seat_view c.args.seat.now).last (seat_view c.leave.new.self.1.0).last c.args.desk.now.hand.now c.set_level_in-set.new.desk.hand.now =
    subst (λ (y : FileView g.row.S.Denot). KeepsAccount f.shape (seat_view c.args.seat.now).number (seat_view c.args.seat.now).last y c.args.desk.now.hand.now c.set_level_in-set.new.desk.hand.now) (sym last)
    (keeps_from_last (seat_view c.args.seat.now) (turn_seat c.enter-turn.result) (taken c.enter-turn.result) _ c.state.result.now c.enter-turn.ensures.entered c.state.ensures.value
    f.shape c.set_level_in-set.new.file (c.set_level_in-set.new.file.turns + 1) c.args.desk.now.hand.now c.set_level_in-set.new.desk.hand.now
    (level_account f c.args.desk.now.by c.args.level c.state.result.now c.set_level_in-set.new.file c.args.desk.now.hand.now c.set_level_in-set.new.desk.hand.now
    c.set_level_in-set.result c.set_level_in-set.ensures.tells)) in
    search rules

pub returns-clause-terms : goal.returns-clause-terms
returns-clause-terms g c =
    let terms : terms_of (seat_view c.leave.new.self.1.0).last ≡ terms_of (seat_view c.args.seat.now).last =
    ap (λ (s : SeatView (FileView g.row.S.Denot)). terms_of s.last) c.leave.ensures.left ∙ c.leave.ensures.grows.fixed
    ∙ ap (λ (s : SeatView (FileView g.row.S.Denot)). terms_of s.last) c.enter-turn.ensures.entered.seat in
    search rules

pub returns-clause-file : goal.returns-clause-file
returns-clause-file g c =
    let last = ap (λ (s : SeatView (FileView g.row.S.Denot)). s.last) c.leave.ensures.left in
    let file : IsFile g.S.Slot.place_of g.S.Slot.content g.S.Slot.len_of (seat_view c.leave.new.self.1.0).last =
    subst (λ (y : FileView g.row.S.Denot). IsFile g.S.Slot.place_of g.S.Slot.content g.S.Slot.len_of y) (sym last) c.set_level_in-set.ensures.file in
    search rules
