use Rattle.std.proofs.Common.{◌∙◌, ap, subst, sym}
use Rattle.turn_cell.specs.Seats.{CellView, seat_view}
use Rattle.fabric.specs.Views.{fabric_view}
use Rattle.operation_text.specs.declared.named_op.FileAction.TheVariants.{SetLevel}
use Rattle.actor_operations.specs.Entries.{ActionTells}
use Rattle.actor_operations.specs.Stops.{Ended}
use Rattle.actor_operations.proofs.PathEntries.{level_entry}
use Rattle.actor_operations.proofs.file_action.play_level.Goals as goal

pub returns-clause-tells : goal.returns-clause-tells
returns-clause-tells g c =
    subst
    (λ (ended : Ended). ActionTells ended (fabric_view c.args.desk.now.fabric.now) (SetLevel c.args.level) c.args.desk.now.by (seat_view c.args.seat.now).number (seat_view c.args.seat.now).last
    (seat_view c.set_level-answer.new.seat).last c.args.desk.now.hand.now c.set_level-answer.new.desk.hand.now) (sym c.after_level.ensures)
    (level_entry g.S.Slot.place_of g.S.Slot.content g.S.Slot.len_of g.S.Slot.faults g.S.Slot.reads (fabric_view c.args.desk.now.fabric.now) c.args.desk.now.by
    (seat_view c.args.seat.now) (seat_view c.set_level-answer.new.seat) (ap (λ (cell : CellView). cell.seats) c.requires.seat.0 ∙ c.requires.alone)
    c.args.desk.now.hand.now c.set_level-answer.new.desk.hand.now c.requires.one c.args.level c.set_level-answer.result c.set_level-answer.ensures.turn c.set_level-answer.ensures.account)
