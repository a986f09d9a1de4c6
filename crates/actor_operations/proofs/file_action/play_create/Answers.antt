use Rattle.std.proofs.Common.{◌∙◌, ap, subst, sym}
use Rattle.turn_cell.specs.Seats.{CellView, seat_view}
use Rattle.fabric.specs.Views.{fabric_view}
use Rattle.operation_text.specs.declared.named_op.FileAction.TheVariants.{Create}
use Rattle.actor_operations.specs.Entries.{ActionTells}
use Rattle.actor_operations.specs.Stops.{Ended}
use Rattle.actor_operations.proofs.PathEntries.{create_entry}
use Rattle.actor_operations.proofs.file_action.play_create.Goals as goal

pub returns-clause-tells : goal.returns-clause-tells
returns-clause-tells g c =
    subst
    (λ (ended : Ended). ActionTells ended (fabric_view c.args.desk.now.fabric.now) Create c.args.desk.now.by (seat_view c.args.seat.now).number (seat_view c.args.seat.now).last
    (seat_view c.create-answer.new.seat).last c.args.desk.now.hand.now c.create-answer.new.desk.hand.now) (sym c.after_create.ensures)
    (create_entry g.S.Slot.place_of g.S.Slot.content g.S.Slot.len_of g.S.Slot.faults g.S.Slot.reads (fabric_view c.args.desk.now.fabric.now) c.args.desk.now.by
    (seat_view c.args.seat.now) (seat_view c.create-answer.new.seat) (ap (λ (cell : CellView). cell.seats) c.requires.seat.0 ∙ c.requires.alone)
    c.args.desk.now.hand.now c.create-answer.new.desk.hand.now c.requires.one c.create-answer.result c.create-answer.ensures.turn c.create-answer.ensures.account)
