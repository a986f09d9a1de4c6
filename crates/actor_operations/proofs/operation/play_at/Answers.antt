-- The file is open still, and its seat has number 0.
use Rattle.std.proofs.Common.{ℕ, ◌∙◌, subst}
use Rattle.turn_cell.specs.Seats.{seat_view}
use Rattle.fabric.specs.Views.{fabric_view}
use Rattle.file_cells.specs.OpenFiles.{state_of}
use Rattle.actor_operations.specs.Entries.{ActionTells}
use Rattle.actor_operations.proofs.operation.play_at.Goals as goal

pub returns-clause-open : goal.returns-clause-open
returns-clause-open g c =
    let was = c.requires.open.open_ in
    record { seat = c.play_action.ensures.seat; first = c.play_action.ensures.seat_number ∙ was.first; alone = was.alone; none = was.none; space = was.space }

pub returns-clause-tells : goal.returns-clause-tells
returns-clause-tells g c =
    subst
    (λ (n : ℕ). ActionTells c.play_action.result (fabric_view c.args.desk.now.fabric.now) c.args.action.now c.args.desk.now.by n (state_of c.args.file.now)
    (seat_view c.play_action.new.seat).last c.args.desk.now.hand.now c.play_action.new.desk.hand.now)
    c.requires.open.open_.first c.play_action.ensures.tells
