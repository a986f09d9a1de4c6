use Rattle.std.proofs.Common.{subst, sym}
use Rattle.fabric.specs.Views.{fabric_view}
use Rattle.whole_scenario.specs.declared.op.Op.{Op}
use Rattle.actor_operations.specs.Operations.{OperationTells}
use Rattle.actor_operations.proofs.operation.play_operation.Goals as goal

pub returns-in-OnFile-clause-tells : goal.returns-in-OnFile-clause-tells
returns-in-OnFile-clause-tells g c =
    subst
    (λ (o : Op). OperationTells g.S.Slot.place_of g.S.Slot.content g.S.Slot.len_of c.play_on_file.result (fabric_view c.args.desk.now.fabric.now) o c.args.desk.now.by
    c.args.files.now c.play_on_file.new.files c.args.desk.now.hand.now c.play_on_file.new.desk.hand.now)
    (sym c.in-OnFile.is) c.play_on_file.ensures.tells
