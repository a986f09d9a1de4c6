use Rattle.std.proofs.Common.{ap, ◌*◌, ◌∙◌}
use Rattle.slot_yard.specs.Queues.{by_drive}
use Rattle.slot_yard.proofs.NewYard.{IsFresh-new, by_drive-none}
use Rattle.fabric.proofs.new_fabric.yard_cell.Goals as goal

pub new-requires-2-clause-fresh : goal.new-requires-2-clause-fresh
new-requires-2-clause-fresh g c = IsFresh-new c.args.shape c.in_ok-yard.yard c.in_ok-yard.ensures.ok

pub end_empty-requires-clause-waiting : goal.end_empty-requires-clause-waiting
end_empty-requires-clause-waiting g c κs within =
    ap (λ yard. by_drive yard.waiting) c.in-Err.ensures.kept ∙ (ap by_drive c.in_ok-yard.ensures.ok.waiting ∙ by_drive-none (c.args.shape.nodes * 16))
