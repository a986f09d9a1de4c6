use Rattle.std.proofs.Common.{◌≡◌, take}
use Rattle.engine_core.proofs.saved.saved_of.Given as goal

abbrev pub invariant-loop-item : goal.invariant-loop-item
invariant-loop-item l = l.items.items ≡ take l.item-index l.job.items
