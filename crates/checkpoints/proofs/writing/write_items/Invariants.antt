use Rattle.std.proofs.Common.{◌≡◌, ◌++◌, drop}
use Rattle.checkpoints.specs.Saved.{items_bytes}
use Rattle.checkpoints.proofs.writing.write_items.Given as goal

abbrev pub invariant-loop-item : goal.invariant-loop-item
invariant-loop-item l = l.bytes.items ++ items_bytes (drop l.item-index l.items) ≡ l.fn.bytes.items ++ items_bytes l.items
