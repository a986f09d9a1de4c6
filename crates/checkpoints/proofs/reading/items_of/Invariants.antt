use Rattle.std.proofs.Common.{◌≡◌, ◌-◌, map}
use Rattle.field_readers.specs.FieldReaders.{each}
use Rattle.checkpoints.specs.CheckpointFields.{item_at, raw_item, stays}
use Rattle.field_readers.proofs.EachInTurn.{with_front}
use Rattle.checkpoints.proofs.reading.items_of.Given as goal

abbrev pub invariant-loop-item : goal.invariant-loop-item
invariant-loop-item l = with_front (map raw_item l.items.items) (each item_at stays (l.count - l._item) 0 l.rest) ≡ each item_at stays l.count 0 l.bytes
