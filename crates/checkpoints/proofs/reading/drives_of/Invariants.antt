use Rattle.std.proofs.Common.{◌≡◌, ◌-◌, map}
use Rattle.field_readers.specs.FieldReaders.{each}
use Rattle.checkpoints.specs.CheckpointFields.{drive_at, raw_drive, this_drive}
use Rattle.field_readers.proofs.EachInTurn.{with_front}
use Rattle.checkpoints.proofs.reading.drives_of.Given as goal

abbrev pub invariant-loop-drive : goal.invariant-loop-drive
invariant-loop-drive l =
    with_front (map raw_drive l.drives.items) (each drive_at this_drive (l.count - l._drive) (l.before.0, l.before.1) l.rest)
    ≡ each drive_at this_drive l.count (0, 0) l.bytes
