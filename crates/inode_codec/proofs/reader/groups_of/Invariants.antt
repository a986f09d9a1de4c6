use Rattle.std.proofs.Common.{◌≡◌, ◌-◌, [], map}
use Rattle.field_readers.specs.FieldReaders.{each}
use Rattle.field_readers.proofs.EachInTurn.{with_front}
use Rattle.inode_codec.specs.InodeReader.{group_at, push, raw_group}
use Rattle.inode_codec.proofs.reader.groups_of.Given as goal

abbrev pub invariant-loop-group : goal.invariant-loop-group
invariant-loop-group l =
    with_front (map raw_group l.groups.items) (each group_at push (l.count - l._group) (map raw_group l.groups.items) l.rest) ≡ each group_at push l.count [] l.bytes
