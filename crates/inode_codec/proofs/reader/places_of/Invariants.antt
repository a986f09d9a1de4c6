use Rattle.std.proofs.Common.{◌≡◌, ◌-◌, [], map}
use Rattle.field_readers.specs.FieldReaders.{each}
use Rattle.field_readers.proofs.EachInTurn.{with_front}
use Rattle.inode_codec.specs.InodeReader.{place_at, push, raw_place}
use Rattle.inode_codec.proofs.reader.places_of.Given as goal

abbrev pub invariant-loop-place : goal.invariant-loop-place
invariant-loop-place l =
    with_front (map raw_place l.places.items) (each place_at push (l.count - l._place) (map raw_place l.places.items) l.rest) ≡ each place_at push l.count [] l.bytes
