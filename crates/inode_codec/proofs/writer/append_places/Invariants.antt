use Rattle.std.proofs.Common.{◌≡◌, ◌+◌, ◌*◌, ◌++◌, drop}
use Rattle.std.specs.Vec.{vec_capacity, vec_len}
use Rattle.inode_codec.specs.Inode.{places_bytes}
use Rattle.inode_codec.proofs.writer.append_places.Given as goal

-- what is written and the places to come, in the memory that was there
abbrev pub invariant-loop-place : goal.invariant-loop-place
invariant-loop-place l =
    (l.bytes.items ++ places_bytes (drop l.place-index l.places) ≡ l.fn.bytes.items ++ places_bytes l.places)
    × (vec_len l.bytes ≡ vec_len l.fn.bytes + 4 * l.place-index) × (vec_capacity l.bytes ≡ vec_capacity l.fn.bytes)
