use Rattle.std.proofs.Common.{◌≡◌, ◌+◌, ◌++◌, take}
use Rattle.std.specs.Vec.{vec_capacity, vec_len}
use Rattle.inode_codec.proofs.writer.append.Given as goal

-- the bytes so far, in the memory that was there
abbrev pub invariant-loop-byte : goal.invariant-loop-byte
invariant-loop-byte l =
    (l.bytes.items ≡ l.fn.bytes.items ++ take l.byte-index l.text)
    × (vec_len l.bytes ≡ vec_len l.fn.bytes + l.byte-index) × (vec_capacity l.bytes ≡ vec_capacity l.fn.bytes)
