use Rattle.std.proofs.Common.{◌≡◌, ℕ, ◌<◌, get_or}
use Rattle.sparse_bytes.proofs.page.are_zeros.Given as goal

-- the bytes so far are zeros
abbrev pub invariant-loop-byte : goal.invariant-loop-byte
invariant-loop-byte l = (i : ℕ) → i < l.byte-index → get_or l.bytes i 0 ≡ 0
