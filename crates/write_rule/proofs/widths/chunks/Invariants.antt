use Rattle.std.proofs.Common.{◌++◌, ℕ, List}
use Rattle.file_history.specs.WriteRule.{AreChunks}
use Rattle.write_rule.proofs.widths.chunks.Given as goal

-- groups that share what is left complete those so far
abbrev pub invariant-loop-left : goal.invariant-loop-left
invariant-loop-left l = (rest : List ℕ) → AreChunks l.left l.fn.width rest → AreChunks l.fn.units l.fn.width (l.chunks.items ++ rest)

abbrev pub decreases-loop-left : goal.decreases-loop-left
decreases-loop-left l = l.left
