use Rattle.std.proofs.Common.{◌*◌}
use Rattle.lane_kernels.specs.Lanes.{AddsLookedUp}
use Rattle.lane_kernels.proofs.multiples.add_blocks.Given as goal

abbrev pub invariant-loop-block : goal.invariant-loop-block
invariant-loop-block l = AddsLookedUp l.table 0 (l.block * 64) l.input l.fn.out l.out
