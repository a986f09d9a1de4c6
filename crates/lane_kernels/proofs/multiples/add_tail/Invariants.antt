use Rattle.lane_kernels.specs.Lanes.{AddsLookedUp}
use Rattle.lane_kernels.proofs.multiples.add_tail.Given as goal

abbrev pub invariant-loop-k : goal.invariant-loop-k
invariant-loop-k l = AddsLookedUp l.table l.from l.k l.input l.fn.out l.out
