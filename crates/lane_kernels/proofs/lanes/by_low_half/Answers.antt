use Rattle.std.proofs.Common.{get_or, refl, arith}
use Rattle.lane_kernels.proofs.LaneLemmas.{low_halves, SwzOk-halves, HasLanes-look_up, zero_based}
use Rattle.lane_kernels.proofs.lanes.by_low_half.Goals as goal

pub swizzle : goal.swizzle
swizzle c = SwzOk-halves 2 32 refl _ _ (low_halves 32 c.args.x c.fits-x.0) (λ k l. omega arith)

pub returns : goal.returns
returns c =
    HasLanes-look_up 2 32 refl _ _ (low_halves 32 c.args.x c.fits-x.0) (λ k l. omega arith)
    c.load_16.result (λ k. get_or c.args.table.now k 0) c.twice.ensures (zero_based _ _ c.load_16.ensures)
