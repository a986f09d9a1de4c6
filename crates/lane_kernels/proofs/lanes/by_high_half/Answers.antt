use Rattle.std.proofs.Common.{◌+◌, get_or, refl}
use Rattle.lane_kernels.proofs.LaneLemmas.{high_halves, high_small, SwzOk-halves, HasLanes-look_up}
use Rattle.lane_kernels.proofs.lanes.by_high_half.Goals as goal

pub swizzle : goal.swizzle
swizzle c = SwzOk-halves 2 32 refl _ _ (high_halves 32 c.args.x c.fits-x.0) (high_small 32 c.args.x c.fits-x.0 c.fits-x.1)

pub returns : goal.returns
returns c =
    HasLanes-look_up 2 32 refl _ _ (high_halves 32 c.args.x c.fits-x.0) (high_small 32 c.args.x c.fits-x.0 c.fits-x.1)
    c.load_16.result (λ k. get_or c.args.table.now (16 + k) 0) c.twice.ensures c.load_16.ensures
