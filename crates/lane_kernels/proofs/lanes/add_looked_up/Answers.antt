use Rattle.lane_kernels.proofs.LaneLemmas.{HasLanes-xor_right}
use Rattle.lane_kernels.proofs.lanes.add_looked_up.Goals as goal

pub returns : goal.returns
returns c = HasLanes-xor_right 32 c.args.sum _ c.fits-sum.0 c.look_up_32.ensures
