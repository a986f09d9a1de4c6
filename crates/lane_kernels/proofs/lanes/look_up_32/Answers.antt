use Rattle.lane_kernels.proofs.LaneLemmas.{HasLanes-xor}
use Rattle.lane_kernels.proofs.lanes.look_up_32.Goals as goal

pub returns : goal.returns
returns c = HasLanes-xor 32 _ _ c.by_low_half.ensures c.by_high_half.ensures
