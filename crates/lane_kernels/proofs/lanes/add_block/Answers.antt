use Rattle.lane_kernels.proofs.LaneLemmas.{block_added}
use Rattle.lane_kernels.proofs.lanes.add_block.Goals as goal

pub returns : goal.returns
returns c =
    block_added 32 c.args.at c.args.table.now c.args.input.now c.args.out.now c.look_up_32.result
    c.requires.0 c.look_up_32.ensures
