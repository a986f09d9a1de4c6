use Rattle.checkpoints.proofs.CheckpointReader.{checkpoint_is}
use Rattle.checkpoints.proofs.reading.checkpoint_of.Goals as goal

pub returns : goal.returns
returns c =
    rw c.from_vec.ensures
    (checkpoint_is c.args.bytes.now c.in_ok-_mark._mark c.in_ok-_mark.rest.now c.in_ok-_format._format c.in_ok-_format.rest.now c.in_ok-started.started c.in_ok-started.rest.now c.in_ok-count.count c.in_ok-count.rest.now c.in-Ok.read.0.items c.in-Ok.read.1.now
    c.in_ok-_mark.ensures c.in_ok-_format.ensures c.in_ok-started.ensures c.in_ok-count.ensures c.in-Ok.ensures)
