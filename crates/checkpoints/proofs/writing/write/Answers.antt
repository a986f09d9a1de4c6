use Rattle.checkpoints.proofs.Spelled.{short_jobs}
use Rattle.checkpoints.proofs.writing.write.Goals as goal

pub write_jobs-requires : goal.write_jobs-requires
write_jobs-requires c = rw c.as_slice.ensures (short_jobs c.args.checkpoint.now.started 0 c.args.checkpoint.now.jobs c.requires.jobs)
