use Rattle.std.proofs.Common.{◌<◌, arith, rules}
use Rattle.std.specs.Prelude.{slice_index_or}
use Rattle.engine_history.specs.declared.job.JobState.{JobState}
use Rattle.engine_core.proofs.JobsSeen.{order_at}
use Rattle.engine_core.proofs.saved.checkpoint_of.Goals as goal

pub saved_of-requires : goal.saved_of-requires
saved_of-requires c =
    let few : (d : JobState) → (slice_index_or c.args.jobs.now c.loop-job.job-index d).order < 64 =
    λ d. let order = order_at 0 c.loop-job.job-index c.args.jobs.now d c.requires.ordered c.loop-job-test.true in omega (arith, order, c.loop-job-test.true, c.requires.few) in
    search rules
