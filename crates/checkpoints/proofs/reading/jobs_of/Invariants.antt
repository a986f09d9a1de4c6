use Rattle.std.proofs.Common.{◌≡◌, ◌-◌, map}
use Rattle.field_readers.specs.FieldReaders.{each}
use Rattle.checkpoints.specs.CheckpointFields.{above, job_at, raw_job}
use Rattle.field_readers.proofs.EachInTurn.{with_front}
use Rattle.checkpoints.proofs.reading.jobs_of.Given as goal

abbrev pub invariant-loop-job : goal.invariant-loop-job
invariant-loop-job l =
    with_front (map raw_job l.jobs.items) (each (job_at l.started) above (l.count - l._job) l.least l.rest)
    ≡ each (job_at l.started) above l.count 0 l.bytes
