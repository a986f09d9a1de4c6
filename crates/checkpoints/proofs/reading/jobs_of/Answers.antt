use Rattle.std.proofs.Common.{◌≡◌, ◌++◌, ◌∷◌, [], map}
use Rattle.std.proofs.lemmas.List.{map_push}
use Rattle.field_readers.specs.FieldReaders.{each}
use Rattle.checkpoints.specs.CheckpointFields.{above, job_at, raw_job}
use Rattle.field_readers.proofs.EachInTurn.{ends, goes_on}
use Rattle.checkpoints.proofs.reading.jobs_of.Goals as goal

pub returns-in-Err : goal.returns-in-Err
returns-in-Err c =
    ends (job_at c.args.started) above c.in-Err.fault (map raw_job c.loop-job.jobs.items) c.args.count c.loop-job._job c.loop-job.least c.loop-job.rest.now (each (job_at c.args.started) above c.args.count 0 c.args.bytes.now) c.loop-job-test.true c.in-Err.ensures c.loop-job.invariant

pub loop-job-preserved : goal.loop-job-preserved
loop-job-preserved c =
    let j = c.in-Ok.read.0 in
    let e : map raw_job c.push.new.self.items ≡ map raw_job c.loop-job.jobs.items ++ raw_job j ∷ [] = rw c.in_ok-push.ensures.items (map_push raw_job c.loop-job.jobs.items j) in
    let least : c.from-least.result ≡ j.job.number = c.from-least.ensures in
    rw (e, least) (goes_on (job_at c.args.started) above (map raw_job c.loop-job.jobs.items) c.args.count c.loop-job._job c.loop-job.least c.loop-job.rest.now (raw_job j) c.in-Ok.read.1.now (each (job_at c.args.started) above c.args.count 0 c.args.bytes.now) c.loop-job-test.true c.in-Ok.ensures c.loop-job.invariant)
