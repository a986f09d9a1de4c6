use Rattle.std.proofs.Common.{◌≡◌, ◌++◌, drop}
use Rattle.checkpoints.specs.Saved.{AreShort, jobs_bytes}
use Rattle.checkpoints.proofs.writing.write_jobs.Given as goal

abbrev pub invariant-loop-job : goal.invariant-loop-job
invariant-loop-job l = record {
  written : l.bytes.items ++ jobs_bytes (drop l.job-index l.jobs) ≡ l.fn.bytes.items ++ jobs_bytes l.jobs;
  short : AreShort (drop l.job-index l.jobs);
}
