use Rattle.std.proofs.Common.{◌≡◌, ◌≤◌, ◌++◌, drop, vec_len, vec_capacity}
use Rattle.engine_history.specs.Jobs.{views_of}
use Rattle.engine_core.proofs.serving.see.Given as goal

abbrev pub invariant-loop-job : goal.invariant-loop-job
invariant-loop-job l = record {
  views : l.views.items ++ views_of (drop l.job-index l.jobs) ≡ views_of l.jobs;
  few : vec_len l.views ≤ l.job-index;
  room : vec_capacity l.views ≡ vec_capacity l.initial.views;
}
