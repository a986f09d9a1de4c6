use Rattle.std.proofs.Common.{◌≡◌, ◌+◌, drop}
use Rattle.engine_core.specs.SavedJobs.{before_in}
use Rattle.engine_core.proofs.saved.before_in.Given as goal

abbrev pub invariant-loop-other : goal.invariant-loop-other
invariant-loop-other l = record { whole : l.before + before_in l.job (drop l.other-index l.saved) ≡ before_in l.job l.saved; same : l.before ≡ l.other-index }
