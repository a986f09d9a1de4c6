use Rattle.std.proofs.Common.{◌≡◌, ◌≤◌, drop, length}
use Rattle.job_log.proofs.JobPlaces.{later_by}
use Rattle.engine_core.specs.SavedJobs.{differs_at}
use Rattle.engine_core.proofs.saved.differs_at.Given as goal

abbrev pub invariant-loop-byte : goal.invariant-loop-byte
invariant-loop-byte l = record { whole : later_by l.at (differs_at (drop l.at l.bytes) (drop l.at l.own)) ≡ differs_at l.bytes l.own; same : l.at ≡ l.byte-index; within : l.at ≤ length l.own }
