use Rattle.std.proofs.Common.{◌≡◌, drop}
use Rattle.job_log.specs.Jobs.{place_of}
use Rattle.job_log.proofs.JobPlaces.{later_by}
use Rattle.job_log.proofs.job_log.first_place.Given as goal

abbrev pub invariant-loop-at : goal.invariant-loop-at
invariant-loop-at l = later_by l.at (place_of l.job (drop l.at l.jobs)) ≡ place_of l.job l.jobs
