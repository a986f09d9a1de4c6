use Rattle.job_rules.proofs.RunningJobs.{others_apart, others_few}
use Rattle.job_rules.proofs.laws.a_job_that_does_not_wait_runs_beside_the_others.Goals as goal

pub returns-clause-exclusive : goal.returns-clause-exclusive
returns-clause-exclusive c = others_apart

pub returns-clause-few : goal.returns-clause-few
returns-clause-few c = others_few
