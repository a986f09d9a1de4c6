use Rattle.job_log.proofs.JobPlaces.{found_placed, placed_some}
use Rattle.job_log.proofs.job_log.place_of.Goals as goal

pub returns-clause-within : goal.returns-clause-within
returns-clause-within c = placed_some c.args.job c.args.jobs.now c.first_place.result c.first_place.ensures

pub returns-clause-found : goal.returns-clause-found
returns-clause-found c = found_placed c.args.job c.args.jobs.now c.first_place.result c.first_place.ensures
