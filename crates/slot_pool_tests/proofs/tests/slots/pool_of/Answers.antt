use Rattle.std.proofs.Common.{ap}
use Rattle.slot_pool.proofs.NewPool.{no_tally_at}
use Rattle.slot_pool_tests.proofs.tests.slots.pool_of.Goals as goal

pub returns-in-Ok-clause-none : goal.returns-in-Ok-clause-none
returns-in-Ok-clause-none c = no_tally_at c.in-Ok.pool.tallies (ap (λ p. p.tallies) c.in-Ok.ensures.ok)
