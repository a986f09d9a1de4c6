use Rattle.slot_pool.proofs.NewPool.{IsFresh-new}
use Rattle.slot_pool_tests.proofs.tests.race.open.Goals as goal

pub new-requires-clause-fresh : goal.new-requires-clause-fresh
new-requires-clause-fresh c = IsFresh-new c.in_ok-pool.pool c.in_ok-pool.ensures.turns c.in_ok-pool.ensures.none
