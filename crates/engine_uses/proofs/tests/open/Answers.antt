use Rattle.engine_uses.proofs.EngineCalls.{new_is_fresh}
use Rattle.engine_uses.proofs.tests.open.Goals as goal

pub new-requires-3-clause-fresh : goal.new-requires-3-clause-fresh
new-requires-3-clause-fresh c = new_is_fresh c.new.result 2 100 c.in_ok-engine.engine c.in_ok-engine.ensures.ok
