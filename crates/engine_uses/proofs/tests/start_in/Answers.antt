use Rattle.engine_uses.proofs.EngineCalls.{changes_after_reserve, changes_reserve, changes_start}
use Rattle.engine_uses.proofs.tests.start_in.Goals as goal

pub returns-then-is_err : goal.returns-then-is_err
returns-then-is_err c = changes_reserve c.args.engine.now c.reserve.new.self c.reserve.ensures.same

pub returns-then-is_started : goal.returns-then-is_started
returns-then-is_started c = changes_reserve c.args.engine.now c.reserve.new.self c.reserve.ensures.same

pub returns : goal.returns
returns c =
    changes_after_reserve c.args.engine.now c.reserve.new.self c.start-started.new.self c.reserve.ensures.same
    (changes_start c.start-started.result c.reserve.new.self c.start-started.new.self _ _ _ _ _ _ c.start-started.ensures.ok c.start-started.ensures.refused c.start-started.ensures.kept)
