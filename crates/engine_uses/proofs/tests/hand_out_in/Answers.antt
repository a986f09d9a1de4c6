use Rattle.engine_uses.proofs.EngineCalls.{changes_after_reserve, changes_hand_out, changes_reserve}
use Rattle.engine_uses.proofs.tests.hand_out_in.Goals as goal

pub returns-then-is_err : goal.returns-then-is_err
returns-then-is_err c = changes_reserve c.args.engine.now c.reserve.new.self c.reserve.ensures.same

pub returns : goal.returns
returns c =
    changes_after_reserve c.args.engine.now c.reserve.new.self c.hand_out.new.self c.reserve.ensures.same
    (changes_hand_out c.hand_out.result c.reserve.new.self c.hand_out.new.self _ c.hand_out.ensures.entry c.hand_out.ensures.kept)
