use Rattle.engine_uses.proofs.EngineCalls.{changes_after_reserve, changes_ended, ends_ok, ends_refused, none_else_kept}
use Rattle.engine_uses.proofs.own_items.end_in.Goals as goal

pub returns-in_err-reserve-clause-ended : goal.returns-in_err-reserve-clause-ended
returns-in_err-reserve-clause-ended c =
    ends_refused c.args.engine.now c.reserve.new.self c.args.by c.args.work.now.job c.args.work.now.item c.args.end c.from_residual.result c.in_err-reserve.field-0.0 c.from_residual.ensures.1 c.reserve.ensures.same
    c.in_err-reserve.ensures.log_full

pub returns-clause-changed : goal.returns-clause-changed
returns-clause-changed c =
    let own = none_else_kept c.args.engine.now c.reserve.new.self c.args.work.now.job c.args.work.now.item c.reserve.ensures.same c.requires.own in
    changes_after_reserve c.args.engine.now c.reserve.new.self c.end_with_room.new.engine c.reserve.ensures.same
    (changes_ended c.reserve.new.self c.end_with_room.new.engine c.args.by c.args.work.now.job c.args.work.now.item c.args.end own c.end_with_room.ensures)

pub returns-clause-ended : goal.returns-clause-ended
returns-clause-ended c =
    ends_ok c.args.engine.now c.reserve.new.self c.end_with_room.new.engine c.args.by c.args.work.now.job c.args.work.now.item c.args.end _ c.reserve.ensures.same c.in_ok-reserve.ensures.log_full c.end_with_room.ensures
