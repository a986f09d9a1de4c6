use Rattle.std.proofs.Common.{◌<◌, ◌≤◌, length, sym, ◌∙◌, arith, rules}
use Rattle.engine_core.proofs.SavedLists.{differs_long, differs_short}
use Rattle.engine_core.proofs.saved.differs_at.Goals as goal

pub returns-in_default-2 : goal.returns-in_default-2
returns-in_default-2 c =
    let short : length c.args.own.now ≤ c.loop-byte.at = search rules in
    let within : c.loop-byte.at < length c.args.bytes.now = omega (arith, c.loop-byte-test.true, c.loop-byte.invariant.same) in
    sym (differs_short c.loop-byte.at c.args.bytes.now c.args.own.now within short) ∙ c.loop-byte.invariant.whole

pub returns-then-own-at : goal.returns-then-own-at
returns-then-own-at c =
    let past : length c.args.bytes.now ≤ c.loop-byte.at = omega (arith, c.loop-byte-test.false, c.loop-byte.invariant.same) in
    sym (differs_long c.loop-byte.at c.args.bytes.now c.args.own.now past c.if-own-at.true) ∙ c.loop-byte.invariant.whole
