use Rattle.std.proofs.Common.{Err, ap}
use Rattle.flex_run.proofs.SourceLemmas.{broken_not_played, past_not_played}
use Rattle.flex_run.proofs.top.scenario_of.Goals as goal

pub returns-in-Err-Bad-clause-unbuilt : goal.returns-in-Err-Bad-clause-unbuilt
returns-in-Err-Bad-clause-unbuilt c = λ is.
    broken_not_played c.args.bytes.now c.in-Ok.text.now c.in-Ok.ensures.cases.0 c.in-Err-Bad.field-0 c.in-Err-Bad.bad c.in-Err-Bad.field-0-is c.in-Err-Bad.ensures.only

pub returns-in-Err-Past-clause-unbuilt : goal.returns-in-Err-Past-clause-unbuilt
returns-in-Err-Past-clause-unbuilt c = λ is.
    past_not_played c.args.bytes.now c.in-Ok.text.now c.in-Ok.ensures.cases.0 c.in-Ok-read.whole c.in-Ok-read.ensures.only (c.in-Err-Past.ensures.past (ap Err c.in-Err-Past.field-0-is))
