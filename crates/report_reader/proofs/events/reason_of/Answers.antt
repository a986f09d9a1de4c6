use Rattle.report_reader.proofs.ReadRefusals.{reason_cut}
use Rattle.report_reader.proofs.events.reason_of.Goals as goal

pub returns : goal.returns
returns c = λ r fit is. reason_cut r c.args.text.now c.cut.result.0.now c.cut.result.1.now is c.cut.ensures.at c.cut.ensures.none
