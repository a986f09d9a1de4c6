use Rattle.report_blocks.proofs.ReportFronts.{other_line}
use Rattle.report_blocks.proofs.files.behind.Goals as goal

pub returns-in-None-clause-stopped : goal.returns-in-None-clause-stopped
returns-in-None-clause-stopped c = other_line c.args.line.now c.requires c.args.text.now (λ rest is. c.in-None.ensures.only rest is)
