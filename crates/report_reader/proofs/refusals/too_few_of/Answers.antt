use Rattle.std.proofs.Common.{arith}
use Rattle.std.specs.Fmt.{decimal}
use Rattle.report_reader.proofs.Cuts.{number_word}
use Rattle.report_reader.proofs.ReadRefusals.{few_is}
use Rattle.report_reader.proofs.refusals.too_few_of.Goals as goal

pub returns-clause-only : goal.returns-clause-only
returns-clause-only c = λ t fit is.
    let parts = c.cut.ensures.at (decimal t.have) (decimal t.need) (number_word t.have (omega (arith, fit.have))).0 is in
    few_is c.u16_of.result c.u8_of.result t (c.u16_of.ensures t.have fit.have parts.0) (c.u8_of.ensures t.need fit.need parts.1)
