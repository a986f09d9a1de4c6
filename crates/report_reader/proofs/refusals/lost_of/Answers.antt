use Rattle.std.proofs.Common.{◌++◌, ◌∷◌, arith}
use Rattle.std.specs.Fmt.{decimal}
use Rattle.report_reader.proofs.Cuts.{number_word}
use Rattle.report_reader.proofs.ReadRefusals.{lost_is}
use Rattle.report_reader.proofs.refusals.lost_of.Goals as goal

pub returns-clause-only : goal.returns-clause-only
returns-clause-only c = λ l fit is.
    let first = c.cut.ensures.at (decimal l.generation) (decimal l.have ++ 32 ∷ decimal l.need) (number_word l.generation (omega (arith, fit.generation))).0 is in
    let second = c.cut-2.ensures.at (decimal l.have) (decimal l.need) (number_word l.have (omega (arith, fit.have))).0 first.1 in
    lost_is c.u32_of.result c.u8_of.result c.u8_of-2.result l (c.u32_of.ensures l.generation fit.generation first.0) (c.u8_of.ensures l.have fit.have second.0) (c.u8_of-2.ensures l.need fit.need second.1)
