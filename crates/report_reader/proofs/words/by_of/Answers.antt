use Rattle.std.proofs.Common.{◌∙◌, arith, refl}
use Rattle.std.specs.Fmt.{decimal}
use Rattle.report_reader.proofs.Cuts.{decimal_lacks}
use Rattle.report_reader.proofs.WordsTold.{by_is, by_spelled}
use Rattle.report_reader.proofs.words.by_of.Goals as goal

pub returns-clause-only : goal.returns-clause-only
returns-clause-only c = λ b fit is.
    let parts = c.cut.ensures.at (decimal b.actor) (decimal b.call) (decimal_lacks 46 b.actor refl (omega (arith, fit.actor))) (is ∙ by_spelled b) in
    by_is c.u8_of.result c.u32_of.result b (c.u8_of.ensures b.actor fit.actor parts.0) (c.u32_of.ensures b.call fit.call parts.1)
