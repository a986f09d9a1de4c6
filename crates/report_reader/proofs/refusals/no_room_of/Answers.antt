use Rattle.std.proofs.Common.{◌++◌, ◌∷◌, arith}
use Rattle.std.specs.Fmt.{decimal}
use Rattle.report.specs.Words.{drives_text}
use Rattle.report_reader.proofs.Cuts.{number_word}
use Rattle.report_reader.proofs.refusals.no_room_of.Goals as goal

pub returns-clause-only : goal.returns-clause-only
returns-clause-only c = λ need got drives fit is.
    let first = c.cut.ensures.at (decimal need) (decimal got ++ 32 ∷ drives_text drives) (number_word need (omega (arith, fit.0))).0 is in
    let second = c.cut-2.ensures.at (decimal got) (drives_text drives) (number_word got (omega (arith, fit.1.0))).0 first.1 in
    (c.u8_of.ensures need fit.0 first.0, c.u8_of-2.ensures got fit.1.0 second.0, c.in_ok-drives.ensures.only drives fit.1.1 second.1)
