use Rattle.std.proofs.Common.{◌++◌, ◌∷◌, [], ◌∙◌, refl, arith}
use Rattle.std.specs.Fmt.{decimal}
use Rattle.report.specs.FileLines.{event_text}
use Rattle.report.specs.Words.{by_text}
use Rattle.report_reader.proofs.BoardTold.{by_fits}
use Rattle.report_reader.proofs.Cuts.{number_word}
use Rattle.report_reader.proofs.FileTold.{file_spelled}
use Rattle.report_reader.proofs.ReadEvents.{event_cut, file_is}
use Rattle.report_reader.proofs.WordsTold.{by_word}
use Rattle.report_reader.proofs.file_line.entry_of.Goals as goal

pub returns-clause-only : goal.returns-clause-only
returns-clause-only c = λ declared e is fit text.
    let first = c.cut.ensures.at (by_text e.by) ((101 ∷ decimal e.epoch) ++ 32 ∷ event_text declared e.event) (by_word e.by (by_fits e.by fit.by)).0 (text ∙ file_spelled declared e) in
    let second = c.cut-2.ensures.at (101 ∷ decimal e.epoch) (event_text declared e.event) (number_word e.epoch (omega (arith, fit.epoch))).0 first.1 in
    let third = c.cut-3.ensures.at [] (decimal e.epoch) refl second.0 in
    let words = event_cut declared e.event c.cut-2.result.1.now c.cut-4.result.0.now c.cut-4.result.1.now fit.event second.1 c.cut-4.ensures.at c.cut-4.ensures.none in
    file_is c.by_of.result c.u32_of.result c.in_ok-event.event e (c.by_of.ensures.only e.by fit.by first.0) (c.u32_of.ensures e.epoch fit.epoch third.1)
    (c.in_ok-event.ensures.only declared e.event is fit.event words.0 words.1)
