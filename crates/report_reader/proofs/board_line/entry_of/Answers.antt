use Rattle.std.proofs.Common.{◌++◌, ◌∷◌, ◌∙◌}
use Rattle.report.specs.BoardLines.{effect_text}
use Rattle.report.specs.Words.{by_text}
use Rattle.report_reader.specs.Lines.{target_of, word_of}
use Rattle.report_reader.proofs.BoardTold.{board_spelled, by_fits, entry_is, order_fits, order_words}
use Rattle.report_reader.proofs.WordsTold.{by_word}
use Rattle.report_reader.proofs.board_line.entry_of.Goals as goal

pub returns-clause-only : goal.returns-clause-only
returns-clause-only c = λ e fit is.
    let clean = order_words e.order (order_fits e.order fit.order) in
    let first = c.cut.ensures.at (by_text e.by) (word_of e.order ++ (32 ∷ (target_of e.order ++ (32 ∷ effect_text e.effect)))) (by_word e.by (by_fits e.by fit.by)).0 (is ∙ board_spelled e) in
    let second = c.cut-2.ensures.at (word_of e.order) (target_of e.order ++ (32 ∷ effect_text e.effect)) clean.0.0 first.1 in
    let third = c.cut-3.ensures.at (target_of e.order) (effect_text e.effect) clean.1.0 second.1 in
    entry_is c.by_of.result c.order_of.result c.effect_of.result e (c.by_of.ensures.only e.by fit.by first.0)
    (c.order_of.ensures.only e.order fit.order second.0 third.0) (c.effect_of.ensures e.effect third.1)
