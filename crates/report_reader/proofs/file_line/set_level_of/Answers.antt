use Rattle.std.proofs.Common.{codes, ◌∙◌, ap}
use Rattle.domains.specs.Level.{Level, level_name}
use Rattle.file_history.specs.declared.entry.FileEvent.TheVariants as event
use Rattle.file_history.specs.declared.entry.Refused.TheVariants as refused
use Rattle.report_reader.specs.Lines.{lacks}
use Rattle.report_reader.proofs.WordsTold.{level_word}
use Rattle.report_reader.proofs.file_line.set_level_of.Goals as goal

pub returns-clause-set : goal.returns-clause-set
returns-clause-set c = λ level is text.
    let parts = c.cut.ensures.none (ap (lacks 32) text ∙ (level_word level is).0) in
    c.level_outcome.ensures.set parts.1 ∙ ap event.LevelSet (c.level_of.ensures.only level is (parts.0 ∙ text))

pub returns-clause-refused : goal.returns-clause-refused
returns-clause-refused c = λ level is text.
    let parts = c.cut.ensures.at (level_name level) (codes "refused absent") (level_word level is).0 text in
    c.level_outcome.ensures.refused parts.1 ∙ ap (λ (l : Level). event.Refused (refused.LevelAbsent l)) (c.level_of.ensures.only level is parts.0)
