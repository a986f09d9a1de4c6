use Rattle.domains.specs.Level.{level_name}
use Rattle.report_reader.specs.Events.{outcome_rest, outcome_text, outcome_word}
use Rattle.report_reader.proofs.ReadEvents.{outcome_clean}
use Rattle.report_reader.proofs.WordsTold.{level_word}
use Rattle.report_reader.proofs.file_line.create_of.Goals as goal

pub returns-clause-only : goal.returns-clause-only
returns-clause-only c = λ level e is fit create text.
    let first = c.cut.ensures.at (level_name level) (outcome_text e) (level_word level is).0 text in
    let second = c.cut-2.ensures.at (outcome_word e) (outcome_rest e) (outcome_clean e) first.1 in
    c.in_ok-event.ensures.only e fit create second.0 second.1
