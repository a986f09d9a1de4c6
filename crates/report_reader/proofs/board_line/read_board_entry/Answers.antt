use Rattle.std.proofs.Common.{◌≡◌, ◌++◌, ◌∙◌, ap, sym, rules, append_assoc}
use Rattle.board_history.specs.declared.entry.BoardEntry.{BoardEntry}
use Rattle.report.specs.BoardLines.{board_line}
use Rattle.report.specs.Words.{line_feed}
use Rattle.report_reader.specs.Lines.{IsBoardEntry, board_text}
use Rattle.report_reader.proofs.BoardTold.{board_feed, board_line-is, entry_fits}
use Rattle.report_reader.proofs.Cuts.{rest_is}
use Rattle.report_reader.proofs.board_line.read_board_entry.Goals as goal

pub returns-in-Some-clause-only : goal.returns-in-Some-clause-only
returns-in-Some-clause-only c = λ e rest fit is.
    let line = c.cut.ensures.at (board_text e) rest (board_feed e (entry_fits e fit)) (is ∙ ap (λ t. t ++ rest) (board_line-is e) ∙ append_assoc (board_text e) line_feed rest) in
    let same : c.entry_of-entry.result ≡ e = c.entry_of-entry.ensures.only e fit line.0 in
    (same, rest_is (board_line c.entry_of-entry.result) (board_line e) c.in-Some.rest.now rest c.args.text.now (ap board_line same) (search rules) is)

pub returns-in-None-clause-only : goal.returns-in-None-clause-only
returns-in-None-clause-only c = λ e rest fit is.
    let line = c.cut.ensures.at (board_text e) rest (board_feed e (entry_fits e fit)) (is ∙ ap (λ t. t ++ rest) (board_line-is e) ∙ append_assoc (board_text e) line_feed rest) in
    let same : c.entry_of-entry.result ≡ e = c.entry_of-entry.ensures.only e fit line.0 in
    let written : c.as_str.result.now ≡ board_line c.entry_of-entry.result = search rules in
    absurd (c.in-None.ensures.only rest (is ∙ ap (λ t. t ++ rest) (ap board_line (sym same) ∙ sym written)))
