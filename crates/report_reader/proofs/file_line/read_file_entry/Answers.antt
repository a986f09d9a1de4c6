use Rattle.std.proofs.Common.{◌≡◌, ◌++◌, ◌∙◌, ap, sym, rules, append_assoc}
use Rattle.report.specs.FileLines.{file_line}
use Rattle.report.specs.Words.{line_feed}
use Rattle.report_reader.specs.Events.{file_text}
use Rattle.report_reader.proofs.Cuts.{rest_is}
use Rattle.report_reader.proofs.FileTold.{file_feed, file_line-is}
use Rattle.report_reader.proofs.ReadEvents.{file_fits}
use Rattle.report_reader.proofs.file_line.read_file_entry.Goals as goal

pub returns-in-Some-clause-only : goal.returns-in-Some-clause-only
returns-in-Some-clause-only c = λ e rest fit is.
    let level = c.args.declared in
    let line = c.cut.ensures.at (file_text level e) rest (file_feed level e c.w-width.ensures.level (file_fits e fit)) (is ∙ ap (λ t. t ++ rest) (file_line-is level e) ∙ append_assoc (file_text level e) line_feed rest) in
    let same : c.in_ok-entry.entry ≡ e = c.in_ok-entry.ensures.only level e c.w-width.ensures.level fit line.0 in
    (same, rest_is (file_line level c.in_ok-entry.entry) (file_line level e) c.in-Some.rest.now rest c.args.text.now (ap (file_line level) same) (search rules) is)

pub returns-clause-only : goal.returns-clause-only
returns-clause-only c = λ e rest fit is.
    let level = c.args.declared in
    let line = c.cut.ensures.at (file_text level e) rest (file_feed level e c.w-width.ensures.level (file_fits e fit)) (is ∙ ap (λ t. t ++ rest) (file_line-is level e) ∙ append_assoc (file_text level e) line_feed rest) in
    let same : c.in_ok-entry.entry ≡ e = c.in_ok-entry.ensures.only level e c.w-width.ensures.level fit line.0 in
    let written : c.as_str.result.now ≡ file_line level c.in_ok-entry.entry = search rules in
    c.in-None.ensures.only rest (is ∙ ap (λ t. t ++ rest) (ap (file_line level) (sym same) ∙ sym written))
