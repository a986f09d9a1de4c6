use Rattle.report.specs.FileLines.{file_line}
use Rattle.report_reader.specs.Events.{file_text}
use Rattle.report_reader.specs.Lines.{IsFileEntry}
use Rattle.report_reader.proofs.FileTold.{file_feed, file_line-is}
use Rattle.report_reader.proofs.ReadEvents.{file_fits}
use Rattle.report_blocks.proofs.FrontLemmas.{no_line}
use Rattle.report_blocks.proofs.LogBlocks.{some_entry, some_entry-fits}
use Rattle.report_blocks.proofs.Outcomes.{none_found}
use Rattle.report_blocks.proofs.entries.next_file_entry.Goals as goal

pub returns-in-Ok-None-clause-stopped : goal.returns-in-Ok-None-clause-stopped
returns-in-Ok-None-clause-stopped c =
    let level = c.args.declared in
    no_line IsFileEntry (file_line level) (file_text level) (file_line-is level) (λ e fit. file_feed level e c.w-width.ensures.level (file_fits e fit)) some_entry some_entry-fits c.args.text.now
    (λ e fit rest is. none_found c.in-Ok-None.field-0 _ c.in-Ok-None.field-0-is (c.in-Ok-None.ensures.only e rest fit is))
