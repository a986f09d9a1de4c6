use Rattle.report.specs.BoardLines.{board_line}
use Rattle.report_reader.specs.Lines.{IsBoardEntry, board_text}
use Rattle.report_reader.proofs.BoardTold.{board_feed, board_line-is, entry_fits}
use Rattle.report_blocks.proofs.FrontLemmas.{no_line}
use Rattle.report_blocks.proofs.LogBlocks.{some_order, some_order-fits}
use Rattle.report_blocks.proofs.Outcomes.{none_found}
use Rattle.report_blocks.proofs.entries.next_board_entry.Goals as goal

pub returns-in-Ok-None-clause-stopped : goal.returns-in-Ok-None-clause-stopped
returns-in-Ok-None-clause-stopped c =
    no_line IsBoardEntry board_line board_text board_line-is (λ e fit. board_feed e (entry_fits e fit)) some_order some_order-fits c.args.text.now
    (λ e fit rest is. none_found c.in-Ok-None.field-0 _ c.in-Ok-None.field-0-is (c.in-Ok-None.ensures.only e rest fit is))
