use Rattle.std.proofs.Common.{codes}
use Rattle.report.specs.BoardLines.{board_line}
use Rattle.report.specs.Printed.{board_block}
use Rattle.report_reader.specs.Lines.{IsBoardEntry}
use Rattle.report_blocks.specs.Blocks.{IsLog}
use Rattle.report_blocks.specs.Fronts.{Stops}
use Rattle.report_blocks.proofs.BlockFronts.{block_read, count_stop, lines_stop}
use Rattle.report_blocks.proofs.LogBlocks.{board_is, some_order, some_order-fits}
use Rattle.report_blocks.proofs.Outcomes.{stops_too}
use Rattle.report_blocks.proofs.blocks.read_board.Goals as goal

pub returns-in_err-count-clause-stopped : goal.returns-in_err-count-clause-stopped
returns-in_err-count-clause-stopped c =
    stops_too c.from_residual.result c.in_err-count.field-0.0 (Stops (IsLog IsBoardEntry) board_block c.args.text.now) c.from_residual.ensures.1
    (count_stop IsBoardEntry board_line (codes "board ") board_block board_is some_order some_order-fits c.args.text.now c.in_err-count.field-0.0 c.in_err-count.ensures.stopped)

pub returns-in-Ok-clause-read : goal.returns-in-Ok-clause-read
returns-in-Ok-clause-read c =
    block_read IsBoardEntry board_line (codes "board ") board_block board_is c.in_ok-count.count c.args.text.now c.in_ok-count.rest.now c.in-Ok.read.0.items c.in-Ok.read.1.now
    c.in_ok-count.ensures.read c.in-Ok.ensures.read

pub returns-in-Err-clause-stopped : goal.returns-in-Err-clause-stopped
returns-in-Err-clause-stopped c =
    lines_stop IsBoardEntry board_line (codes "board ") board_block board_is c.in_ok-count.count c.args.text.now c.in_ok-count.rest.now c.in-Err.stop c.in_ok-count.ensures.read c.in-Err.ensures.stopped
