use Rattle.std.proofs.Common.{ℕ, ◌-◌, List, length}
use denote.Shadow.{shadow}
use denote.Text.{Utf8}
use Rattle.report.specs.BoardLines.{board_line}
use Rattle.report_reader.specs.Lines.{IsBoardEntry}
use Rattle.report_blocks.proofs.EntryLines.{AreSome}
use Rattle.report_blocks.proofs.entries.read_board_entries.Given as goal

-- some entries were read
abbrev pub invariant-entries : goal.invariant-entries
invariant-entries l = shadow (Utf8 l.rest) × AreSome IsBoardEntry board_line l.count l.text l.entries.items l.rest

abbrev pub decreases-entries : goal.decreases-entries
decreases-entries l = l.count - length l.entries.items
