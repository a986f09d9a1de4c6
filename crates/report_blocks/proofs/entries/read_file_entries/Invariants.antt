use Rattle.std.proofs.Common.{ℕ, ◌-◌, List, length}
use denote.Shadow.{shadow}
use denote.Text.{Utf8}
use Rattle.report.specs.FileLines.{file_line}
use Rattle.report_reader.specs.Lines.{IsFileEntry}
use Rattle.report_blocks.proofs.EntryLines.{AreSome}
use Rattle.report_blocks.proofs.entries.read_file_entries.Given as goal

-- some entries were read
abbrev pub invariant-entries : goal.invariant-entries
invariant-entries l = shadow (Utf8 l.rest) × AreSome IsFileEntry (file_line l.declared) l.count l.text l.entries.items l.rest

abbrev pub decreases-entries : goal.decreases-entries
decreases-entries l = l.count - length l.entries.items
