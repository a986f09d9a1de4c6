-- The blocks of the board and of a file.
use Rattle.std.proofs.Common.{codes, ◌≡◌, ℕ, ◌≤◌, ◌<◌, true, List, [], ◌∷◌, ◌++◌, length, refl, sym, ap, ap₂, ◌∙◌, lit<, arith, append_assoc}
use Rattle.std.specs.Fmt.{decimal}
use Rattle.domains.specs.Level.{Level, IsLevel}
use Rattle.board_history.specs.declared.entry.BoardEntry.{BoardEntry}
use Rattle.board_history.specs.declared.entry.Effect.TheVariants as effect
use Rattle.board_history.specs.declared.entry.Order.TheVariants as order
use Rattle.file_history.specs.declared.entry.FileEntry.{FileEntry}
use Rattle.file_history.specs.declared.entry.FileEvent.TheVariants as event
use Rattle.scenario.specs.declared.scenario.FileDecl.{FileDecl}
use Rattle.report.specs.BoardLines.{board_line, board_lines}
use Rattle.report.specs.FileLines.{file_line, file_lines}
use Rattle.report.specs.Printed.{board_block, file_block}
use Rattle.report.specs.Words.{line_feed}
use Rattle.report_reader.specs.Lines.{IsBoardEntry, IsFileEntry}
use Rattle.report_reader.proofs.BoardTold.{entry_fits}
use Rattle.report_reader.proofs.LogsTold.{board_entry_told, file_entry_told}
use Rattle.report_reader.proofs.ReadEvents.{file_fits}
use Rattle.report_blocks.specs.Blocks.{all_lines}
use Rattle.report_blocks.proofs.BlockFronts.{IsBlock}
use Rattle.report_blocks.proofs.EntryLines.{TellLines}

-- ---- the board

pub some_order : BoardEntry
some_order = record { by = record { actor = 1; call = 1 }; order = order.FailNode 1; effect = effect.Changed }

pub some_order-fits : IsBoardEntry some_order
unfolding some_order
some_order-fits = record { by = record { actor = lit< tt; call = lit< tt }; order = (omega arith, omega arith) }

pub board_tells : TellLines IsBoardEntry board_line
board_tells e f rest more a b h = board_entry_told e f rest more (entry_fits e a) (entry_fits f b) h

board_lines-all : (es : List BoardEntry) → board_lines es ≡ all_lines board_line es
board_lines-all [] = refl
board_lines-all (e ∷ es) = ap (λ (t : List ℕ). board_line e ++ t) (board_lines-all es)

pub board_is : IsBlock (codes "board ") board_line board_block
unfolding board_block
board_is es = ap (λ (t : List ℕ). ((codes "board " ++ decimal (length es)) ++ line_feed) ++ t) (board_lines-all es) ∙ simp append_assoc

-- ---- a file

pub some_entry : FileEntry
some_entry = record { by = record { actor = 1; call = 1 }; epoch = 0; event = event.Deleted }

pub some_entry-fits : IsFileEntry some_entry
unfolding some_entry
some_entry-fits = record { by = record { actor = lit< tt; call = lit< tt }; epoch = lit< tt; event = tt }

pub file_tells : (level : Level) → IsLevel level → TellLines IsFileEntry (file_line level)
file_tells level is e f rest more a b h = file_entry_told level e f rest more is (file_fits e a) (file_fits f b) h

file_lines-all : (level : Level) (es : List FileEntry) → file_lines level es ≡ all_lines (file_line level) es
file_lines-all level [] = refl
file_lines-all level (e ∷ es) = ap (λ (t : List ℕ). file_line level e ++ t) (file_lines-all level es)

-- what stands before the count of a file's entries
abbrev pub file_head : FileDecl → List ℕ
file_head f = codes "file " ++ f.name ++ codes " "

pub file_is : (f : FileDecl) → IsBlock (file_head f) (file_line f.level) (file_block f)
unfolding file_block
file_is f es =
    ap (λ (t : List ℕ). ((file_head f ++ decimal (length es)) ++ line_feed) ++ t) (file_lines-all f.level es)
    ∙ ap (λ (t : List ℕ). t ++ all_lines (file_line f.level) es) (append_assoc (file_head f) (decimal (length es)) line_feed)
