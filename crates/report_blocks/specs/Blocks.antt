-- The blocks of a report: a line with a count, and as many lines of entries.
use Rattle.std.specs.Prelude.{codes, ◌≡◌, ℕ, true, ◌<◌, ◌^◌, List, [], ◌∷◌, ◌++◌, length}
use Rattle.std.specs.Fmt.{decimal}
use Rattle.std.specs.List.{AllByRecursion}
use Rattle.domains.specs.Level.{IsLevel}
use Rattle.board_history.specs.declared.entry.BoardEntry.{BoardEntry}
use Rattle.file_history.specs.declared.entry.FileEntry.{FileEntry}
use Rattle.scenario.specs.declared.scenario.FileDecl.{FileDecl}
use Rattle.report.specs.Printed.{board_block, file_blocks}
use Rattle.report_reader.specs.Fits.{IsWide}
use Rattle.report_reader.specs.Lines.{IsBoardEntry, IsFileEntry, lacks}

module _ {E : Type 0} where
  -- the lines of these entries, one after the other
  abbrev pub all_lines : (E → List ℕ) → List E → List ℕ
  all_lines line [] = []
  all_lines line (e ∷ es) = line e ++ all_lines line es

  -- the entries are of the code's types, and there are n of them
  abbrev pub AreEntries : ℕ → (E → Type 0) → List E → Type 0
  AreEntries n Is es = AllByRecursion Is es × (length es ≡ n)

  -- the entries are of the code's types, and their number has at most 64 bits
  abbrev pub IsLog : (E → Type 0) → List E → Type 0
  IsLog Is es = AllByRecursion Is es × IsWide (length es)

-- each file has a log
abbrev pub AreFileLogs : List FileDecl → List (List FileEntry) → Type 0
AreFileLogs [] [] = Unit {0}
AreFileLogs [] (log ∷ logs) = ⊥
AreFileLogs (f ∷ fs) [] = ⊥
AreFileLogs (f ∷ fs) (log ∷ logs) = IsLog IsFileEntry log × AreFileLogs fs logs

-- the level of each file is one
abbrev pub AreLevels : List FileDecl → Type 0
AreLevels files = AllByRecursion (λ (f : FileDecl). IsLevel f.level) files

-- there is one line of this kind
abbrev pub IsAny : Unit {0} → Type 0
IsAny one = Unit {0}

-- one line, with its line feed
pub record IsLine (line : List ℕ) : Type 0 where
  pub body : List ℕ
  pub is : line ≡ body ++ 10 ∷ []
  pub clean : lacks 10 body ≡ true

abbrev pub engine_line : List ℕ
engine_line = codes "engine 0\n"

abbrev pub end_line : List ℕ
end_line = codes "end\n"

-- the entries of the board, and those of each file
abbrev pub Entries : Type 0
Entries = List BoardEntry × List (List FileEntry)

-- each file has a log, and the board has one
abbrev pub AreLogs : List FileDecl → Entries → Type 0
AreLogs files logs = IsLog IsBoardEntry logs.0 × AreFileLogs files logs.1

-- the blocks of a report, to its end
abbrev pub blocks_text : List FileDecl → Entries → List ℕ
blocks_text files logs = board_block logs.0 ++ (engine_line ++ (file_blocks files logs.1 ++ end_line))
