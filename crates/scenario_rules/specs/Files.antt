-- The rule of the files.
use Rattle.std.specs.Prelude.{◌≡◌, ℕ, ◌≤◌, false, List, [], ◌∷◌, length}
use Rattle.domains.specs.Level.{Level, IsLevel, level_name}
use Rattle.operation_rules.specs.OpRules.{has_name}
use Rattle.scenario.specs.Words.{IsName}
use Rattle.scenario.specs.declared.scenario.FileDecl.{FileDecl}
use Rattle.scenario_table.specs.declared.draft.FileRow.{FileRow}

-- the text is the name of a level
pub record IsLevelName (text : List ℕ) : Type 0 where
  pub level : Level
  pub is_level : IsLevel level
  pub named : level_name level ≡ text

-- the row has a name, another one than these, and the name of a level
pub record IsNewRow (row : FileRow) (before : List (List ℕ)) : Type 0 where
  pub name : IsName row.name
  pub other : has_name before row.name ≡ false
  pub level : IsLevelName row.level

-- each row is so, after those before it and these names
abbrev pub AreNewRows : List FileRow → List (List ℕ) → Type 0
AreNewRows [] before = Unit {0}
AreNewRows (row ∷ rows) before = IsNewRow row before × AreNewRows rows (row.name ∷ before)

-- the rows are 1 to 256 files
pub record AreFiles (rows : List FileRow) : Type 0 where
  pub some : 1 ≤ length rows
  pub few : length rows ≤ 256
  pub each : AreNewRows rows []

-- the file is that of the row
pub record IsFileOf (row : FileRow) (file : FileDecl) : Type 0 where
  pub name : file.name ≡ row.name
  pub named : level_name file.level ≡ row.level
  pub level : IsLevel file.level

-- the files are those of the rows
abbrev pub AreFilesOf : List FileRow → List FileDecl → Type 0
AreFilesOf [] [] = Unit {0}
AreFilesOf [] (file ∷ files) = ⊥
AreFilesOf (row ∷ rows) [] = ⊥
AreFilesOf (row ∷ rows) (file ∷ files) = IsFileOf row file × AreFilesOf rows files
