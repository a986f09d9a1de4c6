-- Which entries of a run's logs are legal.
use Rattle.std.specs.Prelude.{◌≡◌, ℕ, ◌+◌, ◌≤◌, List, take, Some, slice_get}
use Rattle.board_history.specs.Board.{IsBoardStep}
use Rattle.board_history.specs.declared.entry.BoardEntry.{BoardEntry}
use Rattle.file_history.specs.World.{World, world_of}
use Rattle.file_history.specs.Step.{IsFileStep}
use Rattle.file_history.specs.declared.entry.FileEntry.{FileEntry}
use Rattle.scenario.specs.declared.scenario.FileDecl.{FileDecl}
use Rattle.whole_scenario.specs.declared.whole.Scenario.{Scenario}
use Rattle.legal_runs.specs.Operations.{FitsOrder, FitsScript, noted_in, noted_entries}

-- the number is the least for which it holds
pub record IsLeast (Holds : ℕ → Type 0) (at : ℕ) : Type 0 where
  pub holds : Holds at
  pub least : (other : ℕ) → Holds other → at ≤ other

-- the order is legal after the entries before it: it does what it says, and is an operation of the script
pub record IsLegalOrder (s : Scenario) (before : List BoardEntry) (e : BoardEntry) : Type 0 where
  pub step : IsBoardStep s.shape before e
  pub fits : FitsOrder s e

-- each entry of the board's log is legal after those before it
abbrev pub IsLegalBoard : Scenario → List BoardEntry → Type 0
IsLegalBoard s board = (index : ℕ) (e : BoardEntry) → slice_get board index ≡ Some e → IsLegalOrder s (take index board) e

-- the entry of this number, from 1, is not legal
abbrev pub IsBrokenOrder : Scenario → List BoardEntry → ℕ → Type 0
IsBrokenOrder s board at =
    (index : ℕ) × (at ≡ index + 1) × (e : BoardEntry) × (slice_get board index ≡ Some e) × (IsLegalOrder s (take index board) e → ⊥)

-- the world of a file of the scenario, beside this log of the board
abbrev pub world_in : Scenario → List BoardEntry → FileDecl → World
world_in s board f = world_of s.shape board f.level

-- the entry of the log of the file of this number is legal after the entries before it, and fits its operation
pub record IsLegalEntry (s : Scenario) (board : List BoardEntry) (f : FileDecl) (file : ℕ) (before : List FileEntry) (e : FileEntry) : Type 0 where
  pub step : IsFileStep (world_in s board f) (noted_entries s before) (noted_in s e)
  pub fits : FitsScript s file e

-- each entry of the file's log is legal after those before it
abbrev pub IsLegalFile : Scenario → List BoardEntry → FileDecl → ℕ → List FileEntry → Type 0
IsLegalFile s board f file log =
    (index : ℕ) (e : FileEntry) → slice_get log index ≡ Some e → IsLegalEntry s board f file (take index log) e

-- the entry of this number, from 1, is not legal
abbrev pub IsBrokenEntry : Scenario → List BoardEntry → FileDecl → ℕ → List FileEntry → ℕ → Type 0
IsBrokenEntry s board f file log at =
    (index : ℕ) × (at ≡ index + 1) × (e : FileEntry) × (slice_get log index ≡ Some e) × (IsLegalEntry s board f file (take index log) e → ⊥)
