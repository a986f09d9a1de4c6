-- What a file notes in a run of a scenario, and runs that are legal but for the bytes that reads show.
use Rattle.std.specs.Prelude.{◌≡◌, ℕ, ◌≤◌, List, [], length, map, take, Option, Some, slice_get}
use Rattle.std.specs.List.{AllByRecursion}
use Rattle.board_history.specs.declared.entry.BoardEntry.{BoardEntry}
use Rattle.file_core.specs.Notes.{AreNotedSteps}
use Rattle.file_core.specs.declared.noted.Noted.{Noted}
use Rattle.file_history.specs.Step.{IsFileStepWhere}
use Rattle.file_history.specs.Views.{IsViewOf}
use Rattle.file_history.specs.declared.entry.FileEntry.{FileEntry}
use Rattle.legal_runs.specs.Entries.{IsLegalBoard, world_in}
use Rattle.legal_runs.specs.Operations.{FitsScript, noted_entries, noted_in}
use Rattle.legal_runs.specs.Verdicts.{IsLegalRun, KeepToScripts, actors_of}
use Rattle.scenario.specs.declared.scenario.FileDecl.{FileDecl}
use Rattle.striped_groups.specs.StoredGroups.{AllTell}
use Rattle.turn_cell.specs.declared.chronicle.Note.{Note}
use Rattle.whole_scenario.specs.declared.whole.Scenario.{Scenario}

-- the entry of a file's log is legal after those before it, in the bytes that it shows where it is known what slots hold, and fits
-- its operation
pub record IsLegalEntryWhere (known : Type 0) (s : Scenario) (board : List BoardEntry) (f : FileDecl) (file : ℕ) (before : List FileEntry) (e : FileEntry) : Type 0 where
  pub step : IsFileStepWhere known (world_in s board f) (noted_entries s before) (noted_in s e)
  pub fits : FitsScript s file e

-- each entry of the file's log is so
abbrev pub IsLegalFileWhere : Type 0 → Scenario → List BoardEntry → FileDecl → ℕ → List FileEntry → Type 0
IsLegalFileWhere known s board f file log =
    (index : ℕ) (e : FileEntry) → slice_get log index ≡ Some e → IsLegalEntryWhere known s board f file (take index log) e

-- each file has such a log
abbrev pub AreLegalFilesWhere : Type 0 → Scenario → List BoardEntry → List (List FileEntry) → Type 0
AreLegalFilesWhere known s board files =
    (file : ℕ) (f : FileDecl) (log : List FileEntry) → slice_get s.files file ≡ Some f → slice_get files file ≡ Some log → IsLegalFileWhere known s board f file log

-- the logs are those of a legal run of the scenario, in the bytes that reads show where it is known what slots hold
pub record IsLegalRunWhere (known : Type 0) (s : Scenario) (board : List BoardEntry) (files : List (List FileEntry)) : Type 0 where
  pub orders : IsLegalBoard s board
  pub entries : AreLegalFilesWhere known s board files
  pub actors : KeepToScripts s board files (actors_of s)

-- The note in the log of the file of this number is an entry of a run with this log of the board: its view shows the drives after
-- some of the board's entries, and it fits its operation and brings the bytes that this one writes.
pub record IsNoteIn (s : Scenario) (board : List BoardEntry) (file : ℕ) (n : Noted) : Type 0 where
  pub reached : n.view.epoch ≤ length board
  pub shows : IsViewOf s.shape board n.view
  pub told : n.told ≡ noted_in s n.told.entry
  pub fits : FitsScript s file n.told.entry

-- each of a file's notes is one
abbrev pub AreNotesIn : Scenario → List BoardEntry → ℕ → List (Note Noted) → Type 0
AreNotesIn s board file notes = AllByRecursion (λ (n : Note Noted). IsNoteIn s board file n.entry) notes

module _ {S : Type 0} (content : S → Option (List ℕ)) where
  -- the log of a file is legal whose notes are legal at their views, and are entries of the run
  abbrev pub NotedFilesAreLegal : Type 0
  NotedFilesAreLegal = (s : Scenario) (board : List BoardEntry) (f : FileDecl) (file : ℕ) (notes : List (Note Noted))
      → AreNotedSteps notes (AllTell content) s.shape f.level [] → AreNotesIn s board file notes
      → IsLegalFileWhere (AllTell content) s board f file (map (λ n. n.entry.told.entry) notes)

  -- where all slots tell what they hold, a run is legal that is so but for what reads show
  abbrev pub ToldRunsAreLegal : Type 0
  ToldRunsAreLegal = (s : Scenario) (board : List BoardEntry) (files : List (List FileEntry)) → AllTell content
      → IsLegalRunWhere (AllTell content) s board files → IsLegalRun s board files
