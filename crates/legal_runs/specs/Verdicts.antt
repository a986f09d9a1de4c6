-- What some logs are judged to be.
use Rattle.std.specs.Prelude.{◌≡◌, ℕ, ◌+◌, ◌<◌, ◌≤◌, List, length, Some, slice_get}
use Rattle.board_history.specs.declared.entry.BoardEntry.{BoardEntry}
use Rattle.file_history.specs.declared.entry.FileEntry.{FileEntry}
use Rattle.scenario.specs.declared.scenario.FileDecl.{FileDecl}
use Rattle.whole_scenario.specs.declared.whole.Scenario.{Scenario}
use Rattle.legal_runs.specs.Entries.{IsLeast, IsLegalBoard, IsBrokenOrder, IsLegalFile, IsBrokenEntry}
use Rattle.legal_runs.specs.Actors.{Breaks, KeepsToScript}
use Rattle.legal_runs.specs.declared.verdict.Verdict.{Verdict}
use Rattle.legal_runs.specs.declared.verdict.Verdict.TheVariants as verdict

-- each of the first files has a legal log
abbrev pub AreLegalFiles : Scenario → List BoardEntry → List (List FileEntry) → ℕ → Type 0
AreLegalFiles s board files count =
    (file : ℕ) (f : FileDecl) (log : List FileEntry) → file < count → slice_get s.files file ≡ Some f → slice_get files file ≡ Some log
    → IsLegalFile s board f file log

-- each of the first actors, the clients and then the workers, keeps to its script
abbrev pub KeepToScripts : Scenario → List BoardEntry → List (List FileEntry) → ℕ → Type 0
KeepToScripts s board files count = (actor : ℕ) → 1 ≤ actor → actor ≤ count → KeepsToScript s board files actor

-- the clients and the workers
abbrev pub actors_of : Scenario → ℕ
actors_of s = length s.actors + s.workers

-- The logs are those of a legal run of the scenario, whose Job Engine made no entry: each entry of the board and of each file is legal
-- after those before it and fits its operation, and each actor keeps to its script.
pub record IsLegalRun (s : Scenario) (board : List BoardEntry) (files : List (List FileEntry)) : Type 0 where
  pub orders : IsLegalBoard s board
  pub entries : AreLegalFiles s board files (length s.files)
  pub actors : KeepToScripts s board files (actors_of s)

-- the file of this number is the first with an entry that is not legal, and this is the first such entry
pub record BreaksFirst (s : Scenario) (board : List BoardEntry) (files : List (List FileEntry)) (file at : ℕ) : Type 0 where
  pub orders : IsLegalBoard s board
  pub earlier : AreLegalFiles s board files file
  pub declared : FileDecl
  pub is_declared : slice_get s.files file ≡ Some declared
  pub log : List FileEntry
  pub is_log : slice_get files file ≡ Some log
  pub entry : IsLeast (IsBrokenEntry s board declared file log) at

-- the actor of this number, from 1, is the first that does not keep to its script, and this is its first call that does not
pub record LeavesScriptFirst (s : Scenario) (board : List BoardEntry) (files : List (List FileEntry)) (actor at : ℕ) : Type 0 where
  pub orders : IsLegalBoard s board
  pub entries : AreLegalFiles s board files (length s.files)
  pub some : 1 ≤ actor
  pub within : actor ≤ actors_of s
  pub earlier : (other : ℕ) → 1 ≤ other → other < actor → KeepsToScript s board files other
  pub call : IsLeast (Breaks s board files actor) at

-- the verdict on these logs, which have one for each file of the scenario: a legal run, or the first part that is broken in the order
-- board, files, actors
abbrev pub IsVerdict : Scenario → List BoardEntry → List (List FileEntry) → Verdict → Type 0
IsVerdict s board files verdict.Legal = IsLegalRun s board files
IsVerdict s board files (verdict.Board at) = IsLeast (IsBrokenOrder s board) at
IsVerdict s board files (verdict.File file at) = BreaksFirst s board files file at
IsVerdict s board files (verdict.Actor actor at) = LeavesScriptFirst s board files actor at
