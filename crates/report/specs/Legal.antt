-- What makes the logs of a run legal.
use Rattle.std.specs.Prelude.{ℕ, ◌+◌, List, [], ◌∷◌, ◌++◌, ⊤}
use Rattle.std.specs.List.{AllByRecursion}
use Rattle.scenario.specs.declared.scenario.FileDecl.{FileDecl}
use Rattle.scenario.specs.declared.scenario.Scenario.{Scenario}
use Rattle.board_history.specs.Board.{IsBoardStep}
use Rattle.board_history.specs.declared.entry.BoardEntry.{BoardEntry}
use Rattle.file_history.specs.World.{world_of}
use Rattle.file_history.specs.Step.{IsLegalLogWhere}
use Rattle.file_history.specs.declared.entry.FileEntry.{FileEntry}
use Rattle.report.specs.Script.{noted_entries, FitsScript, FitsOrder, FollowsScript, EpochsGoOn}
use Rattle.report.specs.declared.logs.Logs.{Logs}

-- each of these orders is legal after those before it, and is an operation of the script
abbrev pub AreLegalOrders : List BoardEntry → List BoardEntry → Scenario → Type 0
AreLegalOrders [] before s = Unit {0}
AreLegalOrders (e ∷ es) before s = IsBoardStep s.shape before e × FitsOrder s e × AreLegalOrders es (before ++ e ∷ []) s

-- each file, from the one of this number on, has a legal log whose entries are operations of the script; where it is known what
-- slots hold, reads show the bytes of their files
abbrev pub AreLegalFiles : List FileDecl → List (List FileEntry) → Type 0 → ℕ → Logs → Type 0
AreLegalFiles [] [] known file logs = Unit {0}
AreLegalFiles [] (log ∷ rest) known file logs = ⊥
AreLegalFiles (f ∷ fs) [] known file logs = ⊥
AreLegalFiles (f ∷ fs) (log ∷ rest) known file logs =
    IsLegalLogWhere known (world_of logs.scenario.shape logs.board f.level) (noted_entries logs.scenario log)
    × AllByRecursion (FitsScript logs.scenario file) log
    × AreLegalFiles fs rest known (file + 1) logs

-- the logs are those of a legal run of their scenario; where it is known what slots hold, reads show the bytes of their files
pub record IsLegalRunWhere (known : Type 0) (logs : Logs) : Type 0 where
  pub board : AreLegalOrders logs.board [] logs.scenario
  pub files : AreLegalFiles logs.scenario.files logs.files known 0 logs
  pub script : FollowsScript logs
  pub epochs : EpochsGoOn logs

-- the logs are those of a legal run of their scenario
abbrev pub IsLegalRun : Logs → Type 0
IsLegalRun logs = IsLegalRunWhere ⊤ logs
