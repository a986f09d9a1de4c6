-- Starts of jobs.
use Rattle.std.specs.Prelude.{◌≡◌, ℕ, ◌≤◌, true}
use Rattle.domains.specs.Drive.{Drive, IsDrive}
use Rattle.domains.specs.DriveSet.{has}
use Rattle.domains.specs.Shape.{Shape, is_of}
use Rattle.domains.specs.declared.by.By.{By}
use Rattle.domains.specs.declared.drive_set.DriveSet.{DriveSet}
use Rattle.job_rules.specs.declared.job.JobId.{JobId}
use Rattle.job_rules.specs.declared.kind.JobKind.{JobKind}
use Rattle.turn_cell.specs.Notes.{entries_by}
use Rattle.engine_history.specs.Steps.{IsEngineStep, World, bars_of}
use Rattle.engine_history.specs.declared.entry.EngineEvent.TheVariants as event
use Rattle.job_log.specs.JobLog.{log_of}
use Rattle.engine_core.specs.EngineView.{EngineView}

-- the bars are drives of the cluster, and none unless the job is a FlexProtect
pub record AreBars (shape : Shape) (kind : JobKind) (bars : DriveSet) : Type 0 where
  pub within : (d : Drive) → IsDrive d → has bars d ≡ true → is_of shape d ≡ true
  pub none : (d : Drive) → IsDrive d → has bars d ≡ bars_of kind (has bars) d

-- the start is legal in each world whose board has come to the epoch, and in which the bars are those of the job's kind then
abbrev pub IsStartLegal : EngineView → By → JobId → JobKind → ℕ → ℕ → DriveSet → Type 0
IsStartLegal e by job kind priority epoch bars = (world : World) → world.field ≡ e.log.field → epoch ≤ world.epochs
    → ((d : Drive) → IsDrive d → has bars d ≡ bars_of kind (world.gone epoch) d)
    → IsEngineStep world (log_of e.log) (entries_by e.log.seat e.log.notes) (record { by = by; event = event.Start job kind priority epoch bars })
