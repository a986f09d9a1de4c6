-- Who has begun which item, and what the engine counts for each seat.
use Rattle.std.specs.Prelude.{◌≡◌, ℕ, ◌+◌, ◌*◌, ◌<◌, ◌≤◌, ◌==◌, if◌then◌else◌, List, length, map, Option, Some, None, slice_index_or, slice_set}
use Rattle.std.specs.List.{AllByRecursion}
use Rattle.job_rules.specs.declared.job.JobId.{JobId}
use Rattle.turn_cell.specs.declared.chronicle.Note.{Note}
use Rattle.engine_history.specs.Begun.{IsBegun}
use Rattle.engine_history.specs.Jobs.{Field}
use Rattle.engine_history.specs.declared.entry.EngineEntry.{EngineEntry}
use Rattle.engine_history.specs.declared.job.JobState.{JobState}
use Rattle.job_log.specs.Jobs.{place_of}
use Rattle.engine_core.specs.declared.begun.Begun.{Begun}

-- one more than the number of entries at its `begin` where the seat has begun the item, else 0
abbrev pub count_for : ℕ → Option Begun → ℕ
count_for seat None = 0
count_for seat (Some b) = if b.seat == seat then b.at + 1 else 0

-- a number for each item of each job that may be started, by the order of starts and then by item
abbrev pub tally_of : List (Option Begun) → ℕ → List ℕ
tally_of begun seat = map (count_for seat) begun

-- the place of an item among these
abbrev pub place_in : ℕ → ℕ → ℕ
place_in order item = order * 256 + item

abbrev pub begun_at : List (Option Begun) → Option ℕ → ℕ → Option Begun
begun_at begun None item = None
begun_at begun (Some order) item = slice_index_or begun (place_in order item) None

-- who has begun the item of the job
abbrev pub begun_of : List JobState → List (Option Begun) → JobId → ℕ → Option Begun
begun_of jobs begun job item = begun_at begun (place_of job jobs) item

abbrev pub set_at : List (Option Begun) → Option ℕ → ℕ → Option Begun → List (Option Begun)
set_at begun None item b = begun
set_at begun (Some order) item b = slice_set begun (place_in order item) b

-- there is a place for each item, and none is begun
pub record AreNoneBegun (begun : List (Option Begun)) : Type 0 where
  pub sized : length begun ≡ 16384
  pub none : AllByRecursion (λ (b : Option Begun). b ≡ None) begun

-- each begun item is out, begun by a seat, and each later note that touches it is that seat's
pub record AreBegun (field : Field) (jobs : List JobState) (notes : List (Note EngineEntry)) (begun : List (Option Begun)) : Type 0 where
  pub sized : length begun ≡ 16384
  pub begun_each : (job : JobId) (order item : ℕ) (b : Begun) → place_of job jobs ≡ Some order → item < 256 → slice_index_or begun (place_in order item) None ≡ Some b
      → IsBegun field b.seat b.at job item notes
  pub beyond : (order item : ℕ) → length jobs ≤ order → item < 256 → slice_index_or begun (place_in order item) None ≡ None
