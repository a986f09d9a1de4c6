-- What a seat has begun.
use Rattle.std.specs.Prelude.{◌≡◌, ℕ, ◌+◌, ◌≤◌, nat_le, nat_lt, ◌==◌, Bool, true, false, ◌&&◌, List, map, length, drop}
use Rattle.std.specs.List.{AllByRecursion}
use Rattle.job_rules.specs.declared.job.JobId.{JobId}
use Rattle.turn_cell.specs.declared.chronicle.Note.{Note}
use Rattle.engine_history.specs.Jobs.{Field, jobs_after}
use Rattle.engine_history.specs.Steps.{is_item_out}
use Rattle.engine_history.specs.declared.entry.EngineEntry.{EngineEntry}
use Rattle.engine_history.specs.declared.entry.EngineEvent.{EngineEvent}
use Rattle.engine_history.specs.declared.entry.EngineEvent.TheVariants as event

abbrev pub entries_of : List (Note EngineEntry) → List EngineEntry
entries_of notes = map (λ (note : Note EngineEntry). note.entry) notes

abbrev is_place : JobId → ℕ → JobId → ℕ → Bool
is_place job item other place = (other.number == job.number) && (place == item)

-- the event hands the item out, progresses, ends or gives it back
abbrev pub touches : JobId → ℕ → EngineEvent → Bool
touches job item (event.Start other kind priority epoch bars) = false
touches job item (event.JobsFull other) = false
touches job item (event.Order other order effect) = false
touches job item (event.HandOut other phase first count) = (other.number == job.number) && (nat_le first item && nat_lt item (first + count))
touches job item (event.Progress other place next) = is_place job item other place
touches job item (event.GiveBack other place next) = is_place job item other place
touches job item (event.Done other place end) = is_place job item other place
touches job item (event.PhaseEnd other phase) = false
touches job item (event.Finish other result) = false
touches job item event.Restart = false
touches job item (event.Work asked steps) = false
touches job item (event.Drain steps) = false

-- the seat began the item when the log had `at` entries: the item is out, and each later note that touches it is the seat's
pub record IsBegun (field : Field) (seat at : ℕ) (job : JobId) (item : ℕ) (notes : List (Note EngineEntry)) : Type 0 where
  pub out : is_item_out (jobs_after field (entries_of notes)) job item ≡ true
  pub early : at ≤ length notes
  pub own : AllByRecursion (λ (note : Note EngineEntry). touches job item note.entry.event ≡ true → note.seat ≡ seat) (drop at notes)

-- none of these notes touches the item
abbrev pub NoneTouches : JobId → ℕ → List (Note EngineEntry) → Type 0
NoneTouches job item notes = AllByRecursion (λ (note : Note EngineEntry). touches job item note.entry.event ≡ false) notes
