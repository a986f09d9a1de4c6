-- What an entry does to the job and to the item that it names.
use Rattle.std.specs.Prelude.{ℕ, true, Option, Some, None}
use Rattle.domains.specs.declared.drive_set.DriveSet.{DriveSet}
use Rattle.job_rules.specs.Phases.{items_of}
use Rattle.job_rules.specs.declared.job.JobId.{JobId}
use Rattle.job_rules.specs.declared.phase.Phase.{Phase}
use Rattle.checkpoints.specs.declared.checkpoint.ItemSaved.{ItemSaved}
use Rattle.engine_history.specs.Items.{at_item, come_to, ended, given_back, handed_out, items_from}
use Rattle.engine_history.specs.Jobs.{Field, count_of, in_next_phase, ordered, with_items}
use Rattle.engine_history.specs.declared.entry.EngineEvent.{EngineEvent}
use Rattle.engine_history.specs.declared.entry.EngineEvent.TheVariants as event
use Rattle.engine_history.specs.declared.entry.OrderEffect.TheVariants as effect
use Rattle.engine_history.specs.declared.job.JobState.{JobState}
use Rattle.job_log.specs.declared.item_change.ItemChange.{ItemChange}
use Rattle.job_log.specs.declared.item_change.ItemChange.TheVariants.{HandOut, ComeTo, GiveBack, Become}

abbrev pub after_change : ItemChange → ItemSaved → ItemSaved
after_change HandOut item = handed_out item
after_change (ComeTo next) item = come_to next item
after_change (GiveBack next) item = given_back next item
after_change (Become other) item = other

-- how many items the phase has, if it is one
abbrev pub count_in : Field → DriveSet → Option Phase → ℕ
count_in field bars None = 0
count_in field bars (Some phase) = count_of field bars (items_of phase)

-- the job that the entry changes; a start makes a new one
abbrev pub job_of : EngineEvent → Option JobId
job_of (event.Start job kind priority epoch bars) = None
job_of (event.JobsFull job) = None
job_of (event.Order job order effect.Changed) = Some job
job_of (event.Order job order effect.Same) = None
job_of (event.Order job order effect.NotActive) = None
job_of (event.HandOut job phase first count) = Some job
job_of (event.Progress job item next) = Some job
job_of (event.GiveBack job item next) = Some job
job_of (event.Done job item end) = Some job
job_of (event.PhaseEnd job phase) = Some job
job_of (event.Finish job result) = Some job
job_of event.Restart = None
job_of (event.Work asked steps) = None
job_of (event.Drain steps) = None

-- that job after the entry
abbrev pub changed : Field → EngineEvent → JobState → JobState
changed field (event.Start job kind priority epoch bars) j = j
changed field (event.JobsFull job) j = j
changed field (event.Order job order effect.Changed) j = ordered order j
changed field (event.Order job order effect.Same) j = j
changed field (event.Order job order effect.NotActive) j = j
changed field (event.HandOut job phase first count) j = with_items (items_from first count handed_out) j
changed field (event.Progress job item next) j = with_items (at_item item (come_to next)) j
changed field (event.GiveBack job item next) j = with_items (at_item item (given_back next)) j
changed field (event.Done job item end) j = with_items (at_item item (λ i. ended end)) j
changed field (event.PhaseEnd job phase) j = in_next_phase field j
changed field (event.Finish job result) j = record j { finished = true }
changed field event.Restart j = j
changed field (event.Work asked steps) j = j
changed field (event.Drain steps) j = j
