-- The work that a seat begins is that of the item which it asked for.
use Rattle.std.proofs.Common.{◌≡◌, ℕ, ◌==◌, Bool, true, false, if◌then◌else◌, Option, Some, None, refl, sym, subst}
use Rattle.std.specs.Prelude.{IfSome}
use Rattle.job_rules.specs.declared.job.JobId.{JobId}
use Rattle.engine_history.specs.Jobs.{find_job}
use Rattle.engine_history.specs.declared.job.JobState.{JobState}
use Rattle.engine_core.specs.EngineView.{EngineView, begun_by, jobs_now}
use Rattle.engine_core.specs.Tasks.{next_among, unless_begun, work_from, work_in, work_of}
use Rattle.engine_core.specs.declared.begun.Begun.{Begun}
use Rattle.engine_core.specs.declared.work.Task.{Task}
use Rattle.engine_core.specs.declared.work.Work.{Work}
use Rattle.engine_core.proofs.DueEntries.{found_job}

-- it is the work of this item
abbrev IsWorkOn : JobId → ℕ → Work → Type 0
IsWorkOn job item w = (w.job ≡ job) × (w.item ≡ item)

from_next : (job : JobId) (item : ℕ) (j : JobState) (next : Option ℕ) → j.job ≡ job → IfSome (work_from j item next) (IsWorkOn job item)
from_next job item j None is = tt
from_next job item j (Some next) is = (is, refl)

in_phase : (same : Bool) (job : JobId) (item : ℕ) (j : JobState) (next : Option ℕ) → j.job ≡ job → IfSome (if same then work_from j item next else None) (IsWorkOn job item)
in_phase true job item j next is = from_next job item j next is
in_phase false job item j next is = tt

of_job : (found : Option JobState) (job : JobId) (phase item : ℕ) → ((j : JobState) → found ≡ Some j → j.job ≡ job) → IfSome (work_in found phase item) (IsWorkOn job item)
of_job None job phase item is = tt
of_job (Some j) job phase item is = in_phase (j.phase == phase) job item j (next_among item j.items) (is j refl)

unless : (begun : Option Begun) (work : Option Work) (P : Work → Type 0) → IfSome work P → IfSome (unless_begun begun work) P
unless None work P h = h
unless (Some b) work P h = tt

pub is_asked : (e : EngineView) (task : Task) (item : ℕ) (result : Option Work) → result ≡ work_of e task item → IfSome result (λ (w : Work). (w.job ≡ task.job) × (w.item ≡ item))
is_asked e task item result is =
    subst (λ (r : Option Work). IfSome r (IsWorkOn task.job item)) (sym is)
    (unless (begun_by e task.job item) (work_in (find_job task.job (jobs_now e)) task.phase item) (IsWorkOn task.job item)
    (of_job (find_job task.job (jobs_now e)) task.job task.phase item (λ j found. found_job task.job (jobs_now e) j found)))
