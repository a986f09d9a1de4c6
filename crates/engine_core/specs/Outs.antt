-- The first item that is out.
use Rattle.std.specs.Prelude.{◌≡◌, ℕ, ◌≤◌, Bool, true, false, ◌&&◌, nat_lt, if◌then◌else◌, List, [], ◌∷◌, Option, Some, None}
use Rattle.std.specs.List.{position_or_len}
use Rattle.job_rules.specs.declared.job.JobId.{JobId}
use Rattle.engine_history.specs.Items.{count_out, is_out}
use Rattle.engine_history.specs.Jobs.{find_job}
use Rattle.engine_history.specs.Steps.{is_item_out}
use Rattle.engine_history.specs.declared.job.JobState.{JobState}
use Rattle.engine_core.specs.Tasks.{work_in}
use Rattle.engine_core.specs.declared.outs.OutItem.{OutItem}
use Rattle.engine_core.specs.declared.work.Work.{Work}

-- the item is out, at this position, and each item that is out stands at it or behind it, by the numbers of jobs and then of items
pub record IsFirst (jobs : List JobState) (out : OutItem) : Type 0 where
  pub work : work_in (find_job out.work.job jobs) out.work.phase out.work.item ≡ Some out.work
  pub next : out.next ≡ out.work.from_group
  pub lowest : (job : JobId) (item : ℕ) → is_item_out jobs job item ≡ true → out.work.job.number ≤ job.number
  pub first : (job : JobId) (item : ℕ) → is_item_out jobs job item ≡ true → job.number ≡ out.work.job.number → out.work.item ≤ item

-- the first item that is out; none exactly where no item is out
abbrev pub IsFirstOut : List JobState → Option OutItem → Type 0
IsFirstOut jobs None = (job : JobId) (item : ℕ) → is_item_out jobs job item ≡ false
IsFirstOut jobs (Some out) = IsFirst jobs out

-- its number is below the lowest so far
abbrev pub is_lower : Option JobId → JobId → Bool
is_lower None job = true
is_lower (Some best) job = nat_lt job.number best.number

-- of the jobs with items out and the one so far, that with the lowest number
abbrev pub lowest_out : List JobState → Option JobId → Option JobId
lowest_out [] lowest = lowest
lowest_out (j ∷ js) lowest = lowest_out js (if nat_lt 0 (count_out j.items) && is_lower lowest j.job then Some j.job else lowest)

abbrev pub out_of_work : Option Work → Option OutItem
out_of_work None = None
out_of_work (Some work) = Some (record { work = work; next = work.from_group })

-- the first item of the job that is out
abbrev pub out_in : Option JobState → Option OutItem
out_in None = None
out_in (Some j) = out_of_work (work_in (Some j) j.phase (position_or_len is_out j.items))

abbrev pub job_found : List JobState → Option JobId → Option JobState
job_found jobs None = None
job_found jobs (Some job) = find_job job jobs

-- the first item that is out, by the numbers of jobs and then of items
abbrev pub first_out_of : List JobState → Option OutItem
first_out_of jobs = out_in (job_found jobs (lowest_out jobs None))
