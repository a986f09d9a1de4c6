-- Why a job waits.
use Rattle.std.specs.Prelude.{Bool, not, ◌&&◌, nat_lt, ◌==◌, if◌then◌else◌, List, [], ◌∷◌, Option, Some, None}
use Rattle.std.specs.List.{filter, find}
use Rattle.job_rules.specs.Rank.{in_rank, rank_before, share}
use Rattle.job_rules.specs.Chosen.{chosen, has_job}
use Rattle.job_rules.specs.declared.job.JobId.{JobId}
use Rattle.job_rules.specs.declared.rank.JobView.{JobView}
use Rattle.job_rules.specs.declared.waits.Waits.{Waits}
use Rattle.job_rules.specs.declared.waits.Waits.TheVariants.{ByUser, ByExclusion, ByCount}

-- it waits for this job, where there is one
abbrev pub excluded_by : Option JobView → Option Waits
excluded_by None = None
excluded_by (Some v) = Some (ByExclusion v.job)

-- the reason, or else the other one
abbrev pub or_else : Option Waits → Option Waits → Option Waits
or_else None other = other
or_else (Some waits) other = Some waits

-- it waits for the first three of these, where there are three
abbrev pub counted_by : List JobView → Option Waits
counted_by [] = None
counted_by (a ∷ []) = None
counted_by (a ∷ b ∷ []) = None
counted_by (a ∷ b ∷ c ∷ rest) = Some (ByCount (a.job ∷ b.job ∷ c.job ∷ []))

-- the first in rank of these that shares a set with the job and ranks before it
abbrev pub kept_before : JobView → List JobView → Option JobView
kept_before own kept = find (λ k. share k own && rank_before k own) kept

-- v is not kept, has items out, and shares a set with the job
abbrev pub is_leaving : JobView → List JobView → JobView → Bool
is_leaving own kept v = (not (has_job v.job kept) && nat_lt 0 v.out) && share v own

-- v is another job with items out
abbrev pub is_other_out : JobView → JobView → Bool
is_other_out own v = not (v.job.number == own.job.number) && nat_lt 0 v.out

-- why this job of the list waits, if it does:
-- a user paused it; or it is not kept, and a kept job before it shares a set with it, or three are kept; or a job that is no
-- longer kept and shares a set with it has items out, or three other jobs have
abbrev pub why_of : List JobView → JobView → Option Waits
why_of jobs own =
    if own.by_user then Some ByUser
    else (if not (has_job own.job (chosen jobs))
    then or_else (excluded_by (kept_before own (chosen jobs))) (counted_by (chosen jobs))
    else or_else (excluded_by (find (is_leaving own (chosen jobs)) (in_rank jobs)))
    (counted_by (filter (is_other_out own) (in_rank jobs))))

-- the view of a job
abbrev pub view_of : JobId → List JobView → Option JobView
view_of job jobs = find (λ v. v.job.number == job.number) jobs

abbrev pub why_seen : List JobView → Option JobView → Option Waits
why_seen jobs None = None
why_seen jobs (Some own) = why_of jobs own

-- why the job waits, if it does
abbrev pub why : List JobView → JobId → Option Waits
why jobs job = why_seen jobs (view_of job jobs)
