-- Which jobs run.
use Rattle.std.specs.Prelude.{Bool, not, ◌&&◌, nat_lt, ◌==◌, if◌then◌else◌, List, [], ◌∷◌, ◌++◌, length}
use Rattle.std.specs.List.{list_any}
use Rattle.job_rules.specs.Rank.{in_rank, share}
use Rattle.job_rules.specs.declared.job.JobId.{JobId}
use Rattle.job_rules.specs.declared.rank.JobView.{JobView}

-- no user paused the job, fewer than three are kept, and none of these shares a set with it
abbrev pub fits : List JobView → JobView → Bool
fits kept v = (not v.by_user && nat_lt (length kept) 3) && not (list_any (λ k. share k v) kept)

-- the jobs kept, once each of these in its turn is kept too where it fits
abbrev pub keep : List JobView → List JobView → List JobView
keep [] kept = kept
keep (v ∷ vs) kept = keep vs (if fits kept v then kept ++ v ∷ [] else kept)

-- the jobs that run: walked through in rank, those that fit beside the ones kept before
abbrev pub chosen : List JobView → List JobView
chosen jobs = keep (in_rank jobs) []

-- the job is one of these
abbrev pub has_job : JobId → List JobView → Bool
has_job job jobs = list_any (λ v. v.job.number == job.number) jobs
