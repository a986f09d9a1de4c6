-- The jobs that have items out.
use Rattle.std.specs.Prelude.{◌≡◌, ◌≤◌, Bool, true, false, List, [], ◌∷◌, length}
use Rattle.std.specs.List.{AllByRecursion, filter, list_any}
use Rattle.job_rules.specs.Kinds.{sets_of}
use Rattle.job_rules.specs.Rank.{shares}
use Rattle.engine_history.specs.Items.{is_out}
use Rattle.engine_history.specs.declared.job.JobState.{JobState}

-- an item of the job is out
abbrev pub has_out : JobState → Bool
has_out j = list_any is_out j.items

-- where both have items out, they share no set
abbrev pub RunApart : JobState → JobState → Type 0
RunApart j k = has_out j ≡ true → has_out k ≡ true → shares (sets_of j.kind) (sets_of k.kind) ≡ false

abbrev pub AllApart : List JobState → Type 0
AllApart [] = Unit {0}
AllApart (j ∷ js) = AllByRecursion (RunApart j) js × AllApart js

-- at most three jobs have items out, and no two of them share a set
pub record AreRunning (jobs : List JobState) : Type 0 where
  pub few : length (filter has_out jobs) ≤ 3
  pub apart : AllApart jobs
