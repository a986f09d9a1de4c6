-- The definitions on worked examples: five jobs by their default priorities, and two that share a set.
use Rattle.std.proofs.Common.{◌≡◌, ◌≢◌, ℕ, Bool, true, false, List, [], ◌∷◌, map, Some, None, refl}
use Rattle.job_rules.specs.Kinds.{priority_of, phase_at}
use Rattle.job_rules.specs.Chosen.{chosen}
use Rattle.job_rules.specs.Why.{why}
use Rattle.job_rules.specs.declared.job.JobId.{JobId}
use Rattle.job_rules.specs.declared.kind.JobKind.{JobKind}
use Rattle.job_rules.specs.declared.kind.JobKind.TheVariants.{FlexProtect, AutoBalance, Collect, MultiScan, Upgrade}
use Rattle.job_rules.specs.declared.phase.Phase.TheVariants.{Release}
use Rattle.job_rules.specs.declared.rank.JobView.{JobView}
use Rattle.job_rules.specs.declared.waits.Waits.TheVariants.{ByUser, ByExclusion, ByCount}

abbrev job : ℕ → JobId
job n = record { number = n }

-- the job of this number, started in that place, with the default priority of its kind
abbrev view : ℕ → JobKind → Bool → ℕ → JobView
view n kind by_user out = record { job = job n; kind = kind; priority = priority_of kind; started = n; by_user = by_user; out = out }

abbrev numbers : List JobView → List ℕ
numbers jobs = map (λ (v : JobView). v.job.number) jobs

abbrev five : List JobView
five = view 1 AutoBalance false 0 ∷ view 2 Collect false 0 ∷ view 3 Upgrade false 0 ∷ view 4 Upgrade false 0 ∷ view 5 MultiScan false 0 ∷ []

five_chosen : numbers (chosen five) ≡ 3 ∷ 4 ∷ 1 ∷ []
five_chosen = refl

five_counted : why five (job 2) ≡ Some (ByCount (job 3 ∷ job 4 ∷ job 1 ∷ []))
five_counted = refl

five_excluded : why five (job 5) ≡ Some (ByExclusion (job 1))
five_excluded = refl

five_runs : why five (job 1) ≡ None
five_runs = refl

five_not_by_count : why five (job 5) ≢ Some (ByCount (job 3 ∷ job 4 ∷ job 1 ∷ []))
five_not_by_count same = cc

-- the fourth job is gone, and a user has paused the first
abbrev four : List JobView
four = view 1 AutoBalance true 0 ∷ view 2 Collect false 0 ∷ view 3 Upgrade false 0 ∷ view 5 MultiScan false 0 ∷ []

four_chosen : numbers (chosen four) ≡ 3 ∷ 2 ∷ []
four_chosen = refl

four_paused : why four (job 1) ≡ Some ByUser
four_paused = refl

four_excluded : why four (job 5) ≡ Some (ByExclusion (job 2))
four_excluded = refl

-- an AutoBalance has an item out when a FlexProtect starts: each waits for the other
abbrev two : List JobView
two = view 1 AutoBalance false 1 ∷ view 2 FlexProtect false 0 ∷ []

first_waits : why two (job 1) ≡ Some (ByExclusion (job 2))
first_waits = refl

second_waits : why two (job 2) ≡ Some (ByExclusion (job 1))
second_waits = refl

-- once the item is given back, the second runs alone
abbrev given_back : List JobView
given_back = view 1 AutoBalance false 0 ∷ view 2 FlexProtect false 0 ∷ []

second_runs : why given_back (job 2) ≡ None
second_runs = refl

third_phase : phase_at FlexProtect 2 ≡ Some Release
third_phase = refl

no_fourth_phase : phase_at FlexProtect 3 ≡ None
no_fourth_phase = refl
