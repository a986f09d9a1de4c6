-- What the rules see of the jobs, and the job that they serve.
use Rattle.std.proofs.Common.{◌≡◌, ◌≢◌, ℕ, zero, suc, ◌+◌, ◌<◌, ◌≤◌, Bool, true, false, cond, ◌&&◌, List, [], ◌∷◌, length, map, Option, Some, None, refl, sym, ap, ◌∙◌, subst, arith}
use Rattle.std.specs.Prelude.{IfSome, slice_index_or}
use Rattle.std.specs.List.{AllByRecursion, filter, find, list_any}
use Rattle.job_rules.specs.Rank.{IsApart, in_rank}
use Rattle.job_rules.specs.Rank.{AreApart as AreViewsApart}
use Rattle.job_rules.specs.Why.{why}
use Rattle.job_rules.specs.declared.job.JobId.{JobId}
use Rattle.job_rules.specs.declared.rank.JobView.{JobView}
use Rattle.engine_history.specs.Items.{is_to_do}
use Rattle.engine_history.specs.Jobs.{find_job, is_active, view_of, views_of}
use Rattle.engine_history.specs.Steps.{IsHandOut, IsNext, IsRun, IsRunOf, has_to_do, is_served, next_job, waits_not}
use Rattle.engine_history.specs.declared.job.JobState.{JobState}
use Rattle.job_log.specs.Jobs.{AreApart, AreOrderedFrom}
use Rattle.engine_core.specs.Tasks.{task_in}
use Rattle.engine_core.specs.declared.work.Task.{Task}
use Rattle.engine_core.proofs.DueEntries.{found_job}
use Rattle.engine_core.proofs.TaskLemmas.{run_is}

behind : (j : JobState) (n : ℕ) (ks : List JobState) → AllByRecursion (λ (k : JobState). j.job.number ≢ k.job.number) ks → AreOrderedFrom n ks → j.order < n → AllByRecursion (IsApart (view_of j)) (views_of ks)
behind j n [] other ordered before = tt
behind j n (k ∷ ks) other ordered before =
    elim (is_active k) as (λ t. AllByRecursion (IsApart (view_of j)) (map view_of (cond t (k ∷ filter is_active ks) (filter is_active ks)))) [
      | true ↦ (record { job = other.0; started = λ same. absurd (omega (arith, before, ordered.0, same)) }, behind j (suc n) ks other.1 ordered.1 (omega (arith, before)))
      | false ↦ behind j (suc n) ks other.1 ordered.1 (omega (arith, before))
    ]

pub views_are_apart : (n : ℕ) (jobs : List JobState) → AreApart jobs → AreOrderedFrom n jobs → AreViewsApart (views_of jobs)
views_are_apart n [] apart ordered = tt
views_are_apart n (j ∷ js) apart ordered =
    elim (is_active j) as (λ t. AreViewsApart (map view_of (cond t (j ∷ filter is_active js) (filter is_active js)))) [
      | true ↦ (behind j (suc n) js apart.0 ordered.1 (omega (arith, ordered.0)), views_are_apart (suc n) js apart.1 ordered.1)
      | false ↦ views_are_apart (suc n) js apart.1 ordered.1
    ]

find_true : (p : JobView → Bool) (vs : List JobView) (v : JobView) → find p vs ≡ Some v → p v ≡ true
find_true p [] v found = absurd cc
find_true p (x ∷ xs) v found =
    elim (p x) as (λ t. p x ≡ t → cond t (Some x) (find p xs) ≡ Some v → p v ≡ true) [
      | true ↦ λ passes here. let same : x ≡ v = cc in subst (λ (y : JobView). p y ≡ true) same passes
      | false ↦ λ _ later. find_true p xs v later
    ] refl found

and_second : (x y : Bool) → x && y ≡ true → y ≡ true
and_second true y h = h
and_second false y h = absurd cc

to_do_job : (o : Option JobState) → has_to_do o ≡ true → (j : JobState) × (o ≡ Some j) × (list_any is_to_do j.items ≡ true)
to_do_job None none = absurd cc
to_do_job (Some j) some = (j, refl, some)

-- the job that is served has an item to do
pub served_job : (jobs : List JobState) (v : JobView) → next_job jobs ≡ Some v → (j : JobState) × (find_job v.job jobs ≡ Some j) × (list_any is_to_do j.items ≡ true)
served_job jobs v next = to_do_job (find_job v.job jobs) (and_second (waits_not (why (views_of jobs) v.job)) (has_to_do (find_job v.job jobs)) (find_true (is_served jobs) (in_rank (views_of jobs)) v next))

-- the task is that of the job which is served
pub record IsHandedOut (jobs : List JobState) (most : ℕ) (v : JobView) (task : Task) : Type 0 where
  pub state : JobState
  pub found : find_job v.job jobs ≡ Some state
  pub own : find_job task.job jobs ≡ Some state
  pub items : task ≡ task_in state most
  pub run : IsRun state task.phase task.first task.count
  pub job : v.job ≡ task.job

pub handed_out_so : (jobs : List JobState) (most : ℕ) (v : JobView) (task : Task) → 1 ≤ most → most ≤ 8 → next_job jobs ≡ Some v → IfSome (find_job v.job jobs) (λ j. task ≡ task_in j most) → IsHandedOut jobs most v task
handed_out_so jobs most v task some few next tasks =
    let served = served_job jobs v next in
    let j = served.0 in
    let items : task ≡ task_in j most = subst (λ o. IfSome o (λ (k : JobState). task ≡ task_in k most)) served.1 tasks in
    let job : v.job ≡ task.job = sym (ap (λ (t : Task). t.job) items ∙ found_job v.job jobs j served.1) in
    record {
      state = j;
      found = served.1;
      own = ap (λ (x : JobId). find_job x jobs) (sym job) ∙ served.1;
      items = items;
      run = subst (λ (t : Task). IsRun j t.phase t.first t.count) (sym items) (run_is j most some few served.2);
      job = job;
    }

pub hand_out_legal : (jobs : List JobState) (most : ℕ) (v : JobView) (task : Task) → next_job jobs ≡ Some v → IsHandedOut jobs most v task → IsHandOut jobs task.job task.phase task.first task.count
hand_out_legal jobs most v task next h = record {
  served = subst (λ o. IsNext o task.job) (sym next) h.job;
  run = subst (λ o. IsRunOf o task.phase task.first task.count) (sym h.own) h.run;
}

-- the job at place i was started after n + i others
pub order_at : (n i : ℕ) (jobs : List JobState) (d : JobState) → AreOrderedFrom n jobs → i < length jobs → (slice_index_or jobs i d).order ≡ n + i
order_at n i [] d ordered within = absurd (omega (arith, within))
order_at n zero (j ∷ js) d ordered within = omega (arith, ordered.0)
order_at n (suc i) (j ∷ js) d ordered within = let later = order_at (suc n) i js d ordered.1 (omega (arith, within)) in omega (arith, later)
