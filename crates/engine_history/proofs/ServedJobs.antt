-- A hand-out goes to a job that may run beside all that have items out.
use Rattle.std.proofs.Common.{◌≡◌, ◌≢◌, ℕ, ◌≤◌, inl, inr, Bool, true, false, cond, not, ◌&&◌, ◌||◌, List, [], ◌∷◌, length, map, Option, Some, None, refl, sym, ap, ◌∙◌, subst, arith, ltb as nat_lt, nat_eq, eq-eqb}
use Rattle.std.proofs.lemmas.Bool.Decides.{nat_tests}
use Rattle.std.specs.List.{AllByRecursion, filter}
use Rattle.job_rules.specs.Rank.{AreApart, IsApart, in_rank, share}
use Rattle.job_rules.specs.Why.{is_other_out, why}
use Rattle.job_rules.specs.Why.{view_of as find_view}
use Rattle.job_rules.specs.declared.job.JobId.{JobId}
use Rattle.job_rules.specs.declared.rank.JobView.{JobView}
use Rattle.job_rules.specs.declared.waits.Waits.{Waits}
use Rattle.job_rules.proofs.RankedLists.{all-in_rank, find_holds, find_passes}
use Rattle.job_rules.proofs.RunningJobs.{others_apart, others_few}
use Rattle.job_rules.proofs.WaitingJobs.{IsAmong as IsViewAmong}
use Rattle.checkpoints.specs.declared.checkpoint.ItemSaved.{ItemSaved}
use Rattle.engine_history.specs.Items.{count_out}
use Rattle.engine_history.specs.Jobs.{at_job, find_job, is_active, is_job, view_of, views_of, with_items}
use Rattle.engine_history.specs.JobsWithItemsOut.{has_out}
use Rattle.engine_history.specs.Steps.{IsNext, has_to_do, is_served, next_job, waits_not}
use Rattle.engine_history.specs.declared.job.JobState.{JobState}
use Rattle.engine_history.proofs.RunningJobs.{AllOther, AreOther, IsIdle, Keeps, any-count}
use Rattle.engine_history.proofs.KeptByEntries.{IsAmong, all_among, among_all, clash, one_job}
use Rattle.engine_history.proofs.ItemsOfOneJob.{IsServed, keeps_served}

-- ---- the views of the jobs

abbrev IsViewOther : JobState → JobView → Type 0
IsViewOther j v = IsApart (view_of j) v

views_other : (j : JobState) (js : List JobState) → AllByRecursion (AreOther j) js → AllByRecursion (IsApart (view_of j)) (views_of js)
views_other j [] all = tt
views_other j (k ∷ ks) all =
    elim (is_active k) as (λ t. AllByRecursion (IsApart (view_of j)) (map view_of (cond t (k ∷ filter is_active ks) (filter is_active ks)))) [
      | true ↦ (record { job = all.0.number; started = all.0.order }, views_other j ks all.1)
      | false ↦ views_other j ks all.1
    ]

views_apart : (js : List JobState) → AllOther js → AreApart (views_of js)
views_apart [] other = tt
views_apart (j ∷ js) other =
    elim (is_active j) as (λ t. AreApart (map view_of (cond t (j ∷ filter is_active js) (filter is_active js)))) [
      | true ↦ (views_other j js other.0, views_apart js other.1)
      | false ↦ views_apart js other.1
    ]

-- the job that a view is of
record IsOf (v : JobView) (js : List JobState) : Type 0 where
  state : JobState
  among : IsAmong state js
  active : is_active state ≡ true
  view : v ≡ view_of state

view_is_of : (v : JobView) (js : List JobState) → IsViewAmong v (views_of js) → IsOf v js
view_is_of v [] among = absurd among
view_is_of v (j ∷ js) among =
    elim (is_active j) as (λ t. is_active j ≡ t → IsViewAmong v (map view_of (cond t (j ∷ filter is_active js) (filter is_active js))) → IsOf v (j ∷ js)) [
      | true ↦ λ active there. elim there [
        | inl here ↦ record { state = j; among = inl refl; active = active; view = here }
        | inr later ↦ let d = view_is_of v js later in record { state = d.state; among = inr d.among; active = d.active; view = d.view }
      ]
      | false ↦ λ _ later. let d = view_is_of v js later in record { state = d.state; among = inr d.among; active = d.active; view = d.view }
    ] refl among

views_themselves : (vs all : List JobView) → ((v : JobView) → IsViewAmong v vs → IsViewAmong v all) → AllByRecursion (λ v. IsViewAmong v all) vs
views_themselves [] all so = tt
views_themselves (v ∷ vs) all so = (so v (inl refl), views_themselves vs all (λ w among. so w (inr among)))

views_all : (P : JobView → Type 0) (vs : List JobView) (v : JobView) → AllByRecursion P vs → IsViewAmong v vs → P v
views_all P [] v all among = absurd among
views_all P (x ∷ xs) v all among = elim among [ inl here ↦ subst P (sym here) all.0 | inr later ↦ views_all P xs v all.1 later ]

find_itself : (vs : List JobView) (v : JobView) → AreApart vs → IsViewAmong v vs → find_view v.job vs ≡ Some v
find_itself [] v apart among = absurd among
find_itself (x ∷ xs) v apart among =
    elim among [
      | inl here ↦
          let same : nat_eq x.job.number v.job.number ≡ true = eq-eqb x.job.number v.job.number (ap (λ (w : JobView). w.job.number) (sym here)) in
          ap (λ t. cond t (Some x) (find_view v.job xs)) same ∙ ap (λ (w : JobView). let made : Option JobView = Some w in made) (sym here)
      | inr later ↦
          let other = views_all (IsApart x) xs v apart.0 later in
          let differs : nat_eq x.job.number v.job.number ≡ false = fails x.job.number v.job.number other.job in
          ap (λ t. cond t (Some x) (find_view v.job xs)) differs ∙ find_itself xs v apart.1 later
    ]
  where
    fails : (a b : ℕ) → a ≢ b → nat_eq a b ≡ false
    fails a b differ = grind (arith, nat_tests)

from_views : (P : JobView → Type 0) (js : List JobState) → AllByRecursion P (views_of js) → AllByRecursion (λ k. is_active k ≡ true → P (view_of k)) js
from_views P [] all = tt
from_views P (j ∷ js) all =
    elim (is_active j) as (λ t. is_active j ≡ t → AllByRecursion P (map view_of (cond t (j ∷ filter is_active js) (filter is_active js))) → AllByRecursion (λ k. is_active k ≡ true → P (view_of k)) (j ∷ js)) [
      | true ↦ λ _ there. (λ _. there.0, from_views P js there.1)
      | false ↦ λ gone there. (λ active. absurd (clash (is_active j) gone active), from_views P js there)
    ] refl all

-- a job with items out is active
out_active : (j : JobState) → IsIdle j → has_out j ≡ true → is_active j ≡ true
out_active j idle out =
    let some : nat_lt 0 (count_out j.items) ≡ true = any-count j.items ∙ out in
    let going : j.finished ≡ false = elim j.finished as (λ t. j.finished ≡ t → t ≡ false) [ true ↦ λ done. absurd (clash (has_out j) (idle done) out) | false ↦ λ _. refl ] refl in
    ap (λ t. not t && (not j.cancelled || nat_lt 0 (count_out j.items))) going
    ∙ ap (λ t. not j.cancelled || t) some
    ∙ elim j.cancelled as (λ t. not t || true ≡ true) [ true ↦ refl | false ↦ refl ]

few_views : (v : JobView) (js : List JobState) → AllByRecursion IsIdle js → length (filter (λ k. not (is_job v.job k) && has_out k) js) ≤ length (filter (is_other_out v) (views_of js))
few_views v [] idle = omega arith
few_views v (j ∷ js) idle =
    let rest = few_views v js idle.1 in
    let tail : List JobState = filter (λ k. not (is_job v.job k) && has_out k) js in
    let seen : List JobView = filter (is_other_out v) (views_of js) in
    elim (is_active j) as (λ a. is_active j ≡ a → length (cond (not (is_job v.job j) && has_out j) (j ∷ tail) tail) ≤ length (filter (is_other_out v) (map view_of (cond a (j ∷ filter is_active js) (filter is_active js))))) [
      | true ↦ λ _.
          subst (λ t. length (cond (not (is_job v.job j) && has_out j) (j ∷ tail) tail) ≤ length (cond (not (is_job v.job j) && t) (view_of j ∷ seen) seen)) (sym (any-count j.items))
          (elim (not (is_job v.job j) && has_out j) as (λ t. length (cond t (j ∷ tail) tail) ≤ length (cond t (view_of j ∷ seen) seen)) [ true ↦ omega arith | false ↦ rest ])
      | false ↦ λ gone.
          let none : has_out j ≡ false = elim (has_out j) as (λ t. has_out j ≡ t → t ≡ false) [ true ↦ λ out. absurd (clash (is_active j) gone (out_active j idle.0 out)) | false ↦ λ _. refl ] refl in
          subst (λ t. length (cond (not (is_job v.job j) && t) (j ∷ tail) tail) ≤ length seen) (sym none)
          (elim (is_job v.job j) as (λ t. length (cond (not t && false) (j ∷ tail) tail) ≤ length seen) [ true ↦ rest | false ↦ rest ])
    ] refl

-- ---- the hand-out

waits_none : (o : Option Waits) → waits_not o ≡ true → o ≡ None
waits_none None h = refl
waits_none (Some w) h = absurd cc

first_of_two : (x y : Bool) → x && y ≡ true → x ≡ true
first_of_two true y h = refl
first_of_two false y h = absurd cc

going : (j : JobState) → is_active j ≡ true → j.finished ≡ false
going j active = elim j.finished as (λ t. not t && (not j.cancelled || nat_lt 0 (count_out j.items)) ≡ true → t ≡ false) [ true ↦ λ h. absurd cc | false ↦ λ _. refl ] active

-- what holds of the view that is served next
record IsServedNext (v : JobView) (js : List JobState) : Type 0 where
  apart : AreApart (views_of js)
  among : IsViewAmong v (views_of js)
  found : find_view v.job (views_of js) ≡ Some v
  free : why (views_of js) v.job ≡ None

served_next : (v : JobView) (js : List JobState) → Keeps js → next_job js ≡ Some v → IsServedNext v js
served_next v js keeps next =
    let apart = views_apart js keeps.other in
    let among : IsViewAmong v (views_of js) =
    find_holds (λ w. IsViewAmong w (views_of js)) (is_served js) (in_rank (views_of js)) v
    (all-in_rank (λ w. IsViewAmong w (views_of js)) (views_of js) (views_themselves (views_of js) (views_of js) (λ w h. h))) next in
    record {
      apart = apart;
      among = among;
      found = find_itself (views_of js) v apart among;
      free = waits_none (why (views_of js) v.job) (first_of_two (waits_not (why (views_of js) v.job)) (has_to_do (find_job v.job js)) (find_passes (is_served js) (in_rank (views_of js)) v next));
    }

served : (v : JobView) (js : List JobState) → Keeps js → next_job js ≡ Some v → AllByRecursion (IsServed v.job v.kind) js
served v js keeps next =
    let n = served_next v js keeps next in
    let d = view_is_of v js n.among in
    let exclusive = from_views (λ w. is_other_out v w ≡ true → share w v ≡ false) js (others_apart (views_of js) v n.apart n.found n.free) in
    all_among (IsServed v.job v.kind) js js (λ a h. h) (λ j here. record {
      own = λ named.
          let same : d.state ≡ j = one_job js d.state j keeps.other d.among here (ap (λ (w : JobView). w.job.number) (sym d.view) ∙ sym (number_of j named)) in
          (subst (λ (x : JobState). x.finished ≡ false) same (going d.state d.active), ap (λ (x : JobState). x.kind) (sym same) ∙ ap (λ (w : JobView). w.kind) (sym d.view));
      other = λ differs out.
          let active : is_active j ≡ true = out_active j (among_all IsIdle js j keeps.idle here) out in
          let seen : is_other_out v (view_of j) ≡ true = ap (λ t. not t && nat_lt 0 (count_out j.items)) differs ∙ any-count j.items ∙ out in
          among_all (λ k. is_active k ≡ true → is_other_out v (view_of k) ≡ true → share (view_of k) v ≡ false) js j exclusive here active seen;
    })
  where
    number_of : (j : JobState) → is_job v.job j ≡ true → j.job.number ≡ v.job.number
    number_of j named = grind (arith, nat_tests)

served_few : (v : JobView) (js : List JobState) → Keeps js → next_job js ≡ Some v → length (filter (λ k. not (is_job v.job k) && has_out k) js) ≤ 2
served_few v js keeps next =
    let n = served_next v js keeps next in
    omega (arith, few_views v js keeps.idle, others_few (views_of js) v n.apart n.found n.free)

pub keeps-hand_out : (job : JobId) (change : List ItemSaved → List ItemSaved) (js : List JobState) → Keeps js → IsNext (next_job js) job → Keeps (at_job job (with_items change) js)
keeps-hand_out job change js keeps next = found (next_job js) refl next
  where
    found : (o : Option JobView) → next_job js ≡ o → IsNext o job → Keeps (at_job job (with_items change) js)
    found None is named = absurd named
    found (Some v) is named =
        subst (λ (x : JobId). Keeps (at_job x (with_items change) js)) named
        (keeps_served v.job change v.kind js keeps (served v js keeps is) (served_few v js keeps is))
