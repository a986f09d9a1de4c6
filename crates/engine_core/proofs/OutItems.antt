-- Items that stay out.
use Rattle.std.proofs.Common.{◌≡◌, ◌≢◌, ℕ, zero, suc, ◌<◌, Bool, true, false, cond, ◌&&◌, List, [], ◌∷◌, ◌++◌, length, map, Option, Some, None, refl, ap, ◌∙◌, arith, nat_eq}
use Rattle.std.specs.List.{list_all}
use Rattle.job_rules.specs.declared.job.JobId.{JobId}
use Rattle.checkpoints.specs.declared.checkpoint.ItemSaved.{ItemSaved}
use Rattle.checkpoints.specs.declared.checkpoint.ItemSaved.TheVariants.{ToDo, Out, Whole, Lost, Short}
use Rattle.engine_history.specs.Items.{come_to, handed_out, has_ended, is_out, items_from}
use Rattle.engine_history.specs.Jobs.{at_job, find_job, is_job, ordered}
use Rattle.engine_history.specs.Steps.{is_item_out, out_among, out_of}
use Rattle.engine_history.specs.declared.entry.JobOrder.{JobOrder}
use Rattle.engine_history.specs.declared.entry.JobOrder.TheVariants.{Pause, Resume, Cancel}
use Rattle.engine_history.specs.declared.job.JobState.{JobState}

-- ---- items

pub out-items_from : (first count item : ℕ) (f : ItemSaved → ItemSaved) (items : List ItemSaved) → ((i : ItemSaved) → is_out i ≡ true → is_out (f i) ≡ true) → out_among item items ≡ true
    → out_among item (items_from first count f items) ≡ true
out-items_from first zero item f items keeps out = out
out-items_from first (suc count) item f [] keeps out = out
out-items_from zero (suc count) zero f (i ∷ is) keeps out = keeps i out
out-items_from zero (suc count) (suc item) f (i ∷ is) keeps out = out-items_from zero count item f is keeps out
out-items_from (suc first) (suc count) zero f (i ∷ is) keeps out = out
out-items_from (suc first) (suc count) (suc item) f (i ∷ is) keeps out = out-items_from first (suc count) item f is keeps out

-- a change of one item leaves the others as they are
pub out-other : (at item : ℕ) (f : ItemSaved → ItemSaved) (items : List ItemSaved) → item ≢ at → out_among item (items_from at 1 f items) ≡ out_among item items
out-other at item f [] other = refl
out-other zero zero f (i ∷ is) other = absurd (other refl)
out-other zero (suc item) f (i ∷ is) other = refl
out-other (suc at) zero f (i ∷ is) other = refl
out-other (suc at) (suc item) f (i ∷ is) other = out-other at item f is (λ same. other (ap suc same))

pub out-handed_out : (i : ItemSaved) → is_out i ≡ true → is_out (handed_out i) ≡ true
out-handed_out (ToDo next) out = refl
out-handed_out (Out next) out = refl
out-handed_out Whole out = refl
out-handed_out Lost out = refl
out-handed_out Short out = refl

pub out-come_to : (n : ℕ) (i : ItemSaved) → is_out i ≡ true → is_out (come_to n i) ≡ true
out-come_to n (ToDo next) out = out
out-come_to n (Out next) out = refl
out-come_to n Whole out = out
out-come_to n Lost out = out
out-come_to n Short out = out

and_parts : (x y : Bool) → x && y ≡ true → (x ≡ true) × (y ≡ true)
and_parts true y h = (refl, h)
and_parts false y h = absurd cc

-- where all have ended, none is out
pub none_out : (item : ℕ) (items : List ItemSaved) → list_all has_ended items ≡ true → out_among item items ≡ true → ⊥
none_out item [] all out = absurd cc
none_out zero (ToDo n ∷ is) all out = absurd cc
none_out zero (Out n ∷ is) all out = absurd cc
none_out zero (Whole ∷ is) all out = absurd cc
none_out zero (Lost ∷ is) all out = absurd cc
none_out zero (Short ∷ is) all out = absurd cc
none_out (suc item) (i ∷ is) all out = none_out item is (and_parts (has_ended i) (list_all has_ended is) all).1 out

-- an item that is out is there
pub out_within : (item : ℕ) (items : List ItemSaved) → out_among item items ≡ true → item < length items
out_within item [] out = absurd cc
out_within zero (i ∷ is) out = omega arith
out_within (suc item) (i ∷ is) out = omega (arith, out_within item is out)

-- ---- jobs

abbrev pub map_option : (JobState → JobState) → Option JobState → Option JobState
map_option g None = None
map_option g (Some j) = Some (g j)

pub found-map : (job : JobId) (g : JobState → JobState) (jobs : List JobState) → ((j : JobState) → (g j).job ≡ j.job) → find_job job (map g jobs) ≡ map_option g (find_job job jobs)
found-map job g [] same = refl
found-map job g (j ∷ js) same =
    ap (λ (x : JobId). cond (nat_eq x.number job.number) (Some (g j)) (find_job job (map g js))) (same j)
    ∙ elim (is_job job j) as (λ t. cond t (Some (g j)) (find_job job (map g js)) ≡ map_option g (cond t (Some j) (find_job job js))) [ true ↦ refl | false ↦ found-map job g js same ]

-- an item that is out stays out where its job is another one, or where it stays out in it
pub stays_out : (own job : JobId) (item : ℕ) (f : JobState → JobState) (jobs : List JobState) → ((j : JobState) → (f j).job ≡ j.job)
    → ((j : JobState) → find_job job jobs ≡ Some j → is_job own j ≡ true → out_among item j.items ≡ true → out_among item (f j).items ≡ true)
    → is_item_out jobs job item ≡ true → is_item_out (at_job own f jobs) job item ≡ true
stays_out own job item f jobs same keeps out =
    ap (λ o. out_of o item) (found-map job g jobs g_same) ∙ by_found (find_job job jobs) refl out
  where
    g : JobState → JobState
    g j = cond (is_job own j) (f j) j

    g_same : (j : JobState) → (g j).job ≡ j.job
    g_same j = elim (is_job own j) as (λ t. (cond t (f j) j).job ≡ j.job) [ true ↦ same j | false ↦ refl ]

    by_found : (o : Option JobState) → find_job job jobs ≡ o → out_of o item ≡ true → out_of (map_option g o) item ≡ true
    by_found None is none = absurd cc
    by_found (Some j) is there = elim (is_job own j) as (λ t. is_job own j ≡ t → out_among item (cond t (f j) j).items ≡ true) [ true ↦ λ named. keeps j is named there | false ↦ λ _. there ] refl

ordered-job : (order : JobOrder) (j : JobState) → (ordered order j).job ≡ j.job
ordered-job Pause j = refl
ordered-job Resume j = refl
ordered-job Cancel j = refl

ordered-items : (order : JobOrder) (j : JobState) → (ordered order j).items ≡ j.items
ordered-items Pause j = refl
ordered-items Resume j = refl
ordered-items Cancel j = refl

pub out-ordered : (own job : JobId) (item : ℕ) (order : JobOrder) (jobs : List JobState) → is_item_out jobs job item ≡ true → is_item_out (at_job own (ordered order) jobs) job item ≡ true
out-ordered own job item order jobs out = stays_out own job item (ordered order) jobs (ordered-job order) (λ j found named there. ap (out_among item) (ordered-items order j) ∙ there) out

-- a job more changes no item of the others
pub out-last : (job : JobId) (item : ℕ) (jobs : List JobState) (j : JobState) → is_item_out jobs job item ≡ true → is_item_out (jobs ++ j ∷ []) job item ≡ true
out-last job item [] j out = absurd cc
out-last job item (k ∷ ks) j out =
    elim (is_job job k) as (λ t. out_of (cond t (Some k) (find_job job ks)) item ≡ true → out_of (cond t (Some k) (find_job job (ks ++ j ∷ []))) item ≡ true) [
      | true ↦ λ here. here
      | false ↦ λ later. out-last job item ks j later
    ] out
