-- One job whose items change: what this keeps of all jobs where it shares no set with another that has items out.
use Rattle.std.proofs.Common.{◌≡◌, ℕ, suc, ◌+◌, ◌<◌, ◌≤◌, Bool, true, false, cond, not, ◌&&◌, ◌||◌, List, [], ◌∷◌, length, map, refl, sym, ap, ◌∙◌, subst, arith}
use Rattle.std.proofs.lemmas.Bool.Decides.{nat_tests}
use Rattle.std.proofs.lemmas.List.{length-map}
use Rattle.std.specs.List.{AllByRecursion, filter}
use Rattle.job_rules.specs.Kinds.{sets_of}
use Rattle.job_rules.specs.Rank.{shares}
use Rattle.job_rules.specs.declared.job.JobId.{JobId}
use Rattle.job_rules.specs.declared.kind.JobKind.{JobKind}
use Rattle.job_rules.specs.declared.kind.Sets.{Sets}
use Rattle.checkpoints.specs.declared.checkpoint.ItemSaved.{ItemSaved}
use Rattle.engine_history.specs.Jobs.{at_job, is_job, with_items}
use Rattle.engine_history.specs.JobsWithItemsOut.{AllApart, RunApart, has_out}
use Rattle.engine_history.specs.declared.job.JobState.{JobState}
use Rattle.engine_history.proofs.RunningJobs.{AllOther, AreOther, IsIdle, Keeps}
use Rattle.engine_history.proofs.KeptByEntries.{clash}

-- what the job that is handed out is, and what the others with items out have to do with it
pub record IsServed (job : JobId) (kind : JobKind) (j : JobState) : Type 0 where
  pub own : is_job job j ≡ true → (j.finished ≡ false) × (j.kind ≡ kind)
  pub other : is_job job j ≡ false → has_out j ≡ true → shares (sets_of j.kind) (sets_of kind) ≡ false

module _ (job : JobId) (change : List ItemSaved → List ItemSaved) where
  abbrev changed : JobState → JobState
  changed j = cond (is_job job j) (with_items change j) j

  number-changed : (j : JobState) → (changed j).job.number ≡ j.job.number
  number-changed j = elim (is_job job j) as (λ t. (cond t (with_items change j) j).job.number ≡ j.job.number) [ true ↦ refl | false ↦ refl ]

  order-changed : (j : JobState) → (changed j).order ≡ j.order
  order-changed j = elim (is_job job j) as (λ t. (cond t (with_items change j) j).order ≡ j.order) [ true ↦ refl | false ↦ refl ]

  kind-changed : (j : JobState) → (changed j).kind ≡ j.kind
  kind-changed j = elim (is_job job j) as (λ t. (cond t (with_items change j) j).kind ≡ j.kind) [ true ↦ refl | false ↦ refl ]

  other_changed : (j : JobState) (js : List JobState) → AllByRecursion (AreOther j) js → AllByRecursion (AreOther (changed j)) (map changed js)
  other_changed j [] all = tt
  other_changed j (k ∷ ks) all = (
    record { number = λ same. all.0.number (sym (number-changed j) ∙ same ∙ number-changed k); order = λ same. all.0.order (sym (order-changed j) ∙ same ∙ order-changed k) },
    other_changed j ks all.1,
  )

  all_other : (js : List JobState) → AllOther js → AllOther (map changed js)
  all_other [] all = tt
  all_other (j ∷ js) all = (other_changed j js all.0, all_other js all.1)

  all_below : (n : ℕ) (js : List JobState) → AllByRecursion (λ j. j.order < n) js → AllByRecursion (λ j. j.order < n) (map changed js)
  all_below n [] all = tt
  all_below n (j ∷ js) all = (subst (λ m. m < n) (sym (order-changed j)) all.0, all_below n js all.1)

  all_idle : (kind : JobKind) (js : List JobState) → AllByRecursion (IsServed job kind) js → AllByRecursion IsIdle js → AllByRecursion IsIdle (map changed js)
  all_idle kind [] served all = tt
  all_idle kind (j ∷ js) served all = (
    elim (is_job job j) as (λ t. is_job job j ≡ t → IsIdle (cond t (with_items change j) j)) [
      | true ↦ λ named done. absurd (clash j.finished (served.0.own named).0 done)
      | false ↦ λ _. all.0
    ] refl,
    all_idle kind js served.1 all.1,
  )

  shares-comm : (s t : Sets) → shares s t ≡ shares t s
  shares-comm s t = ap (λ x. x || (s.mark && t.mark)) (and_comm s.restripe t.restripe) ∙ ap (λ x. (t.restripe && s.restripe) || x) (and_comm s.mark t.mark)
    where
      and_comm : (x y : Bool) → x && y ≡ y && x
      and_comm true true = refl
      and_comm true false = refl
      and_comm false true = refl
      and_comm false false = refl

  number_is : (j : JobState) → is_job job j ≡ true → j.job.number ≡ job.number
  number_is j named = grind (arith, nat_tests)

  pair_apart : (kind : JobKind) (j k : JobState) → IsServed job kind j → IsServed job kind k → AreOther j k → RunApart j k → RunApart (changed j) (changed k)
  pair_apart kind j k at_j at_k other apart =
      elim (is_job job j) as (λ t. is_job job j ≡ t → RunApart (cond t (with_items change j) j) (changed k)) [
        | true ↦ λ j_named.
            elim (is_job job k) as (λ u. is_job job k ≡ u → RunApart (with_items change j) (cond u (with_items change k) k)) [
              | true ↦ λ k_named. absurd (other.number (number_is j j_named ∙ sym (number_is k k_named)))
              | false ↦ λ k_other one two.
                  ap (λ x. shares (sets_of x) (sets_of k.kind)) (at_j.own j_named).1 ∙ shares-comm (sets_of kind) (sets_of k.kind) ∙ at_k.other k_other two
            ] refl
        | false ↦ λ j_other.
            elim (is_job job k) as (λ u. is_job job k ≡ u → RunApart j (cond u (with_items change k) k)) [
              | true ↦ λ k_named one two. ap (λ x. shares (sets_of j.kind) (sets_of x)) (at_k.own k_named).1 ∙ at_j.other j_other one
              | false ↦ λ _. apart
            ] refl
      ] refl

  apart_changed : (kind : JobKind) (j : JobState) (js : List JobState) → IsServed job kind j → AllByRecursion (IsServed job kind) js → AllByRecursion (AreOther j) js → AllByRecursion (RunApart j) js
      → AllByRecursion (RunApart (changed j)) (map changed js)
  apart_changed kind j [] at_j served other apart = tt
  apart_changed kind j (k ∷ ks) at_j served other apart =
      (pair_apart kind j k at_j served.0 other.0 apart.0, apart_changed kind j ks at_j served.1 other.1 apart.1)

  all_apart : (kind : JobKind) (js : List JobState) → AllByRecursion (IsServed job kind) js → AllOther js → AllApart js → AllApart (map changed js)
  all_apart kind [] served other apart = tt
  all_apart kind (j ∷ js) served other apart = (apart_changed kind j js served.0 served.1 other.0 apart.0, all_apart kind js served.1 other.1 apart.1)

  abbrev other_out : JobState → Bool
  other_out k = not (is_job job k) && has_out k

  none_named : (j : JobState) (js : List JobState) → j.job.number ≡ job.number → AllByRecursion (AreOther j) js → length (filter (is_job job) js) ≡ 0
  none_named j [] named other = refl
  none_named j (k ∷ ks) named other =
      elim (is_job job k) as (λ t. is_job job k ≡ t → length (cond t (k ∷ filter (is_job job) ks) (filter (is_job job) ks)) ≡ 0) [
        | true ↦ λ too. absurd (other.0.number (named ∙ sym (number_is k too)))
        | false ↦ λ _. none_named j ks named other.1
      ] refl

  one_named : (js : List JobState) → AllOther js → length (filter (is_job job) js) ≤ 1
  one_named [] other = omega arith
  one_named (j ∷ js) other =
      elim (is_job job j) as (λ t. is_job job j ≡ t → length (cond t (j ∷ filter (is_job job) js) (filter (is_job job) js)) ≤ 1) [
        | true ↦ λ named. let none = none_named j js (number_is j named) other.0 in omega arith
        | false ↦ λ _. one_named js other.1
      ] refl

  out_changed : (js : List JobState) → length (filter has_out (map changed js)) ≤ length (filter other_out js) + length (filter (is_job job) js)
  out_changed [] = omega arith
  out_changed (j ∷ js) =
      let rest = out_changed js in
      elim (is_job job j) as (λ t. length (cond (has_out (cond t (with_items change j) j)) (cond t (with_items change j) j ∷ filter has_out (map changed js)) (filter has_out (map changed js)))
      ≤ length (cond (not t && has_out j) (j ∷ filter other_out js) (filter other_out js)) + length (cond t (j ∷ filter (is_job job) js) (filter (is_job job) js))) [
        | true ↦
            elim (has_out (with_items change j)) as (λ u. length (cond u (with_items change j ∷ filter has_out (map changed js)) (filter has_out (map changed js))) ≤ length (filter other_out js) + suc (length (filter (is_job job) js))) [
              | true ↦ omega arith
              | false ↦ omega arith
            ]
        | false ↦
            elim (has_out j) as (λ u. length (cond u (j ∷ filter has_out (map changed js)) (filter has_out (map changed js))) ≤ length (cond u (j ∷ filter other_out js) (filter other_out js)) + length (filter (is_job job) js)) [
              | true ↦ omega arith
              | false ↦ rest
            ]
      ]

  pub keeps_served : (kind : JobKind) (js : List JobState) → Keeps js → AllByRecursion (IsServed job kind) js → length (filter other_out js) ≤ 2 → Keeps (at_job job (with_items change) js)
  keeps_served kind js keeps served few = record {
    other = all_other js keeps.other;
    below = subst (λ n. AllByRecursion (λ j. j.order < n) (map changed js)) (sym (length-map js changed)) (all_below (length js) js keeps.below);
    idle = all_idle kind js served keeps.idle;
    running = record { few = omega (arith, out_changed js, one_named js keeps.other); apart = all_apart kind js served keeps.other keeps.running.apart };
  }
