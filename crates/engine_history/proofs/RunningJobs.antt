-- Legal entries keep the jobs that have items out apart and few.
use Rattle.std.proofs.Common.{◌≡◌, ◌≢◌, ℕ, zero, suc, ◌+◌, ◌<◌, ◌≤◌, ◌⊎◌, inl, inr, Bool, true, false, cond, ◌||◌, List, [], ◌∷◌, length, refl, sym, ap, ◌∙◌, subst, arith, ltb as nat_lt, zero-add}
use Rattle.std.proofs.lemmas.Bool.Decides.{nat_tests}
use Rattle.std.proofs.lemmas.List.Sums.{sum_by-cons}
use Rattle.std.specs.List.{AllByRecursion, count_by, filter, list_all, list_any}
use Rattle.job_rules.specs.Kinds.{sets_of}
use Rattle.job_rules.specs.Rank.{shares}
use Rattle.job_rules.specs.declared.job.JobId.{JobId}
use Rattle.checkpoints.specs.declared.checkpoint.ItemSaved.{ItemSaved}
use Rattle.checkpoints.specs.declared.checkpoint.ItemSaved.TheVariants.{ToDo, Out, Whole, Lost, Short}
use Rattle.engine_history.specs.Items.{at_item, come_to, given_back, has_ended, is_out, new_items}
use Rattle.engine_history.specs.Jobs.{at_job, is_job}
use Rattle.engine_history.specs.JobsWithItemsOut.{AllApart, AreRunning, RunApart, has_out}
use Rattle.engine_history.specs.declared.job.JobState.{JobState}

-- ---- items

pub any-count : (items : List ItemSaved) → nat_lt 0 (count_by is_out items) ≡ list_any is_out items
any-count [] = refl
any-count (i ∷ is) =
    ap (λ n. nat_lt 0 n) (sum_by-cons (λ x. cond (is_out x) 1 0) i is)
    ∙ elim (is_out i) as (λ t. nat_lt 0 (cond t 1 0 + count_by is_out is) ≡ t || list_any is_out is) [
      | true ↦ some (count_by is_out is)
      | false ↦ ap (λ n. nat_lt 0 n) (zero-add (count_by is_out is)) ∙ any-count is
    ]
  where
    some : (n : ℕ) → nat_lt 0 (1 + n) ≡ true
    some n = grind (arith, nat_tests)

-- a change after which an item is out only where it was
abbrev pub IsLower : (ItemSaved → ItemSaved) → Type 0
IsLower change = (i : ItemSaved) → is_out (change i) ≡ true → is_out i ≡ true

or_cases : (x y : Bool) → x || y ≡ true → (x ≡ true) ⊎ (y ≡ true)
or_cases true y h = inl refl
or_cases false y h = inr h

or_left : (x y : Bool) → x ≡ true → x || y ≡ true
or_left x y h = ap (λ t. t || y) h

or_right : (x y : Bool) → y ≡ true → x || y ≡ true
or_right true y h = refl
or_right false y h = h

pub lower-at_item : (item : ℕ) (change : ItemSaved → ItemSaved) (items : List ItemSaved) → IsLower change → list_any is_out (at_item item change items) ≡ true → list_any is_out items ≡ true
lower-at_item item change [] lower some = some
lower-at_item zero change (i ∷ is) lower some =
    elim (or_cases (is_out (change i)) (list_any is_out is) some) [ inl here ↦ or_left (is_out i) (list_any is_out is) (lower i here) | inr later ↦ or_right (is_out i) (list_any is_out is) later ]
lower-at_item (suc item) change (i ∷ is) lower some =
    elim (or_cases (is_out i) (list_any is_out (at_item item change is)) some) [
      | inl here ↦ or_left (is_out i) (list_any is_out is) here
      | inr later ↦ or_right (is_out i) (list_any is_out is) (lower-at_item item change is lower later)
    ]

pub lower-come_to : (n : ℕ) → IsLower (come_to n)
lower-come_to n (ToDo k) out = out
lower-come_to n (Out k) out = out
lower-come_to n Whole out = out
lower-come_to n Lost out = out
lower-come_to n Short out = out

pub lower-given_back : (n : ℕ) → IsLower (given_back n)
lower-given_back n i out = absurd cc

pub none-new_items : (n : ℕ) → list_any is_out (new_items n) ≡ false
none-new_items zero = refl
none-new_items (suc n) = none-new_items n

pub none-ended : (items : List ItemSaved) → list_all has_ended items ≡ true → list_any is_out items ≡ false
none-ended [] all = refl
none-ended (ToDo n ∷ is) all = absurd cc
none-ended (Out n ∷ is) all = absurd cc
none-ended (Whole ∷ is) all = none-ended is all
none-ended (Lost ∷ is) all = none-ended is all
none-ended (Short ∷ is) all = none-ended is all

-- ---- jobs

-- the two are different jobs, started one after the other
pub record AreOther (j k : JobState) : Type 0 where
  pub number : j.job.number ≢ k.job.number
  pub order : j.order ≢ k.order

abbrev pub AllOther : List JobState → Type 0
AllOther [] = Unit {0}
AllOther (j ∷ js) = AllByRecursion (AreOther j) js × AllOther js

-- a finished job has no item out
abbrev pub IsIdle : JobState → Type 0
IsIdle j = j.finished ≡ true → has_out j ≡ false

-- what the jobs of a legal log keep
pub record Keeps (jobs : List JobState) : Type 0 where
  pub other : AllOther jobs
  pub below : AllByRecursion (λ j. j.order < length jobs) jobs
  pub idle : AllByRecursion IsIdle jobs
  pub running : AreRunning jobs

-- the job k is j with no item out that was not: it is the same job
pub record IsLowered (j k : JobState) : Type 0 where
  pub number : k.job.number ≡ j.job.number
  pub order : k.order ≡ j.order
  pub kind : k.kind ≡ j.kind
  pub out : has_out k ≡ true → has_out j ≡ true
  pub idle : IsIdle j → IsIdle k

abbrev pub AreLowered : List JobState → List JobState → Type 0
AreLowered [] [] = Unit {0}
AreLowered [] (k ∷ ks) = ⊥
AreLowered (j ∷ js) [] = ⊥
AreLowered (j ∷ js) (k ∷ ks) = IsLowered j k × AreLowered js ks

pub itself : (j : JobState) → IsLowered j j
itself j = record { number = refl; order = refl; kind = refl; out = λ h. h; idle = λ h. h }

pub lowered-at_job : (job : JobId) (change : JobState → JobState) (jobs : List JobState) → AllByRecursion (λ j. is_job job j ≡ true → IsLowered j (change j)) jobs → AreLowered jobs (at_job job change jobs)
lowered-at_job job change [] so = tt
lowered-at_job job change (j ∷ js) so = (
  elim (is_job job j) as (λ t. is_job job j ≡ t → IsLowered j (cond t (change j) j)) [ true ↦ λ named. so.0 named | false ↦ λ _. itself j ] refl,
  lowered-at_job job change js so.1,
)

other_lowered : (j k : JobState) (js ks : List JobState) → IsLowered j k → AreLowered js ks → AllByRecursion (AreOther j) js → AllByRecursion (AreOther k) ks
other_lowered j k [] [] l ls all = tt
other_lowered j k [] (y ∷ ys) l ls all = absurd ls
other_lowered j k (x ∷ xs) [] l ls all = absurd ls
other_lowered j k (x ∷ xs) (y ∷ ys) l ls all = (
  record { number = λ same. all.0.number (sym l.number ∙ same ∙ ls.0.number); order = λ same. all.0.order (sym l.order ∙ same ∙ ls.0.order) },
  other_lowered j k xs ys l ls.1 all.1,
)

apart_lowered : (j k : JobState) (js ks : List JobState) → IsLowered j k → AreLowered js ks → AllByRecursion (RunApart j) js → AllByRecursion (RunApart k) ks
apart_lowered j k [] [] l ls all = tt
apart_lowered j k [] (y ∷ ys) l ls all = absurd ls
apart_lowered j k (x ∷ xs) [] l ls all = absurd ls
apart_lowered j k (x ∷ xs) (y ∷ ys) l ls all = (
  λ one two. ap (λ kind. shares (sets_of kind) (sets_of y.kind)) l.kind ∙ ap (λ kind. shares (sets_of j.kind) (sets_of kind)) ls.0.kind ∙ all.0 (l.out one) (ls.0.out two),
  apart_lowered j k xs ys l ls.1 all.1,
)

all_other : (js ks : List JobState) → AreLowered js ks → AllOther js → AllOther ks
all_other [] [] ls all = tt
all_other [] (k ∷ ks) ls all = absurd ls
all_other (j ∷ js) [] ls all = absurd ls
all_other (j ∷ js) (k ∷ ks) ls all = (other_lowered j k js ks ls.0 ls.1 all.0, all_other js ks ls.1 all.1)

all_apart : (js ks : List JobState) → AreLowered js ks → AllApart js → AllApart ks
all_apart [] [] ls all = tt
all_apart [] (k ∷ ks) ls all = absurd ls
all_apart (j ∷ js) [] ls all = absurd ls
all_apart (j ∷ js) (k ∷ ks) ls all = (apart_lowered j k js ks ls.0 ls.1 all.0, all_apart js ks ls.1 all.1)

all_idle : (js ks : List JobState) → AreLowered js ks → AllByRecursion IsIdle js → AllByRecursion IsIdle ks
all_idle [] [] ls all = tt
all_idle [] (k ∷ ks) ls all = absurd ls
all_idle (j ∷ js) [] ls all = absurd ls
all_idle (j ∷ js) (k ∷ ks) ls all = (ls.0.idle all.0, all_idle js ks ls.1 all.1)

all_below : (n : ℕ) (js ks : List JobState) → AreLowered js ks → AllByRecursion (λ j. j.order < n) js → AllByRecursion (λ j. j.order < n) ks
all_below n [] [] ls all = tt
all_below n [] (k ∷ ks) ls all = absurd ls
all_below n (j ∷ js) [] ls all = absurd ls
all_below n (j ∷ js) (k ∷ ks) ls all = (subst (λ (m : ℕ). m < n) (sym ls.0.order) all.0, all_below n js ks ls.1 all.1)

same_length : (js ks : List JobState) → AreLowered js ks → length ks ≡ length js
same_length [] [] ls = refl
same_length [] (k ∷ ks) ls = absurd ls
same_length (j ∷ js) [] ls = absurd ls
same_length (j ∷ js) (k ∷ ks) ls = ap suc (same_length js ks ls.1)

no_more : (js ks : List JobState) → AreLowered js ks → length (filter has_out ks) ≤ length (filter has_out js)
no_more [] [] ls = omega arith
no_more [] (k ∷ ks) ls = absurd ls
no_more (j ∷ js) [] ls = absurd ls
no_more (j ∷ js) (k ∷ ks) ls =
    let rest = no_more js ks ls.1 in
    elim (has_out k) as (λ t. has_out k ≡ t → length (cond t (k ∷ filter has_out ks) (filter has_out ks)) ≤ length (filter has_out (j ∷ js))) [
      | true ↦ λ out. subst (λ (t : Bool). suc (length (filter has_out ks)) ≤ length (cond t (j ∷ filter has_out js) (filter has_out js))) (sym (ls.0.out out)) (omega arith)
      | false ↦ λ _. elim (has_out j) as (λ t. length (filter has_out ks) ≤ length (cond t (j ∷ filter has_out js) (filter has_out js))) [ true ↦ omega arith | false ↦ rest ]
    ] refl

-- jobs that are lowered keep what they kept
pub keeps-lowered : (js ks : List JobState) → AreLowered js ks → Keeps js → Keeps ks
keeps-lowered js ks ls keeps = record {
  other = all_other js ks ls keeps.other;
  below = subst (λ (n : ℕ). AllByRecursion (λ j. j.order < n) ks) (sym (same_length js ks ls)) (all_below (length js) js ks ls keeps.below);
  idle = all_idle js ks ls keeps.idle;
  running = record { few = few; apart = all_apart js ks ls keeps.running.apart };
}
  where
    few : length (filter has_out ks) ≤ 3
    few = omega (arith, no_more js ks ls, keeps.running.few)
