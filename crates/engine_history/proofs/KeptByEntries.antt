-- What each entry but a hand-out keeps of the jobs that have items out.
use Rattle.std.proofs.Common.{◌≡◌, ◌≢◌, ℕ, ◌+◌, ◌<◌, ◌≤◌, ◌⊎◌, inl, inr, Bool, true, false, cond, not, ◌||◌, List, [], ◌∷◌, ◌++◌, length, length-append, Option, Some, None, refl, sym, ap, ◌∙◌, subst, arith, nat_eq, eq-eqb}
use Rattle.std.proofs.lemmas.Bool.Decides.{nat_tests}
use Rattle.std.proofs.lemmas.List.{append-nil}
use Rattle.std.proofs.lemmas.List.Elements.{filter-append}
use Rattle.std.specs.List.{AllByRecursion, filter, list_all, list_any}
use Rattle.domains.specs.declared.drive_set.DriveSet.{DriveSet}
use Rattle.job_rules.specs.Kinds.{phase_at}
use Rattle.job_rules.specs.Phases.{items_of}
use Rattle.job_rules.specs.declared.job.JobId.{JobId}
use Rattle.job_rules.specs.declared.phase.Phase.{Phase}
use Rattle.checkpoints.specs.declared.checkpoint.ItemSaved.{ItemSaved}
use Rattle.engine_history.specs.Items.{at_item, has_ended, is_out}
use Rattle.engine_history.specs.Jobs.{Field, at_job, count_of, in_next_phase, is_job, is_started, items_in, ordered, with_items}
use Rattle.engine_history.specs.JobsWithItemsOut.{AllApart, RunApart, has_out}
use Rattle.engine_history.specs.Steps.{due, end_of_phase, or_due}
use Rattle.engine_history.specs.declared.entry.EngineEvent.TheVariants as event
use Rattle.engine_history.specs.declared.entry.Finished.{Finished}
use Rattle.engine_history.specs.declared.entry.JobOrder.{JobOrder}
use Rattle.engine_history.specs.declared.entry.JobOrder.TheVariants.{Pause, Resume, Cancel}
use Rattle.engine_history.specs.declared.job.JobState.{JobState}
use Rattle.engine_history.proofs.RunningJobs.{AllOther, AreOther, IsIdle, IsLower, IsLowered, Keeps, keeps-lowered, lower-at_item, lowered-at_job, none-ended, none-new_items}

pub clash : (t : Bool) → t ≡ false → t ≡ true → ⊥
clash t fails passes = cc

-- ---- a job that starts

pub none-items_in : (field : Field) (bars : DriveSet) (phase : Option Phase) → list_any is_out (items_in field bars phase) ≡ false
none-items_in field bars None = refl
none-items_in field bars (Some phase) = none-new_items (count_of field bars (items_of phase))

all_last : (P : JobState → Type 0) (jobs : List JobState) (j : JobState) → AllByRecursion P jobs → P j → AllByRecursion P (jobs ++ j ∷ [])
all_last P [] j all here = (here, tt)
all_last P (x ∷ xs) j all here = (all.0, all_last P xs j all.1 here)

all_so : (P Q : JobState → Type 0) → ((j : JobState) → P j → Q j) → (jobs : List JobState) → AllByRecursion P jobs → AllByRecursion Q jobs
all_so P Q so [] all = tt
all_so P Q so (j ∷ js) all = (so j all.0, all_so P Q so js all.1)

pub every : (P : JobState → Type 0) → ((j : JobState) → P j) → (jobs : List JobState) → AllByRecursion P jobs
every P so [] = tt
every P so (j ∷ js) = (so j, every P so js)

not_first : (x y : Bool) → x || y ≡ false → x ≡ false
not_first true y h = absurd cc
not_first false y h = refl

not_second : (x y : Bool) → x || y ≡ false → y ≡ false
not_second true y h = absurd cc
not_second false y h = h

differs : (a b : ℕ) → nat_eq a b ≡ false → a ≢ b
differs a b test same = let yes : nat_eq a b ≡ true = eq-eqb a b same in cc

new_other : (j : JobState) (n : ℕ) (jobs : List JobState) → is_started j.job jobs ≡ false → j.order ≡ n → AllByRecursion (λ x. x.order < n) jobs → AllByRecursion (λ x. AreOther x j) jobs
new_other j n [] fresh order below = tt
new_other j n (x ∷ xs) fresh order below =
    let under : x.order < n = below.0 in (
      record { number = differs x.job.number j.job.number (not_first (is_job j.job x) (is_started j.job xs) fresh); order = λ same. absurd (omega arith) },
      new_other j n xs (not_second (is_job j.job x) (is_started j.job xs) fresh) order below.1,
    )

other_last : (j : JobState) (jobs : List JobState) → AllOther jobs → AllByRecursion (λ x. AreOther x j) jobs → AllOther (jobs ++ j ∷ [])
other_last j [] all here = (tt, tt)
other_last j (x ∷ xs) all here = (all_last (AreOther x) xs j all.0 here.0, other_last j xs all.1 here.1)

apart_last : (j : JobState) (jobs : List JobState) → has_out j ≡ false → AllApart jobs → AllApart (jobs ++ j ∷ [])
apart_last j [] none all = (tt, tt)
apart_last j (x ∷ xs) none all = (all_last (RunApart x) xs j all.0 (λ one two. absurd (clash (has_out j) none two)), apart_last j xs none all.1)

pub keeps-start : (jobs : List JobState) (j : JobState) → Keeps jobs → is_started j.job jobs ≡ false → j.order ≡ length jobs → has_out j ≡ false → Keeps (jobs ++ j ∷ [])
keeps-start jobs j keeps fresh order none =
    let one_more : length (jobs ++ j ∷ []) ≡ length jobs + 1 = length-append jobs (j ∷ []) in
    let no_more : filter has_out (jobs ++ j ∷ []) ≡ filter has_out jobs ++ [] = filter-append has_out jobs (j ∷ []) ∙ ap (λ t. filter has_out jobs ++ cond t (j ∷ []) []) none in
    record {
      other = other_last j jobs keeps.other (new_other j (length jobs) jobs fresh order keeps.below);
      below = subst (λ n. AllByRecursion (λ x. x.order < n) (jobs ++ j ∷ [])) (sym one_more)
          (all_last (λ x. x.order < length jobs + 1) jobs j (all_so (λ x. x.order < length jobs) (λ x. x.order < length jobs + 1) (λ x under. omega arith) jobs keeps.below) (omega arith));
      idle = all_last IsIdle jobs j keeps.idle (λ _. none);
      running = record {
        few = subst (λ (xs : List JobState). length xs ≤ 3) (sym (no_more ∙ append-nil (filter has_out jobs))) keeps.running.few;
        apart = apart_last j jobs none keeps.running.apart;
      };
    }

-- ---- what lowers

items_lowered : (change : List ItemSaved → List ItemSaved) (j : JobState) → (list_any is_out (change j.items) ≡ true → has_out j ≡ true) → IsLowered j (with_items change j)
items_lowered change j lower = record { number = refl; order = refl; kind = refl; out = lower; idle = λ h done. still (list_any is_out (change j.items)) (λ some. clash (has_out j) (h done) (lower some)) }
  where
    still : (t : Bool) → (t ≡ true → ⊥) → t ≡ false
    still true none = absurd (none refl)
    still false none = refl

pub keeps-item : (job : JobId) (item : ℕ) (change : ItemSaved → ItemSaved) (jobs : List JobState) → IsLower change → Keeps jobs → Keeps (at_job job (with_items (at_item item change)) jobs)
keeps-item job item change jobs lower keeps =
    keeps-lowered jobs (at_job job (with_items (at_item item change)) jobs)
    (lowered-at_job job (with_items (at_item item change)) jobs
    (every (λ j. is_job job j ≡ true → IsLowered j (with_items (at_item item change) j)) (λ j _. items_lowered (at_item item change) j (lower-at_item item change j.items lower)) jobs))
    keeps

ordered_lowered : (order : JobOrder) (j : JobState) → IsLowered j (ordered order j)
ordered_lowered Pause j = record { number = refl; order = refl; kind = refl; out = λ h. h; idle = λ h. h }
ordered_lowered Resume j = record { number = refl; order = refl; kind = refl; out = λ h. h; idle = λ h. h }
ordered_lowered Cancel j = record { number = refl; order = refl; kind = refl; out = λ h. h; idle = λ h. h }

pub keeps-order : (job : JobId) (order : JobOrder) (jobs : List JobState) → Keeps jobs → Keeps (at_job job (ordered order) jobs)
keeps-order job order jobs keeps =
    keeps-lowered jobs (at_job job (ordered order) jobs) (lowered-at_job job (ordered order) jobs (every (λ j. is_job job j ≡ true → IsLowered j (ordered order j)) (λ j _. ordered_lowered order j) jobs)) keeps

next_lowered : (field : Field) (j : JobState) → IsLowered j (in_next_phase field j)
next_lowered field j =
    let none : list_any is_out (items_in field j.bars (phase_at j.kind (j.phase + 1))) ≡ false = none-items_in field j.bars (phase_at j.kind (j.phase + 1)) in
    record { number = refl; order = refl; kind = refl; out = λ some. absurd (clash (list_any is_out (items_in field j.bars (phase_at j.kind (j.phase + 1)))) none some); idle = λ _ _. none }

pub keeps-phase : (field : Field) (job : JobId) (jobs : List JobState) → Keeps jobs → Keeps (at_job job (in_next_phase field) jobs)
keeps-phase field job jobs keeps =
    keeps-lowered jobs (at_job job (in_next_phase field) jobs) (lowered-at_job job (in_next_phase field) jobs (every (λ j. is_job job j ≡ true → IsLowered j (in_next_phase field j)) (λ j _. next_lowered field j) jobs)) keeps

-- ---- the finish, where it is due

abbrev pub IsAmong : JobState → List JobState → Type 0
IsAmong a [] = ⊥
IsAmong a (j ∷ js) = (a ≡ j) ⊎ IsAmong a js

pub among_all : (P : JobState → Type 0) (jobs : List JobState) (a : JobState) → AllByRecursion P jobs → IsAmong a jobs → P a
among_all P [] a all among = absurd among
among_all P (j ∷ js) a all among = elim among [ inl here ↦ subst P (sym here) all.0 | inr later ↦ among_all P js a all.1 later ]

pub all_among : (P : JobState → Type 0) (jobs all : List JobState) → ((a : JobState) → IsAmong a jobs → IsAmong a all) → ((a : JobState) → IsAmong a all → P a) → AllByRecursion P jobs
all_among P [] all within so = tt
all_among P (j ∷ js) all within so = (so j (within j (inl refl)), all_among P js all (λ a among. within a (inr among)) so)

pub one_job : (jobs : List JobState) (a b : JobState) → AllOther jobs → IsAmong a jobs → IsAmong b jobs → a.job.number ≡ b.job.number → a ≡ b
one_job [] a b other one two same = absurd one
one_job (j ∷ js) a b other one two same =
    elim one [
      | inl a_is ↦ elim two [
        | inl b_is ↦ a_is ∙ sym b_is
        | inr b_later ↦ absurd ((among_all (AreOther j) js b other.0 b_later).number (ap (λ (x : JobState). x.job.number) (sym a_is) ∙ same))
      ]
      | inr a_later ↦ elim two [
        | inl b_is ↦ absurd ((among_all (AreOther j) js a other.0 a_later).number (ap (λ (x : JobState). x.job.number) (sym b_is) ∙ sym same))
        | inr b_later ↦ one_job js a b other.1 a_later b_later same
      ]
    ]

-- the job that is due to finish has no item out
record IsDue (job : JobId) (jobs : List JobState) : Type 0 where
  state : JobState
  among : IsAmong state jobs
  named : state.job ≡ job
  idle : has_out state ≡ false

finish_of : (j : JobState) (phase : Option Phase) (job : JobId) (result : Finished) → end_of_phase j phase ≡ event.Finish job result → j.job ≡ job
finish_of j None job result same = cc
finish_of j (Some phase) job result same = absurd cc

due_finish : (jobs : List JobState) (job : JobId) (result : Finished) → due jobs ≡ Some (event.Finish job result) → IsDue job jobs
due_finish [] job result is_due = absurd cc
due_finish (j ∷ js) job result is_due =
    elim ((j.finished || j.cancelled) || not (list_all has_ended j.items)) as (λ t. (j.finished || j.cancelled) || not (list_all has_ended j.items) ≡ t
    → or_due (cond t None (Some (end_of_phase j (phase_at j.kind j.phase)))) (due js) ≡ Some (event.Finish job result) → IsDue job (j ∷ js)) [
      | true ↦ λ _ later. let d = due_finish js job result later in record { state = d.state; among = inr d.among; named = d.named; idle = d.idle }
      | false ↦ λ ready now.
          let same : end_of_phase j (phase_at j.kind j.phase) ≡ event.Finish job result = cc in
          let ended_all : list_all has_ended j.items ≡ true = not_not (list_all has_ended j.items) (not_second (j.finished || j.cancelled) (not (list_all has_ended j.items)) ready) in
          record { state = j; among = inl refl; named = finish_of j (phase_at j.kind j.phase) job result same; idle = none-ended j.items ended_all }
    ] refl is_due
  where
    not_not : (t : Bool) → not t ≡ false → t ≡ true
    not_not true h = refl
    not_not false h = absurd cc

pub keeps-finish : (jobs : List JobState) (job : JobId) (result : Finished) → Keeps jobs → due jobs ≡ Some (event.Finish job result) → Keeps (at_job job (λ j. record j { finished = true }) jobs)
keeps-finish jobs job result keeps is_due =
    let d = due_finish jobs job result is_due in
    keeps-lowered jobs (at_job job (λ j. record j { finished = true }) jobs)
    (lowered-at_job job (λ j. record j { finished = true }) jobs
    (all_among (λ j. is_job job j ≡ true → IsLowered j (record j { finished = true })) jobs jobs (λ a among. among)
    (λ j among named. record {
      number = refl;
      order = refl;
      kind = refl;
      out = λ h. h;
      idle = λ _ _. subst (λ (x : JobState). has_out x ≡ false) (one_job jobs d.state j keeps.other d.among among (ap (λ (x : JobId). x.number) d.named ∙ sym (number_is job j named))) d.idle;
    })))
    keeps
  where
    number_is : (job : JobId) (j : JobState) → is_job job j ≡ true → j.job.number ≡ job.number
    number_is job j named = grind (arith, nat_tests)
