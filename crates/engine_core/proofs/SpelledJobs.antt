-- The jobs of an engine can be spelled.
use Rattle.std.proofs.Common.{◌≡◌, ◌≢◌, ℕ, suc, ◌+◌, ◌<◌, ◌≤◌, inl, inr, Bool, true, false, cond, not, ◌&&◌, ◌||◌, List, [], ◌∷◌, length, Option, Some, None, refl, sym, ap, ◌∙◌, subst, arith, nat_lt}
use Rattle.std.proofs.lemmas.Bool.{cases_eq}
use Rattle.std.proofs.lemmas.Bool.Decides.{nat_tests}
use Rattle.std.proofs.lemmas.List.{nil_from_length}
use Rattle.std.specs.Prelude.{IsSome}
use Rattle.std.specs.List.{AllByRecursion, list_all}
use Rattle.checkpoints.specs.Saved.{AreJobs, IsCheckpoint, IsJob}
use Rattle.checkpoints.specs.declared.checkpoint.JobSaved.{JobSaved}
use Rattle.checkpoints.specs.declared.checkpoint.ItemSaved.{ItemSaved}
use Rattle.job_rules.specs.Kinds.{phase_at}
use Rattle.job_rules.specs.declared.phase.Phase.{Phase}
use Rattle.engine_history.specs.Items.{count_out, has_ended}
use Rattle.engine_history.specs.Jobs.{Field, is_active, items_in}
use Rattle.engine_history.specs.Steps.{due}
use Rattle.engine_history.specs.declared.job.JobState.{JobState}
use Rattle.job_log.specs.Jobs.{AreApart, AreOrderedFrom, AreSound, IsField, IsSound}
use Rattle.engine_core.specs.SavedJobs.{checkpoint_of, put, saved_from, saved_of}
use Rattle.engine_core.proofs.CountedItems.{AreCounted, IsCounted, few_in}
use Rattle.engine_core.proofs.DueJobs.{AreHeld, held-due, is_held}

abbrev Saved : Type 0
Saved = List JobSaved

-- ---- one job

clash : {t : Bool} → t ≡ true → t ≡ false → ⊥
clash passes fails = cc

-- an active job of which nothing is due has items
some_items : (j : JobState) → is_active j ≡ true → is_held j ≡ true → j.items ≡ [] → ⊥
some_items j active held none =
    none_left j.finished j.cancelled (subst (λ (is : List ItemSaved). not j.finished && (not j.cancelled || nat_lt 0 (count_out is)) ≡ true) none active) (subst (λ (is : List ItemSaved). (j.finished || j.cancelled) || not (list_all has_ended is) ≡ true) none held)
  where
    none_left : (f c : Bool) → not f && (not c || false) ≡ true → (f || c) || false ≡ true → ⊥
    none_left true c one two = absurd cc
    none_left false true one two = absurd cc
    none_left false false one two = absurd cc

pub is_spelled : (field : Field) (started : ℕ) (j : JobState) → IsField field → IsSound j → IsCounted field j → is_active j ≡ true → is_held j ≡ true → j.order < started → IsJob started 0 (saved_of j)
is_spelled field started j limits sound counted active held order = record {
  job = omega arith;
  number = sound.number;
  some_priority = sound.some_priority;
  priority = sound.priority;
  order = order;
  phase = some_phase (phase_at j.kind j.phase) refl;
  bars = sound.bars;
  count = subst (λ n. n ≤ 256) (sym counted) (few_in field j.bars (phase_at j.kind j.phase) limits sound.bars);
  items = sound.items;
}
  where
    some_phase : (p : Option Phase) → phase_at j.kind j.phase ≡ p → IsSome p
    some_phase None at = absurd (some_items j active held (nil_from_length j.items (counted ∙ ap (λ o. length (items_in field j.bars o)) at)))
    some_phase (Some x) at = refl

raise : (started least more : ℕ) (s : JobSaved) → more ≤ s.job.number → IsJob started least s → IsJob started more s
raise started least more s from h = record { job = from; number = h.number; some_priority = h.some_priority; priority = h.priority; order = h.order; phase = h.phase; bars = h.bars; count = h.count; items = h.items }

-- ---- jobs put in order

lt_from : (m n : ℕ) → nat_lt m n ≡ true → m < n
lt_from m n test = grind (arith, nat_tests)

not_lt_from : (m n : ℕ) → nat_lt m n ≡ false → n ≤ m
not_lt_from m n test = grind (arith, nat_tests)

abbrev DiffersFrom : JobSaved → JobSaved → Type 0
DiffersFrom s t = t.job.number ≢ s.job.number

jobs-put : (started least : ℕ) (s : JobSaved) (saved : Saved) → IsJob started least s → AreJobs started least saved → AllByRecursion (DiffersFrom s) saved → AreJobs started least (put s saved)
jobs-put started least s [] here all differ = (here, tt)
jobs-put started least s (t ∷ ts) here all differ =
    elim (nat_lt t.job.number s.job.number) as (λ b. nat_lt t.job.number s.job.number ≡ b → AreJobs started least (cond b (t ∷ put s ts) (s ∷ t ∷ ts))) [
      | true ↦ λ before. (all.0, jobs-put started (t.job.number + 1) s ts (raise started least (t.job.number + 1) s (above before) here) all.1 differ.1)
      | false ↦ λ behind. (here, (raise started least (s.job.number + 1) t (past behind) all.0, all.1))
    ] refl
  where
    above : nat_lt t.job.number s.job.number ≡ true → t.job.number + 1 ≤ s.job.number
    above before = let under = lt_from t.job.number s.job.number before in omega (arith, under)

    past : nat_lt t.job.number s.job.number ≡ false → s.job.number + 1 ≤ t.job.number
    past behind = let over = not_lt_from t.job.number s.job.number behind in let other = differ.0 in strictly t.job.number s.job.number over other
      where
        strictly : (m n : ℕ) → n ≤ m → m ≢ n → n + 1 ≤ m
        strictly m n over other = elim (cases_eq m n) [ inl same ↦ absurd (other same) | inr _ ↦ omega arith ]

all-put : (P : JobSaved → Type 0) (s : JobSaved) (saved : Saved) → P s → AllByRecursion P saved → AllByRecursion P (put s saved)
all-put P s [] here all = (here, tt)
all-put P s (t ∷ ts) here all =
    elim (nat_lt t.job.number s.job.number) as (λ b. AllByRecursion P (cond b (t ∷ put s ts) (s ∷ t ∷ ts))) [ true ↦ (all.0, all-put P s ts here all.1) | false ↦ (here, all) ]

length-put : (s : JobSaved) (saved : Saved) → length (put s saved) ≡ suc (length saved)
length-put s [] = refl
length-put s (t ∷ ts) =
    elim (nat_lt t.job.number s.job.number) as (λ b. length (cond b (t ∷ put s ts) (s ∷ t ∷ ts)) ≡ suc (suc (length ts))) [ true ↦ ap suc (length-put s ts) | false ↦ refl ]

-- none of the jobs is saved yet
abbrev NoneOf : List JobState → Saved → Type 0
NoneOf jobs saved = AllByRecursion (λ (j : JobState). AllByRecursion (DiffersFrom (saved_of j)) saved) jobs

none-put : (j : JobState) (js : List JobState) (saved : Saved) → AllByRecursion (λ (k : JobState). j.job.number ≢ k.job.number) js → NoneOf js saved → NoneOf js (put (saved_of j) saved)
none-put j [] saved other none = tt
none-put j (k ∷ ks) saved other none = (all-put (DiffersFrom (saved_of k)) (saved_of j) saved other.0 none.0, none-put j ks saved other.1 none.1)

saved_are : (field : Field) (started n : ℕ) (jobs : List JobState) (saved : Saved) → IsField field → AreSound jobs → AreCounted field jobs → AreHeld jobs → AreApart jobs → AreOrderedFrom n jobs → n + length jobs ≤ started
    → NoneOf jobs saved → AreJobs started 0 saved → AreJobs started 0 (saved_from jobs saved)
saved_are field started n [] saved limits sound counted held apart ordered within none all = all
saved_are field started n (j ∷ js) saved limits sound counted held apart ordered within none all =
    elim (is_active j) as (λ t. is_active j ≡ t → AreJobs started 0 (saved_from js (cond t (put (saved_of j) saved) saved))) [
      | true ↦ λ active.
          saved_are field started (suc n) js (put (saved_of j) saved) limits sound.1 counted.1 held.1 apart.1 ordered.1 (omega (arith, within)) (none-put j js saved apart.0 none.1)
          (jobs-put started 0 (saved_of j) saved (is_spelled field started j limits sound.0 counted.0 active held.0 (below ordered.0)) all none.0)
      | false ↦ λ _. saved_are field started (suc n) js saved limits sound.1 counted.1 held.1 apart.1 ordered.1 (omega (arith, within)) none.1 all
    ] refl
  where
    below : j.order ≡ n → j.order < started
    below is = omega (arith, is, within)

saved_few : (jobs : List JobState) (saved : Saved) → length (saved_from jobs saved) ≤ length saved + length jobs
saved_few [] saved = omega arith
saved_few (j ∷ js) saved =
    elim (is_active j) as (λ t. length (saved_from js (cond t (put (saved_of j) saved) saved)) ≤ length saved + suc (length js)) [
      | true ↦ let rest = saved_few js (put (saved_of j) saved) in let one = length-put (saved_of j) saved in omega (arith, rest, one)
      | false ↦ let rest = saved_few js saved in omega (arith, rest)
    ]

none_yet : (jobs : List JobState) → NoneOf jobs []
none_yet [] = tt
none_yet (j ∷ js) = (tt, none_yet js)

pub checkpoint_is : (field : Field) (jobs : List JobState) → IsField field → AreSound jobs → AreCounted field jobs → due jobs ≡ None → AreApart jobs → AreOrderedFrom 0 jobs → length jobs ≤ 64 → IsCheckpoint (checkpoint_of jobs)
checkpoint_is field jobs limits sound counted none apart ordered few = record {
  started = few;
  count = let most = saved_few jobs [] in omega (arith, most, few);
  jobs = saved_are field (length jobs) 0 jobs [] limits sound counted (held-due jobs none) apart ordered (omega arith) (none_yet jobs) tt;
}
