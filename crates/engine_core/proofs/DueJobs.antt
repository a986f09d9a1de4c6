-- What is due, where one job changes.
use Rattle.std.proofs.Common.{◌≡◌, ℕ, zero, suc, ◌+◌, ◌*◌, ◌≤◌, ◌⊎◌, inl, inr, Bool, true, false, cond, not, ◌&&◌, ◌||◌, List, [], ◌∷◌, ◌++◌, length, Option, Some, None, refl, sym, ap, ◌∙◌, subst, arith, lit≤}
use Rattle.std.specs.List.{AllByRecursion, list_all}
use Rattle.domains.specs.declared.drive_set.DriveSet.{DriveSet}
use Rattle.job_rules.specs.Kinds.{phase_at, phase_in, phases_of}
use Rattle.job_rules.specs.declared.job.JobId.{JobId}
use Rattle.job_rules.specs.declared.kind.JobKind.{JobKind}
use Rattle.job_rules.specs.declared.kind.JobKind.TheVariants.{FlexProtect, AutoBalance, SetProtectPlus, Collect, MultiScan, Upgrade, IntegrityScan, MediaScan, SmartPools, SyncCopy}
use Rattle.job_rules.specs.declared.phase.Phase.{Phase}
use Rattle.checkpoints.specs.declared.checkpoint.ItemSaved.{ItemSaved}
use Rattle.checkpoints.specs.declared.checkpoint.ItemSaved.TheVariants.{ToDo, Out, Whole, Lost, Short}
use Rattle.engine_history.specs.Items.{come_to, given_back, handed_out, has_ended, items_from, new_items}
use Rattle.engine_history.specs.Jobs.{Field, at_job, in_next_phase, is_job, items_in, new_job, ordered, with_items}
use Rattle.engine_history.specs.Steps.{due, due_of, end_of_phase, or_due}
use Rattle.engine_history.specs.declared.entry.EngineEvent.{EngineEvent}
use Rattle.engine_history.specs.declared.entry.JobOrder.{JobOrder}
use Rattle.engine_history.specs.declared.entry.JobOrder.TheVariants.{Pause, Resume, Cancel}
use Rattle.engine_history.specs.declared.job.JobState.{JobState}
use Rattle.job_log.specs.Changes.{changed}
use Rattle.job_log.specs.Jobs.{IsField}
use Rattle.job_log.proofs.JobPlaces.{all-at_job}

-- nothing is due of the job: it is at its end, or an item of its phase has not ended
abbrev pub is_held : JobState → Bool
is_held j = (j.finished || j.cancelled) || not (list_all has_ended j.items)

pub none-held : (j : JobState) → is_held j ≡ true → due_of j ≡ None
none-held j held = ap (λ t. cond t None (Some (end_of_phase j (phase_at j.kind j.phase)))) held

pub held-none : (j : JobState) → due_of j ≡ None → is_held j ≡ true
held-none j none =
    elim (is_held j) as (λ t. cond t None (Some (end_of_phase j (phase_at j.kind j.phase))) ≡ None → t ≡ true) [ true ↦ λ _. refl | false ↦ λ some. absurd cc ] none

abbrev pub AreHeld : List JobState → Type 0
AreHeld jobs = AllByRecursion (λ (j : JobState). is_held j ≡ true) jobs

or_none : (a b : Option EngineEvent) → or_due a b ≡ None → (a ≡ None) × (b ≡ None)
or_none None b none = (refl, none)
or_none (Some e) b none = absurd cc

pub held-due : (jobs : List JobState) → due jobs ≡ None → AreHeld jobs
held-due [] none = tt
held-due (j ∷ js) none = let parts = or_none (due_of j) (due js) none in (held-none j parts.0, held-due js parts.1)

pub due-held : (jobs : List JobState) → AreHeld jobs → due jobs ≡ None
due-held [] held = refl
due-held (j ∷ js) held = ap (λ a. or_due a (due js)) (none-held j held.0) ∙ due-held js held.1

pub held-last : (jobs : List JobState) (j : JobState) → AreHeld jobs → is_held j ≡ true → AreHeld (jobs ++ j ∷ [])
held-last [] j all here = (here, tt)
held-last (x ∷ xs) j all here = (all.0, held-last xs j all.1 here)

-- ---- changes that leave nothing due

or_right : (x y : Bool) → y ≡ true → x || y ≡ true
or_right true y h = refl
or_right false y h = h

or_cases : (x y : Bool) → x || y ≡ true → (x ≡ true) ⊎ (y ≡ true)
or_cases true y h = inl refl
or_cases false y h = inr h

-- where some item had not ended, one still has not
ended-items_from : (first count : ℕ) (f : ItemSaved → ItemSaved) (items : List ItemSaved) → ((i : ItemSaved) → has_ended i ≡ false → has_ended (f i) ≡ false)
    → list_all has_ended items ≡ false → list_all has_ended (items_from first count f items) ≡ false
ended-items_from first zero f items keeps some = some
ended-items_from first (suc count) f [] keeps some = some
ended-items_from zero (suc count) f (i ∷ is) keeps some =
    elim (has_ended i) as (λ t. has_ended i ≡ t → t && list_all has_ended is ≡ false → has_ended (f i) && list_all has_ended (items_from 0 count f is) ≡ false) [
      | true ↦ λ _ later. and_right (has_ended (f i)) (list_all has_ended (items_from 0 count f is)) (ended-items_from zero count f is keeps later)
      | false ↦ λ here _. ap (λ t. t && list_all has_ended (items_from 0 count f is)) (keeps i here)
    ] refl some
  where
    and_right : (x y : Bool) → y ≡ false → x && y ≡ false
    and_right true y h = h
    and_right false y h = refl
ended-items_from (suc first) (suc count) f (i ∷ is) keeps some =
    elim (has_ended i) as (λ t. t && list_all has_ended is ≡ false → t && list_all has_ended (items_from first (suc count) f is) ≡ false) [
      | true ↦ λ later. ended-items_from first (suc count) f is keeps later
      | false ↦ λ _. refl
    ] some

not_ended-handed_out : (i : ItemSaved) → has_ended (handed_out i) ≡ false
not_ended-handed_out (ToDo next) = refl
not_ended-handed_out (Out next) = refl
not_ended-handed_out Whole = refl
not_ended-handed_out Lost = refl
not_ended-handed_out Short = refl

not_ended-come_to : (n : ℕ) (i : ItemSaved) → has_ended i ≡ false → has_ended (come_to n i) ≡ false
not_ended-come_to n (ToDo next) h = refl
not_ended-come_to n (Out next) h = refl
not_ended-come_to n Whole h = h
not_ended-come_to n Lost h = h
not_ended-come_to n Short h = h

held-items : (change : List ItemSaved → List ItemSaved) (j : JobState) → (list_all has_ended j.items ≡ false → list_all has_ended (change j.items) ≡ false) → is_held j ≡ true → is_held (with_items change j) ≡ true
held-items change j keeps held =
    elim (or_cases (j.finished || j.cancelled) (not (list_all has_ended j.items)) held) [
      | inl over ↦ ap (λ t. t || not (list_all has_ended (change j.items))) over
      | inr some ↦ or_right (j.finished || j.cancelled) (not (list_all has_ended (change j.items))) (ap not (keeps (not_true (list_all has_ended j.items) some)))
    ]
  where
    not_true : (t : Bool) → not t ≡ true → t ≡ false
    not_true true h = absurd cc
    not_true false h = refl

pub held-hand_out : (first count : ℕ) (j : JobState) → is_held j ≡ true → is_held (with_items (items_from first count handed_out) j) ≡ true
held-hand_out first count j held = held-items (items_from first count handed_out) j (ended-items_from first count handed_out j.items (λ i _. not_ended-handed_out i)) held

pub held-come_to : (item n : ℕ) (j : JobState) → is_held j ≡ true → is_held (with_items (items_from item 1 (come_to n)) j) ≡ true
held-come_to item n j held = held-items (items_from item 1 (come_to n)) j (ended-items_from item 1 (come_to n) j.items (not_ended-come_to n)) held

pub held-given_back : (item n : ℕ) (j : JobState) → is_held j ≡ true → is_held (with_items (items_from item 1 (given_back n)) j) ≡ true
held-given_back item n j held = held-items (items_from item 1 (given_back n)) j (ended-items_from item 1 (given_back n) j.items (λ i _. refl)) held

pub held-ordered : (order : JobOrder) (j : JobState) → is_held j ≡ true → is_held (ordered order j) ≡ true
held-ordered Pause j held = held
held-ordered Resume j held = held
held-ordered Cancel j held = ap (λ t. t || not (list_all has_ended j.items)) (or_right j.finished true refl)

pub held-at_job : (job : JobId) (f : JobState → JobState) (jobs : List JobState) → ((j : JobState) → is_held j ≡ true → is_held (f j) ≡ true) → due jobs ≡ None → due (at_job job f jobs) ≡ None
held-at_job job f jobs keeps none = due-held (at_job job f jobs) (all-at_job (λ (j : JobState). is_held j ≡ true) job f jobs (each jobs) (held-due jobs none))
  where
    each : (ks : List JobState) → AllByRecursion (λ (k : JobState). is_job job k ≡ true → is_held k ≡ true → is_held (f k) ≡ true) ks
    each [] = tt
    each (k ∷ ks) = ((λ _ held. keeps k held), each ks)

-- ---- new items

ended-new_items : (n : ℕ) → 1 ≤ n → list_all has_ended (new_items n) ≡ false
ended-new_items zero some = absurd (omega (arith, some))
ended-new_items (suc n) some = refl

-- the first phase of each kind goes over files
files_first : (field : Field) (bars : DriveSet) (kind : JobKind) → items_in field bars (phase_at kind 0) ≡ new_items field.files
files_first field bars FlexProtect = refl
files_first field bars AutoBalance = refl
files_first field bars SetProtectPlus = refl
files_first field bars Collect = refl
files_first field bars MultiScan = refl
files_first field bars Upgrade = refl
files_first field bars IntegrityScan = refl
files_first field bars MediaScan = refl
files_first field bars SmartPools = refl
files_first field bars SyncCopy = refl

pub held-new_job : (field : Field) (order : ℕ) (job : JobId) (kind : JobKind) (priority : ℕ) (bars : DriveSet) → IsField field → is_held (new_job field order job kind priority bars) ≡ true
held-new_job field order job kind priority bars limits = ap (λ items. not (list_all has_ended items)) (files_first field bars kind) ∙ ap not (ended-new_items field.files limits.some)

-- ---- the ends of phases and the finish

-- n entries that are due of the job, one after the other, and then nothing more
abbrev pub ClosesBy : (JobState → EngineEvent → JobState) → ℕ → JobState → Option EngineEvent → Type 0
ClosesBy next n j None = Unit {0}
ClosesBy next zero j (Some e) = ⊥
ClosesBy next (suc n) j (Some e) = ClosesBy next n (next j e) (due_of (next j e))

-- the job after an entry that is due
abbrev pub after_due : Field → JobState → EngineEvent → JobState
after_due field j e = changed field e j

abbrev pub Closes : ℕ → Field → JobState → Type 0
Closes n field j = ClosesBy (after_due field) n j (due_of j)

closes_finished : (n : ℕ) (field : Field) (j : JobState) → j.finished ≡ true → Closes n field j
closes_finished n field j done = subst (ClosesBy (after_due field) n j) (sym (none-held j (ap (λ t. (t || j.cancelled) || not (list_all has_ended j.items)) done))) tt

pub closes_held : (n : ℕ) (field : Field) (j : JobState) → is_held j ≡ true → Closes n field j
closes_held n field j held = subst (ClosesBy (after_due field) n j) (sym (none-held j held)) tt

phase_none : (phases : List Phase) (n : ℕ) → length phases ≤ n → phase_in phases n ≡ None
phase_none [] n past = refl
phase_none (p ∷ ps) zero past = absurd (omega (arith, past))
phase_none (p ∷ ps) (suc n) past = phase_none ps n (omega (arith, past))

-- one entry that is due: the finish, or the end of a phase
step : (n : ℕ) (field : Field) (j : JobState) → (p : Option Phase) → phase_at j.kind j.phase ≡ p
    → ((x : Phase) → p ≡ Some x → Closes n field (in_next_phase field j)) → Closes (suc n) field j
step n field j p is next =
    elim (is_held j) as (λ t. is_held j ≡ t → Closes (suc n) field j) [
      | true ↦ λ held. closes_held (suc n) field j held
      | false ↦ λ ready. subst (ClosesBy (after_due field) (suc n) j) (sym (ap (λ t. cond t None (Some (end_of_phase j (phase_at j.kind j.phase)))) ready ∙ ap (λ o. Some (end_of_phase j o)) is)) (ends p next)
    ] refl
  where
    ends : (o : Option Phase) → ((x : Phase) → o ≡ Some x → Closes n field (in_next_phase field j)) → ClosesBy (after_due field) (suc n) j (Some (end_of_phase j o))
    ends None so = closes_finished n field (record j { finished = true }) refl
    ends (Some x) so = so x refl

closes_left : (n : ℕ) (field : Field) (j : JobState) → length (phases_of j.kind) ≤ j.phase + n → Closes (suc n) field j
closes_left zero field j left =
    step zero field j None (phase_none (phases_of j.kind) j.phase (omega (arith, left))) (λ x is. absurd cc)
closes_left (suc n) field j left = step (suc n) field j (phase_at j.kind j.phase) refl (λ x is. closes_left n field (in_next_phase field j) (omega (arith, left)))

pub at_most_three : (kind : JobKind) → length (phases_of kind) ≤ 3
at_most_three FlexProtect = lit≤ tt
at_most_three AutoBalance = lit≤ tt
at_most_three SetProtectPlus = lit≤ tt
at_most_three Collect = lit≤ tt
at_most_three MultiScan = lit≤ tt
at_most_three Upgrade = lit≤ tt
at_most_three IntegrityScan = lit≤ tt
at_most_three MediaScan = lit≤ tt
at_most_three SmartPools = lit≤ tt
at_most_three SyncCopy = lit≤ tt

-- the second phase of a kind has items, or there is none
second_phase : (field : Field) (bars : DriveSet) (kind : JobKind) → IsField field → (length (phases_of kind) ≤ 1) ⊎ (list_all has_ended (items_in field bars (phase_at kind 1)) ≡ false)
second_phase field bars FlexProtect limits = inr (ended-new_items field.files limits.some)
second_phase field bars AutoBalance limits = inl (lit≤ tt)
second_phase field bars SetProtectPlus limits = inl (lit≤ tt)
second_phase field bars Collect limits = inr (ended-new_items (field.shape.nodes * field.shape.drives) (many field.shape.nodes field.shape.drives limits.shape.some_node limits.shape.some_drive))
  where
    many : (a b : ℕ) → 1 ≤ a → 1 ≤ b → 1 ≤ a * b
    many a b x y = grind arith
second_phase field bars MultiScan limits = inr (ended-new_items field.files limits.some)
second_phase field bars Upgrade limits = inl (lit≤ tt)
second_phase field bars IntegrityScan limits = inl (lit≤ tt)
second_phase field bars MediaScan limits = inl (lit≤ tt)
second_phase field bars SmartPools limits = inl (lit≤ tt)
second_phase field bars SyncCopy limits = inl (lit≤ tt)

-- at most three entries are due of a job
pub closes_in_three : (field : Field) (j : JobState) → IsField field → Closes 3 field j
closes_in_three field j limits = elim (cases_zero j.phase) [ inl first ↦ from_first first | inr later ↦ closes_left 2 field j (omega (arith, later, at_most_three j.kind)) ]
  where
    cases_zero : (n : ℕ) → (n ≡ 0) ⊎ (1 ≤ n)
    cases_zero zero = inl refl
    cases_zero (suc n) = inr (omega arith)

    from_first : j.phase ≡ 0 → Closes 3 field j
    from_first first =
        step 2 field j (phase_at j.kind j.phase) refl (λ x is.
        elim (second_phase field j.bars j.kind limits) [
          | inl last ↦ closes_left 1 field (in_next_phase field j) (omega (arith, last, first))
          | inr some ↦ closes_held 2 field (in_next_phase field j)
              (or_right (j.finished || j.cancelled) (not (list_all has_ended (items_in field j.bars (phase_at j.kind (j.phase + 1)))))
              (ap (λ (n : ℕ). not (list_all has_ended (items_in field j.bars (phase_at j.kind (n + 1))))) first ∙ ap not some))
        ])
