-- What a turn makes of an engine, and what a seat that has begun an item finds in its next turn.
use Rattle.std.proofs.Common.{◌≡◌, ◌≢◌, ℕ, zero, suc, ◌+◌, true, false, cond, List, [], ◌∷◌, ◌++◌, length, length-append, map, Option, Some, None, refl, sym, ap, ◌∙◌, subst, arith, nat_eq, eq-eqb}
use Rattle.std.proofs.lemmas.Bool.Decides.{nat_tests}
use Rattle.std.specs.Prelude.{slice_index_or}
use Rattle.domains.specs.Shape.{Shape}
use Rattle.domains.specs.declared.by.By.{By}
use Rattle.job_rules.specs.declared.job.JobId.{JobId}
use Rattle.turn_cell.specs.Notes.{notes_by}
use Rattle.turn_cell.specs.declared.chronicle.Note.{Note}
use Rattle.turn_cell.proofs.HistoryLemmas.{Changed-none, Changed-one, Changed-trans}
use Rattle.engine_history.specs.Begun.{IsBegun, entries_of}
use Rattle.engine_history.specs.Jobs.{Field, after_event, at_job, is_job, is_started, jobs_after, jobs_from, new_job}
use Rattle.engine_history.specs.declared.entry.EngineEntry.{EngineEntry}
use Rattle.engine_history.specs.declared.entry.EngineEvent.{EngineEvent}
use Rattle.engine_history.specs.declared.entry.EngineEvent.TheVariants as event
use Rattle.engine_history.specs.declared.entry.OrderEffect.TheVariants as effect
use Rattle.engine_history.specs.declared.job.JobState.{JobState}
use Rattle.engine_history.proofs.BegunItems.{none_touches}
use Rattle.job_log.specs.Changes.{changed}
use Rattle.job_log.specs.Jobs.{one_later, place_of}
use Rattle.job_log.specs.JobLog.{note_of}
use Rattle.job_log.proofs.EntriesOfJobs.{changed-job}
use Rattle.engine_core.specs.BegunItems.{begun_at, count_for, place_in, set_at, tally_of}
use Rattle.engine_core.specs.EngineTurns.{ChangesEngine, FollowsEngine, HasBegun, IsUntouched}
use Rattle.engine_core.specs.EngineView.{EngineView, IsEngine, NoOtherBegan, begun_by, jobs_now, with_begun, with_entries, with_entry}
use Rattle.engine_core.specs.Items.{after_begin}
use Rattle.engine_core.specs.Tasks.{unless_begun, work_of}
use Rattle.engine_core.specs.declared.begun.Begun.{Begun}
use Rattle.engine_core.specs.declared.work.Task.{Task}
use Rattle.engine_core.specs.declared.work.Work.{Work}
use Rattle.engine_core.proofs.BegunAfterEntries.{place-at_job}
use Rattle.engine_core.proofs.BegunLemmas.{Places, tally-set}

abbrev pub Fixed : Type 0
Fixed = Shape × ℕ × ℕ

abbrev pub turns_in : EngineView → ℕ
turns_in e = e.log.turns

abbrev pub notes_in : EngineView → List (Note EngineEntry)
notes_in e = e.log.notes

abbrev pub tally_in : EngineView → ℕ → List ℕ
tally_in e k = tally_of e.begun k

abbrev pub fixed_in : EngineView → Fixed
fixed_in e = (e.log.field.shape, e.log.field.files, e.log.room)

-- ---- turns

pub changes_none : (seat : ℕ) (e : EngineView) → ChangesEngine seat e e
changes_none seat e = Changed-none turns_in notes_in tally_in fixed_in seat e e refl refl (λ k other. refl) refl

pub changes_entry : (e : EngineView) (by : By) (x : EngineEvent) → ChangesEngine e.log.seat e (with_entry e by x)
changes_entry e by x = Changed-one turns_in notes_in tally_in fixed_in e.log.seat e (with_entry e by x) (note_of e.log (record { by = by; event = x })) refl refl refl refl (λ k other. refl) refl

pub changes_entries : (e : EngineView) (by : By) (xs : List EngineEvent) → ChangesEngine e.log.seat e (with_entries e by xs)
changes_entries e by [] = changes_none e.log.seat e
changes_entries e by (x ∷ xs) =
    Changed-trans turns_in notes_in tally_in fixed_in e.log.seat e (with_entry e by x) (with_entries (with_entry e by x) by xs) (changes_entry e by x) (changes_entries (with_entry e by x) by xs)

pub changes_spare : (seat : ℕ) (e : EngineView) (spare : ℕ) → ChangesEngine seat e (record e { log = record e.log { spare = spare } })
changes_spare seat e spare = Changed-none turns_in notes_in tally_in fixed_in seat e (record e { log = record e.log { spare = spare } }) refl refl (λ k other. refl) refl

-- who has begun an item changes for this seat alone
pub changes_begun : (e : EngineView) (job : JobId) (item : ℕ) (b : Option Begun) → NoOtherBegan e job item → ((c : Begun) → b ≡ Some c → c.seat ≡ e.log.seat) → ChangesEngine e.log.seat e (with_begun e job item b)
changes_begun e job item b old new =
    Changed-none turns_in notes_in tally_in fixed_in e.log.seat e (with_begun e job item b) refl refl (λ k other. tallies k other (place_of job (jobs_now e)) old) refl
  where
    counts_none : (k : ℕ) → k ≢ e.log.seat → (o : Option Begun) → ((c : Begun) → o ≡ Some c → c.seat ≡ e.log.seat) → count_for k o ≡ 0
    counts_none k other None own = refl
    counts_none k other (Some c) own = elim (nat_eq c.seat k) as (λ t. nat_eq c.seat k ≡ t → cond t (c.at + 1) 0 ≡ 0) [ true ↦ λ same. absurd (other (sym (equal c.seat k same) ∙ own c refl)) | false ↦ λ _. refl ] refl
      where
        equal : (m n : ℕ) → nat_eq m n ≡ true → m ≡ n
        equal m n test = grind (arith, nat_tests)

    tallies : (k : ℕ) → k ≢ e.log.seat → (o : Option ℕ) → ((c : Begun) → begun_at e.begun o item ≡ Some c → c.seat ≡ e.log.seat) → tally_of (set_at e.begun o item b) k ≡ tally_of e.begun k
    tallies k other None own = refl
    tallies k other (Some order) own =
        tally-set e.begun (place_in order item) b k (counts_none k other b new ∙ sym (counts_none k other (slice_index_or e.begun (place_in order item) None) own))

unless_none : (o : Option Begun) (w : Option Work) (work : Work) → unless_begun o w ≡ Some work → o ≡ None
unless_none None w work is = refl
unless_none (Some b) w work is = absurd cc

pub changes_begin : (e : EngineView) (task : Task) (item : ℕ) (result : Option Work) → result ≡ work_of e task item → ChangesEngine e.log.seat e (after_begin e task.job item result)
changes_begin e task item None is = changes_none e.log.seat e
changes_begin e task item (Some work) is =
    changes_begun e task.job item (Some (record { seat = e.log.seat; at = length e.log.notes })) (λ b some. absurd (clash b (unless_none (begun_by e task.job item) _ work (sym is)) some)) (λ c same. seat_is c same)
  where
    clash : (b : Begun) {o : Option Begun} → o ≡ None → o ≡ Some b → ⊥
    clash b none some = cc

    seat_is : (c : Begun) → (let new : Option Begun = Some (record { seat = e.log.seat; at = length e.log.notes }) in new) ≡ Some c → c.seat ≡ e.log.seat
    seat_is c same = let eq : (let new : Begun = record { seat = e.log.seat; at = length e.log.notes } in new) ≡ c = cc in ap (λ (x : Begun). x.seat) (sym eq)

pub changes_done : (e : EngineView) (by : By) (job : JobId) (item : ℕ) (xs : List EngineEvent) → NoOtherBegan e job item → ChangesEngine e.log.seat e (with_entries (with_begun e job item None) by xs)
changes_done e by job item xs own =
    Changed-trans turns_in notes_in tally_in fixed_in e.log.seat e (with_begun e job item None) (with_entries (with_begun e job item None) by xs) (changes_begun e job item None own (λ c none. absurd cc))
    (changes_entries (with_begun e job item None) by xs)

-- ---- places of jobs, as the log grows

place-last : (job : JobId) (jobs : List JobState) (j : JobState) (order : ℕ) → place_of job jobs ≡ Some order → place_of job (jobs ++ j ∷ []) ≡ Some order
place-last job [] j order is = absurd cc
place-last job (k ∷ ks) j order is =
    elim (is_job job k) as (λ t. cond t (Some 0) (one_later (place_of job ks)) ≡ Some order → cond t (Some 0) (one_later (place_of job (ks ++ j ∷ []))) ≡ Some order) [
      | true ↦ λ here. here
      | false ↦ λ later. behind (place_of job ks) (place-last job ks j) later
    ] is
  where
    behind : (o : Option ℕ) → ((n : ℕ) → o ≡ Some n → place_of job (ks ++ j ∷ []) ≡ Some n) → one_later o ≡ Some order → one_later (place_of job (ks ++ j ∷ [])) ≡ Some order
    behind None so later = absurd cc
    behind (Some n) so later = ap one_later (so n refl) ∙ later

one : (field : Field) (e : EngineEvent) (own job : JobId) (jobs : List JobState) (order : ℕ) → place_of job jobs ≡ Some order → place_of job (at_job own (changed field e) jobs) ≡ Some order
one field e own job jobs order is = place-at_job own job (changed field e) jobs (changed-job field e) ∙ is

place-event : (field : Field) (e : EngineEvent) (job : JobId) (jobs : List JobState) (order : ℕ) → place_of job jobs ≡ Some order → place_of job (after_event field e jobs) ≡ Some order
place-event field (event.Start other kind priority epoch bars) job jobs order is =
    elim (is_started other jobs) as (λ t. place_of job (cond t jobs (jobs ++ new_job field (length jobs) other kind priority bars ∷ [])) ≡ Some order) [
      | true ↦ is
      | false ↦ place-last job jobs (new_job field (length jobs) other kind priority bars) order is
    ]
place-event field (event.JobsFull other) job jobs order is = is
place-event field (event.Order other given effect.Changed) job jobs order is = one field (event.Order other given effect.Changed) other job jobs order is
place-event field (event.Order other given effect.Same) job jobs order is = is
place-event field (event.Order other given effect.NotActive) job jobs order is = is
place-event field (event.HandOut other phase first count) job jobs order is = one field (event.HandOut other phase first count) other job jobs order is
place-event field (event.Progress other item next) job jobs order is = one field (event.Progress other item next) other job jobs order is
place-event field (event.GiveBack other item next) job jobs order is = one field (event.GiveBack other item next) other job jobs order is
place-event field (event.Done other item end) job jobs order is = one field (event.Done other item end) other job jobs order is
place-event field (event.PhaseEnd other phase) job jobs order is = one field (event.PhaseEnd other phase) other job jobs order is
place-event field (event.Finish other result) job jobs order is = one field (event.Finish other result) other job jobs order is
place-event field event.Restart job jobs order is = is
place-event field (event.Work asked steps) job jobs order is = is
place-event field (event.Drain steps) job jobs order is = is

place-from : (field : Field) (more : List EngineEntry) (job : JobId) (jobs : List JobState) (order : ℕ) → place_of job jobs ≡ Some order → place_of job (jobs_from field more jobs) ≡ Some order
place-from field [] job jobs order is = is
place-from field (e ∷ es) job jobs order is = place-from field es job (after_event field e.event jobs) order (place-event field e.event job jobs order is)

jobs_from-append : (field : Field) (log more : List EngineEntry) (jobs : List JobState) → jobs_from field (log ++ more) jobs ≡ jobs_from field more (jobs_from field log jobs)
jobs_from-append field [] more jobs = refl
jobs_from-append field (e ∷ es) more jobs = jobs_from-append field es more (after_event field e.event jobs)

entries_of-append : (xs ys : List (Note EngineEntry)) → entries_of (xs ++ ys) ≡ entries_of xs ++ entries_of ys
entries_of-append [] ys = refl
entries_of-append (x ∷ xs) ys = ap (λ l. x.entry ∷ l) (entries_of-append xs ys)

-- ---- what a seat has begun

map_at : (k : ℕ) (xs : Places) (i : ℕ) → slice_index_or (map (count_for k) xs) i 0 ≡ count_for k (slice_index_or xs i None)
map_at k [] i = refl
map_at k (x ∷ xs) zero = refl
map_at k (x ∷ xs) (suc i) = map_at k xs i

counted : (seat : ℕ) (b : Begun) (o : Option Begun) → b.seat ≡ seat → count_for seat o ≡ b.at + 1 → o ≡ Some b
counted seat b None own is = absurd (omega (arith, is))
counted seat b (Some c) own is =
    elim (nat_eq c.seat seat) as (λ t. nat_eq c.seat seat ≡ t → cond t (c.at + 1) 0 ≡ b.at + 1 → Some c ≡ Some b) [
      | true ↦ λ same some. let at : c.at ≡ b.at = omega (arith, some) in let who : c.seat ≡ b.seat = equal c.seat seat same ∙ sym own in
          (λ i. let made : Option Begun = Some (record { seat = who i; at = at i }) in made)
      | false ↦ λ _ none. absurd (omega (arith, none))
    ] refl is
  where
    equal : (m n : ℕ) → nat_eq m n ≡ true → m ≡ n
    equal m n test = grind (arith, nat_tests)

counts_own : (seat : ℕ) (b : Begun) → b.seat ≡ seat → count_for seat (Some b) ≡ b.at + 1
counts_own seat b own = ap (λ t. cond t (b.at + 1) 0) (eq-eqb b.seat seat own)

-- the engine that a seat finds has the log that it left, and more
placed_later : (seat : ℕ) (last now : EngineView) (job : JobId) (item : ℕ) → FollowsEngine seat last now → (h : HasBegun seat last job item) → place_of job (jobs_now now) ≡ Some h.order
placed_later seat last now job item f h =
    let more = f.seen.0 in
    let notes : now.log.notes ≡ last.log.notes ++ more = sym f.seen.1 in
    let field : now.log.field ≡ last.log.field = same_field f.fixed in
    let jobs : jobs_now now ≡ jobs_from last.log.field (entries_of more) (jobs_now last) =
    (λ i. jobs_after (field i) (entries_of (notes i))) ∙ ap (jobs_after last.log.field) (entries_of-append last.log.notes more) ∙ jobs_from-append last.log.field (entries_of last.log.notes) (entries_of more) [] in
    ap (place_of job) jobs ∙ place-from last.log.field (entries_of more) job (jobs_now last) h.order h.placed
  where
    same_field : fixed_in now ≡ fixed_in last → now.log.field ≡ last.log.field
    same_field fixed i = record { shape = (fixed i).0; files = (fixed i).1 }

begun_later : (seat : ℕ) (last now : EngineView) (job : JobId) (item : ℕ) → FollowsEngine seat last now → (h : HasBegun seat last job item) → slice_index_or now.begun (place_in h.order item) None ≡ Some h.begun
begun_later seat last now job item f h =
    let was : slice_index_or last.begun (place_in h.order item) None ≡ Some h.begun = sym (ap (λ o. begun_at last.begun o item) h.placed) ∙ h.here in
    let count : count_for seat (slice_index_or now.begun (place_in h.order item) None) ≡ h.begun.at + 1 =
    sym (map_at seat now.begun (place_in h.order item)) ∙ ap (λ (l : List ℕ). slice_index_or l (place_in h.order item) 0) f.tally ∙ map_at seat last.begun (place_in h.order item) ∙ ap (count_for seat) was ∙ counts_own seat h.begun h.own in
    counted seat h.begun (slice_index_or now.begun (place_in h.order item) None) h.own count

-- what the seat has begun it still has begun in its next turn, whatever turns of other seats have passed
pub stays_begun : (seat : ℕ) (last now : EngineView) (job : JobId) (item : ℕ) → FollowsEngine seat last now → HasBegun seat last job item → HasBegun seat now job item
stays_begun seat last now job item f h =
    let placed = placed_later seat last now job item f h in
    let longer = ap (λ (l : List (Note EngineEntry)). length l) (sym f.seen.1) ∙ length-append last.log.notes f.seen.0 in
    let early = h.early in record {
      order = h.order;
      placed = placed;
      few = h.few;
      begun = h.begun;
      here = ap (λ o. begun_at now.begun o item) placed ∙ begun_later seat last now job item f h;
      own = h.own;
      early = omega (arith, early, longer);
    }

-- and no note of another seat has touched it since
pub none_touched : (seat : ℕ) (last now : EngineView) (job : JobId) (item : ℕ) → FollowsEngine seat last now → HasBegun seat last job item → IsEngine now → IsUntouched last now job item
none_touched seat last now job item f h is more notes =
    let begun = is.begun.begun_each job h.order item h.begun (placed_later seat last now job item f h) h.few (begun_later seat last now job item f h) in
    let mine = subst (λ k. notes_by k now.log.notes ≡ notes_by k last.log.notes) (sym h.own) f.mine in
    none_touches now.log.field h.begun.seat h.begun.at job item last.log.notes more (subst (IsBegun now.log.field h.begun.seat h.begun.at job item) notes begun) h.early
    (ap (λ (l : List (Note EngineEntry)). notes_by h.begun.seat l) (sym notes) ∙ mine)

-- a call on the item asks for this
pub none_else : (seat : ℕ) (e : EngineView) (job : JobId) (item : ℕ) → e.log.seat ≡ seat → HasBegun seat e job item → NoOtherBegan e job item
none_else seat e job item mine h b is = let same : b ≡ h.begun = some_same b h.begun (sym is ∙ h.here) in ap (λ (x : Begun). x.seat) same ∙ h.own ∙ sym mine
  where
    some_same : (a c : Begun) → (let x : Option Begun = Some a in x) ≡ Some c → a ≡ c
    some_same a c same = cc
