-- Entries that keep what seats have begun.
use Rattle.std.proofs.Common.{◌≡◌, ℕ, zero, suc, ◌+◌, ◌<◌, ◌≤◌, ◌⊎◌, inl, inr, Bool, true, false, cond, not, ◌&&◌, ◌||◌, List, [], ◌∷◌, ◌++◌, length, length-append, take, drop, Option, Some, None, refl, sym, ap, ◌∙◌, subst, arith, nat_eq, nat_le, nat_lt}
use Rattle.std.proofs.lemmas.Bool.Decides.{nat_tests}
use Rattle.std.specs.Prelude.{slice_index_or}
use Rattle.std.specs.List.{list_all}
use Rattle.domains.specs.declared.by.By.{By}
use Rattle.domains.specs.declared.drive_set.DriveSet.{DriveSet}
use Rattle.job_rules.specs.Kinds.{phase_at}
use Rattle.job_rules.specs.declared.job.JobId.{JobId}
use Rattle.job_rules.specs.declared.kind.JobKind.{JobKind}
use Rattle.job_rules.specs.declared.phase.Phase.{Phase}
use Rattle.checkpoints.specs.declared.checkpoint.ItemSaved.{ItemSaved}
use Rattle.checkpoints.specs.declared.checkpoint.ItemSaved.TheVariants.{ToDo, Out, Whole, Lost, Short}
use Rattle.engine_history.specs.Begun.{touches}
use Rattle.engine_history.specs.Items.{at_item, come_to, ended, given_back, handed_out, has_ended, is_out, is_to_do, items_from}
use Rattle.engine_history.specs.Jobs.{after_event, at_job, find_job, is_job, is_started, new_job, ordered, with_items}
use Rattle.engine_history.specs.Steps.{IsRun, due, due_of, end_of_phase, is_item_out, out_among, out_of}
use Rattle.engine_history.specs.declared.end.End.{End}
use Rattle.engine_history.specs.declared.entry.EngineEntry.{EngineEntry}
use Rattle.engine_history.specs.declared.entry.EngineEvent.{EngineEvent}
use Rattle.engine_history.specs.declared.entry.EngineEvent.TheVariants as event
use Rattle.engine_history.specs.declared.entry.JobOrder.{JobOrder}
use Rattle.engine_history.specs.declared.entry.OrderEffect.{OrderEffect}
use Rattle.engine_history.specs.declared.entry.OrderEffect.TheVariants as effect
use Rattle.engine_history.specs.declared.job.JobState.{JobState}
use Rattle.job_log.specs.Changes.{changed}
use Rattle.job_log.specs.Jobs.{one_later, place_of}
use Rattle.job_log.specs.JobLog.{JobLogView, jobs_of, log_of}
use Rattle.job_log.specs.JobLog.{with_entry as log_with}
use Rattle.job_log.proofs.EntriesOfJobs.{changed-job}
use Rattle.job_log.proofs.JobPlaces.{length-at_job, number_is}
use Rattle.job_log.proofs.JobsOfLogs.{started_after}
use Rattle.engine_core.specs.BegunItems.{AreBegun, begun_at, begun_of, place_in}
use Rattle.engine_core.specs.EngineView.{due_events, log_with_all, then_due}
use Rattle.engine_core.specs.declared.begun.Begun.{Begun}
use Rattle.engine_core.proofs.BegunLemmas.{KeepsBegun, Places, begun-entry}
use Rattle.engine_core.proofs.DueEntries.{due_is, due_names, due_of_one, found_job, jobs_of-entry}
use Rattle.engine_core.proofs.OutItems.{none_out, out-come_to, out-handed_out, out-items_from, out-last, out-ordered, out-other, stays_out}

-- ---- places

pub place-at_job : (own job : JobId) (f : JobState → JobState) (jobs : List JobState) → ((j : JobState) → (f j).job ≡ j.job) → place_of job (at_job own f jobs) ≡ place_of job jobs
place-at_job own job f [] same = refl
place-at_job own job f (j ∷ js) same =
    ap (λ (x : JobId). cond (nat_eq x.number job.number) (Some 0) (one_later (place_of job (at_job own f js)))) (at_named (is_job own j))
    ∙ ap (λ o. cond (is_job job j) (Some 0) (one_later o)) (place-at_job own job f js same)
  where
    at_named : (t : Bool) → (cond t (f j) j).job ≡ j.job
    at_named true = same j
    at_named false = refl

later_split : (o p : Option ℕ) (n : ℕ) → ((k : ℕ) → o ≡ Some k → (p ≡ Some k) ⊎ (n ≤ k)) → (order : ℕ) → one_later o ≡ Some order → (one_later p ≡ Some order) ⊎ (suc n ≤ order)
later_split None p n so order is = absurd cc
later_split (Some k) p n so order is =
    let e : suc k ≡ order = cc in
    elim (so k refl) [ inl same ↦ inl (ap one_later same ∙ ap (λ (m : ℕ). Some m) e) | inr past ↦ inr (omega (arith, past, e)) ]

place-last : (job : JobId) (jobs : List JobState) (j : JobState) (order : ℕ) → place_of job (jobs ++ j ∷ []) ≡ Some order → (place_of job jobs ≡ Some order) ⊎ (length jobs ≤ order)
place-last job [] j order is = inr (omega arith)
place-last job (k ∷ ks) j order is =
    elim (is_job job k) as (λ t. cond t (Some 0) (one_later (place_of job (ks ++ j ∷ []))) ≡ Some order → (cond t (Some 0) (one_later (place_of job ks)) ≡ Some order) ⊎ (suc (length ks) ≤ order)) [
      | true ↦ λ here. inl here
      | false ↦ λ later. later_split (place_of job (ks ++ j ∷ [])) (place_of job ks) (length ks) (place-last job ks j) order later
    ] is

-- ---- entries

clash : {t : Bool} → t ≡ true → t ≡ false → ⊥
clash passes fails = cc

-- an entry that changes no job and touches no item
pub keeps-same : (log : JobLogView) (e : EngineEntry) (begun : Places) → after_event log.field e.event (jobs_of log) ≡ jobs_of log → ((job : JobId) (item : ℕ) → touches job item e.event ≡ false) → KeepsBegun log e begun
keeps-same log e begun same none =
    let jobs : jobs_of (log_with log e) ≡ jobs_of log = jobs_of-entry log e ∙ same in record {
      placed_so = λ job order place. inl (ap (place_of job) (sym jobs) ∙ place);
      longer = subst (λ (js : List JobState). length (jobs_of log) ≤ length js) (sym jobs) (omega arith);
      out = λ job order item b place few is out. ap (λ (js : List JobState). is_item_out js job item) jobs ∙ out;
      own = λ job order item b place few is out touched. absurd (clash touched (none job item));
    }

-- an entry that changes one job
pub keeps-one : (log : JobLogView) (e : EngineEntry) (begun : Places) (own : JobId) (f : JobState → JobState) → after_event log.field e.event (jobs_of log) ≡ at_job own f (jobs_of log) → ((j : JobState) → (f j).job ≡ j.job)
    → ((job : JobId) (order item : ℕ) (b : Begun) → place_of job (jobs_of log) ≡ Some order → item < 256 → slice_index_or begun (place_in order item) None ≡ Some b
    → is_item_out (jobs_of log) job item ≡ true → is_item_out (at_job own f (jobs_of log)) job item ≡ true)
    → ((job : JobId) (order item : ℕ) (b : Begun) → place_of job (jobs_of log) ≡ Some order → item < 256 → slice_index_or begun (place_in order item) None ≡ Some b
    → is_item_out (jobs_of log) job item ≡ true → touches job item e.event ≡ true → log.seat ≡ b.seat)
    → KeepsBegun log e begun
keeps-one log e begun own f is_change same out mine =
    let jobs : jobs_of (log_with log e) ≡ at_job own f (jobs_of log) = jobs_of-entry log e ∙ is_change in record {
      placed_so = λ job order place. inl (sym (place-at_job own job f (jobs_of log) same) ∙ ap (place_of job) (sym jobs) ∙ place);
      longer = subst (λ (js : List JobState). length (jobs_of log) ≤ length js) (sym jobs) (subst (λ n. length (jobs_of log) ≤ n) (sym (length-at_job own f (jobs_of log))) (omega arith));
      out = λ job order item b place few is there. ap (λ (js : List JobState). is_item_out js job item) jobs ∙ out job order item b place few is there;
      own = mine;
    }

pub keeps-order : (log : JobLogView) (by : By) (job : JobId) (order : JobOrder) (effect : OrderEffect) (begun : Places) → KeepsBegun log (record { by = by; event = event.Order job order effect }) begun
keeps-order log by job order effect.Changed begun =
    keeps-one log (record { by = by; event = event.Order job order effect.Changed }) begun job (ordered order) refl (λ j. changed-job log.field (event.Order job order effect.Changed) j)
    (λ other place item b placed few is out. out-ordered job other item order (jobs_of log) out) (λ other place item b placed few is out touched. absurd cc)
keeps-order log by job order effect.Same begun = keeps-same log (record { by = by; event = event.Order job order effect.Same }) begun refl (λ other item. refl)
keeps-order log by job order effect.NotActive begun = keeps-same log (record { by = by; event = event.Order job order effect.NotActive }) begun refl (λ other item. refl)

-- ---- hand-outs

and_split : (x y : Bool) → x && y ≡ true → (x ≡ true) × (y ≡ true)
and_split true y h = (refl, h)
and_split false y h = absurd cc

to_do_not_out : (i : ItemSaved) → is_to_do i ≡ true → is_out i ≡ true → ⊥
to_do_not_out (ToDo next) to_do out = absurd cc
to_do_not_out (Out next) to_do out = absurd cc
to_do_not_out Whole to_do out = absurd cc
to_do_not_out Lost to_do out = absurd cc
to_do_not_out Short to_do out = absurd cc

run_not_out : (first count item : ℕ) (items : List ItemSaved) → first ≤ item → item < first + count → list_all is_to_do (take count (drop first items)) ≡ true → out_among item items ≡ true → ⊥
run_not_out first count item [] from to all out = absurd cc
run_not_out zero zero item (i ∷ is) from to all out = absurd (omega (arith, to))
run_not_out zero (suc count) zero (i ∷ is) from to all out = to_do_not_out i (and_split (is_to_do i) (list_all is_to_do (take count is)) all).0 out
run_not_out zero (suc count) (suc item) (i ∷ is) from to all out =
    run_not_out zero count item is (omega arith) (omega (arith, to)) (and_split (is_to_do i) (list_all is_to_do (take count is)) all).1 out
run_not_out (suc first) count zero (i ∷ is) from to all out = absurd (omega (arith, from))
run_not_out (suc first) count (suc item) (i ∷ is) from to all out = run_not_out first count item is (omega (arith, from)) (omega (arith, to)) all out

same_id : (a b : JobId) → nat_eq a.number b.number ≡ true → a ≡ b
same_id a b same = ap (λ (n : ℕ). let made : JobId = record { number = n } in made) (equal a.number b.number same)
  where
    equal : (m n : ℕ) → nat_eq m n ≡ true → m ≡ n
    equal m n test = grind (arith, nat_tests)

in_range : (first item last : ℕ) → nat_le first item && nat_lt item last ≡ true → (first ≤ item) × (item < last)
in_range first item last h = let parts = and_split (nat_le first item) (nat_lt item last) h in (le_from first item parts.0, lt_from item last parts.1)
  where
    le_from : (m n : ℕ) → nat_le m n ≡ true → m ≤ n
    le_from m n test = grind (arith, nat_tests)

    lt_from : (m n : ℕ) → nat_lt m n ≡ true → m < n
    lt_from m n test = grind (arith, nat_tests)

pub keeps-hand_out : (log : JobLogView) (by : By) (own : JobId) (phase first count : ℕ) (j : JobState) (begun : Places) → find_job own (jobs_of log) ≡ Some j → IsRun j phase first count
    → KeepsBegun log (record { by = by; event = event.HandOut own phase first count }) begun
keeps-hand_out log by own phase first count j begun found run =
    keeps-one log (record { by = by; event = event.HandOut own phase first count }) begun own (with_items (items_from first count handed_out)) refl (λ k. refl)
    (λ job order item b place few is out. stays_out own job item (with_items (items_from first count handed_out)) (jobs_of log) (λ k. refl) (λ k at named there. out-items_from first count item handed_out k.items out-handed_out there) out)
    (λ job order item b place few is out touched.
    let parts = and_split (nat_eq own.number job.number) (nat_le first item && nat_lt item (first + count)) touched in
    let range = in_range first item (first + count) parts.1 in
    absurd (run_not_out first count item j.items range.0 range.1 run.all (subst (λ o. out_of o item ≡ true) (ap (λ (x : JobId). find_job x (jobs_of log)) (sym (same_id own job parts.0)) ∙ found) out)))

-- ---- items

-- the item of an entry, and another one
pub keeps-progress : (log : JobLogView) (by : By) (own : JobId) (place next : ℕ) (begun : Places) → ((b : Begun) → begun_of (jobs_of log) begun own place ≡ Some b → b.seat ≡ log.seat)
    → KeepsBegun log (record { by = by; event = event.Progress own place next }) begun
keeps-progress log by own place next begun mine =
    keeps-one log (record { by = by; event = event.Progress own place next }) begun own (with_items (at_item place (come_to next))) refl (λ k. refl)
    (λ job order item b placed few is out. stays_out own job item (with_items (at_item place (come_to next))) (jobs_of log) (λ k. refl) (λ k at named there. out-items_from place 1 item (come_to next) k.items (out-come_to next) there) out)
    (λ job order item b placed few is out touched.
    let parts = and_split (nat_eq own.number job.number) (nat_eq place item) touched in
    let item_is : place ≡ item = equal place item parts.1 in
    sym (mine b (ap (λ (x : JobId). begun_at begun (place_of x (jobs_of log)) place) (same_id own job parts.0)
    ∙ ap (λ o. begun_at begun o place) placed ∙ ap (λ n. slice_index_or begun (place_in order n) None) item_is ∙ is)))
  where
    equal : (m n : ℕ) → nat_eq m n ≡ true → m ≡ n
    equal m n test = grind (arith, nat_tests)

-- an entry that ends an item or gives it back, which no seat has begun any more
keeps-end : (log : JobLogView) (e : EngineEntry) (own : JobId) (place : ℕ) (f : ItemSaved → ItemSaved) (begun : Places) → after_event log.field e.event (jobs_of log) ≡ at_job own (with_items (at_item place f)) (jobs_of log)
    → ((job : JobId) (item : ℕ) → touches job item e.event ≡ nat_eq own.number job.number && nat_eq place item)
    → begun_of (jobs_of log) begun own place ≡ None → KeepsBegun log e begun
keeps-end log e own place f begun after touched_so none =
    keeps-one log e begun own (with_items (at_item place f)) after (λ k. refl)
    (λ job order item b placed few is out. stays_out own job item (with_items (at_item place f)) (jobs_of log) (λ k. refl)
    (λ k at named there. out-other place item f k.items (λ same. not_here job order item b placed is (sym (found_number job k at) ∙ number_is own k named) (sym same)) ∙ there) out)
    (λ job order item b placed few is out touched.
    let parts = and_split (nat_eq own.number job.number) (nat_eq place item) (sym (touched_so job item) ∙ touched) in
    absurd (not_here job order item b placed is (sym (equal own.number job.number parts.0)) (equal place item parts.1)))
  where
    equal : (m n : ℕ) → nat_eq m n ≡ true → m ≡ n
    equal m n test = grind (arith, nat_tests)

    not_here : (job : JobId) (order item : ℕ) (b : Begun) → place_of job (jobs_of log) ≡ Some order → slice_index_or begun (place_in order item) None ≡ Some b → job.number ≡ own.number → place ≡ item → ⊥
    not_here job order item b placed is same_number same_item =
        let job_is : job ≡ own = ap (λ (n : ℕ). let made : JobId = record { number = n } in made) same_number in
        let gone : slice_index_or begun (place_in order item) None ≡ None =
        ap (λ n. slice_index_or begun (place_in order n) None) (sym same_item) ∙ sym (ap (λ o. begun_at begun o place) (sym (ap (λ (x : JobId). place_of x (jobs_of log)) job_is) ∙ placed)) ∙ none in
        none_some (sym gone ∙ is)
      where
        none_some : (let o : Option Begun = None in o) ≡ Some b → ⊥
        none_some eq = cc

    found_number : (job : JobId) (k : JobState) → find_job job (jobs_of log) ≡ Some k → k.job.number ≡ job.number
    found_number job k at = ap (λ (x : JobId). x.number) (found_job job (jobs_of log) k at)

pub keeps-given_back : (log : JobLogView) (by : By) (own : JobId) (place next : ℕ) (begun : Places) → begun_of (jobs_of log) begun own place ≡ None
    → KeepsBegun log (record { by = by; event = event.GiveBack own place next }) begun
keeps-given_back log by own place next begun none = keeps-end log (record { by = by; event = event.GiveBack own place next }) own place (given_back next) begun refl (λ job item. refl) none

pub keeps-done : (log : JobLogView) (by : By) (own : JobId) (place : ℕ) (end : End) (begun : Places) → begun_of (jobs_of log) begun own place ≡ None
    → KeepsBegun log (record { by = by; event = event.Done own place end }) begun
keeps-done log by own place end begun none = keeps-end log (record { by = by; event = event.Done own place end }) own place (λ i. ended end) begun refl (λ job item. refl) none

-- ---- what is due

ready : (j : JobState) (e : EngineEvent) → due_of j ≡ Some e → list_all has_ended j.items ≡ true
ready j e is =
    elim ((j.finished || j.cancelled) || not (list_all has_ended j.items)) as (λ t. (j.finished || j.cancelled) || not (list_all has_ended j.items) ≡ t → cond t None (Some (end_of_phase j (phase_at j.kind j.phase))) ≡ Some e → list_all has_ended j.items ≡ true) [
      | true ↦ λ _ none. absurd cc
      | false ↦ λ test _. ended_all (j.finished || j.cancelled) (list_all has_ended j.items) test
    ] refl is
  where
    ended_all : (x y : Bool) → x || not y ≡ false → y ≡ true
    ended_all true y h = absurd cc
    ended_all false true h = refl
    ended_all false false h = absurd cc

end_touches_none : (j : JobState) (o : Option Phase) (job : JobId) (item : ℕ) → touches job item (end_of_phase j o) ≡ false
end_touches_none j None job item = refl
end_touches_none j (Some phase) job item = refl

pub keeps-due : (log : JobLogView) (by : By) (e : EngineEvent) (begun : Places) → due (jobs_of log) ≡ Some e → KeepsBegun log (record { by = by; event = e }) begun
keeps-due log by e begun is =
    let d = due_of_one (jobs_of log) e (started_after log.field (log_of log)).apart is in
    keeps-one log (record { by = by; event = e }) begun d.state.job (changed log.field e) (due_names log.field d.state (jobs_of log) e d.is) (changed-job log.field e)
    (λ job order item b placed few at out. stays_out d.state.job job item (changed log.field e) (jobs_of log) (changed-job log.field e)
    (λ k found named there.
    let same : d.state.job ≡ job = ap (λ (n : ℕ). let made : JobId = record { number = n } in made) (sym (number_is d.state.job k named)) ∙ found_job job (jobs_of log) k found in
    let k_is : k ≡ d.state = some_state k d.state (sym found ∙ ap (λ (x : JobId). find_job x (jobs_of log)) (sym same) ∙ d.found) in
    absurd (none_out item k.items (subst (λ (x : JobState). list_all has_ended x.items ≡ true) (sym k_is) (ready d.state e d.is)) there)) out)
    (λ job order item b placed few at out touched.
    absurd (clash touched (subst (λ (x : EngineEvent). touches job item x ≡ false) (due_is d.state e d.is) (end_touches_none d.state (phase_at d.state.kind d.state.phase) job item))))
  where
    some_state : (a b : JobState) → (let x : Option JobState = Some a in x) ≡ Some b → a ≡ b
    some_state a b same = cc

abbrev pub IsBegunLog : JobLogView → Places → Type 0
IsBegunLog log begun = AreBegun log.field (jobs_of log) log.notes begun

pub begun_all_due : (n : ℕ) (log : JobLogView) (by : By) (begun : Places) → IsBegunLog log begun → IsBegunLog (log_with_all log by (due_events n log.field (jobs_of log))) begun
begun_all_due zero log by begun all = all
begun_all_due (suc n) log by begun all = by_due (due (jobs_of log)) refl (λ x. begun_all_due n (log_with log (record { by = by; event = x })) by begun)
  where
    by_due : (o : Option EngineEvent) → due (jobs_of log) ≡ o
        → ((x : EngineEvent) → IsBegunLog (log_with log (record { by = by; event = x })) begun
        → IsBegunLog (log_with_all (log_with log (record { by = by; event = x })) by (due_events n log.field (jobs_of (log_with log (record { by = by; event = x }))))) begun)
        → IsBegunLog (log_with_all log by (then_due o (λ x. due_events n log.field (after_event log.field x (jobs_of log))))) begun
    by_due None is next = all
    by_due (Some x) is next =
        let e : EngineEntry = record { by = by; event = x } in
        subst (λ (js : List JobState). IsBegunLog (log_with_all (log_with log e) by (due_events n log.field js)) begun) (jobs_of-entry log e) (next x (begun-entry log e begun (keeps-due log by x begun is) all))

-- ---- starts

pub keeps-start : (log : JobLogView) (by : By) (job : JobId) (kind : JobKind) (priority epoch : ℕ) (bars : DriveSet) (begun : Places) → is_started job (jobs_of log) ≡ false
    → KeepsBegun log (record { by = by; event = event.Start job kind priority epoch bars }) begun
keeps-start log by job kind priority epoch bars begun fresh =
    let e : EngineEntry = record { by = by; event = event.Start job kind priority epoch bars } in
    let new = new_job log.field (length (jobs_of log)) job kind priority bars in
    let jobs : jobs_of (log_with log e) ≡ jobs_of log ++ new ∷ [] = jobs_of-entry log e ∙ ap (λ (t : Bool). cond t (jobs_of log) (jobs_of log ++ new ∷ [])) fresh in
    let more = length-append (jobs_of log) (new ∷ []) in record {
      placed_so = λ other order place. place-last other (jobs_of log) new order (ap (place_of other) (sym jobs) ∙ place);
      longer = subst (λ (js : List JobState). length (jobs_of log) ≤ length js) (sym jobs) (omega (arith, more));
      out = λ other order item b place few is out. ap (λ (js : List JobState). is_item_out js other item) jobs ∙ out-last other item (jobs_of log) new out;
      own = λ other order item b place few is out touched. absurd (clash touched refl);
    }
