use Rattle.std.proofs.Common.{◌≡◌, ℕ, true, List, ◌∷◌, Some, None, sym, ap, subst, ◌∙◌}
use Rattle.std.specs.Prelude.{slice_set}
use Rattle.engine_history.specs.Jobs.{after_event}
use Rattle.engine_history.specs.Steps.{due, is_item_out}
use Rattle.engine_history.specs.declared.entry.EngineEntry.{EngineEntry}
use Rattle.engine_history.specs.declared.entry.EngineEvent.TheVariants as event
use Rattle.engine_history.specs.declared.job.JobState.{JobState}
use Rattle.job_log.specs.Jobs.{place_of}
use Rattle.job_log.specs.JobLog.{JobLogView, jobs_of}
use Rattle.job_log.specs.JobLog.{with_entry as log_with}
use Rattle.engine_core.specs.BegunItems.{set_at}
use Rattle.engine_core.specs.EngineView.{AreLegalNow, EngineView, due_events, jobs_now, log_with_all, with_begun, with_entries, with_entry}
use Rattle.engine_core.specs.Items.{IsDueWithin, IsOutAt}
use Rattle.engine_core.proofs.BegunAfterEntries.{IsBegunLog, begun_all_due}
use Rattle.engine_core.proofs.DueEntries.{jobs_of-entry, legal_all_due, legal_free, made_by}
use Rattle.engine_core.proofs.EngineAfterEntries.{begun_done, done_within}
use Rattle.engine_core.proofs.engine.Engine.done.Goals as goal

pub append_due-requires-clause-within : goal.append_due-requires-clause-within
append_due-requires-clause-within c =
    let log = c.self.inside.log in
    let work = c.args.work.now in
    let w = subst (λ (js : List JobState). IsOutAt js work.job work.item c.out_place.result) c.jobs.ensures.value c.out_place.ensures in
    let h = subst (λ o. IsOutAt (jobs_of log) work.job work.item o) c.in-Some.is w in
    subst (λ (l : JobLogView). IsDueWithin 3 l.field (jobs_of l)) (sym c.append.ensures) (done_within log c.args.by work.job work.item c.args.end c.jobs.ensures.log.field h.4 c.self.invariant.0.due_none)

module _ (c : goal.After-append_due) where
  abbrev log : JobLogView
  log = c.self.inside.log

  abbrev entry : EngineEntry
  entry = record { by = c.args.by; event = event.Done c.args.work.now.job c.args.work.now.item c.args.end }

  out : IsOutAt (jobs_of log) c.args.work.now.job c.args.work.now.item (Some c.in-Some.place)
  out = subst (λ o. IsOutAt (jobs_of log) c.args.work.now.job c.args.work.now.item o) c.in-Some.is
      (subst (λ (js : List JobState). IsOutAt js c.args.work.now.job c.args.work.now.item c.out_place.result) c.jobs.ensures.value c.out_place.ensures)

  entries : c.append_due.new.log ≡ log_with_all (log_with log entry) c.args.by (due_events 3 log.field (jobs_of (log_with log entry)))
  entries = c.append_due.ensures.entries ∙ ap (λ (l : JobLogView). log_with_all l c.args.by (due_events 3 l.field (jobs_of l))) c.append.ensures

pub invariant_of-self : goal.invariant_of-self
invariant_of-self c =
    let begun = c.self.inside.begun.items in
    let work = c.args.work.now in
    let h = out c in
    let places = slice_set begun c.in-Some.place None in (
      record {
        due_none = c.append_due.ensures.none;
        begun = subst (λ (l : JobLogView). IsBegunLog l places) (sym (entries c))
            (begun_all_due 3 (log_with (log c) (entry c)) c.args.by places (begun_done (log c) begun c.args.by work.job h.0 work.item c.in-Some.place c.args.end h.1 h.2 c.self.invariant.0));
      },
      c.self.invariant.1,
    )

pub returns-clause-entries : goal.returns-clause-entries
returns-clause-entries c =
    let begun = c.self.inside.begun.items in
    let work = c.args.work.now in
    let h = out c in
    let logs = entries c ∙ ap (λ (js : List JobState). log_with_all (log_with (log c) (entry c)) c.args.by (due_events 3 (log c).field js)) (jobs_of-entry (log c) (entry c)) in
    let places : slice_set begun c.in-Some.place None ≡ set_at begun (place_of work.job (jobs_of (log c))) work.item None =
    ap (λ (n : ℕ). slice_set begun n None) h.2 ∙ sym (ap (λ o. set_at begun o work.item None) h.1) in
    (λ i. let made : EngineView = record { log = logs i; begun = places i } in made)
    ∙ ap (λ (e : EngineView). with_entries (with_begun e work.job work.item None) c.args.by ((entry c).event ∷ due_events 3 e.log.field (after_event e.log.field (entry c).event (jobs_now e)))) c.self.view_is

pub returns-clause-legal : goal.returns-clause-legal
returns-clause-legal c =
    let now = c.args.self.now in
    let none = subst (λ (e : EngineView). due (jobs_now e) ≡ None) c.self.view_is c.self.invariant.0.due_none in
    let is_out = subst (λ (e : EngineView). is_item_out (jobs_now e) c.args.work.now.job c.args.work.now.item ≡ true) c.self.view_is (out c).4 in (
      legal_free now c.args.by (entry c).event none (λ world same. is_out),
      subst (λ (js : List JobState). AreLegalNow (with_entry now c.args.by (entry c).event) c.args.by (due_events 3 now.log.field js)) (jobs_of-entry now.log (entry c))
          (legal_all_due 3 (with_entry now c.args.by (entry c).event) c.args.by (made_by now.log c.args.by (entry c).event)),
    )
