use Rattle.std.proofs.Common.{◌≡◌, None, sym, ap, subst, ◌∙◌}
use Rattle.engine_history.specs.Steps.{due}
use Rattle.engine_history.specs.declared.entry.EngineEntry.{EngineEntry}
use Rattle.engine_history.specs.declared.entry.EngineEvent.{EngineEvent}
use Rattle.job_log.specs.JobLog.{JobLogView, jobs_of}
use Rattle.job_log.specs.JobLog.{with_entry as log_with}
use Rattle.engine_core.specs.EngineView.{EngineView, IsEngine, jobs_now}
use Rattle.engine_core.specs.Items.{worked_event}
use Rattle.engine_core.proofs.DueEntries.{legal_free}
use Rattle.engine_core.proofs.EngineAfterEntries.{engine_same, worked_same, worked_touches}
use Rattle.engine_core.proofs.engine.Engine.worked.Goals as goal

pub invariant_of-self : goal.invariant_of-self
invariant_of-self c =
    let inside = c.self.inside in
    let e : EngineEntry = record { by = c.args.by; event = worked_event c.args.asked c.args.steps } in
    let log = c.append.ensures ∙ ap (λ (x : EngineEvent). log_with inside.log (record { by = c.args.by; event = x })) c.worked_event.ensures in (
      subst (λ (l : JobLogView). IsEngine (record { log = l; begun = inside.begun.items })) (sym log)
          (engine_same inside.log inside.begun.items e (worked_same inside.log.field (jobs_of inside.log) c.args.asked c.args.steps) (worked_touches c.args.asked c.args.steps) c.self.invariant.0),
      c.self.invariant.1,
    )

pub returns-clause-legal : goal.returns-clause-legal
returns-clause-legal c =
    let none = subst (λ (e : EngineView). due (jobs_now e) ≡ None) c.self.view_is c.self.invariant.0.due_none in
    legal_free c.args.self.now c.args.by (worked_event c.args.asked c.args.steps) none (λ world same. c.requires.work world)
