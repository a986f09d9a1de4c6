use Rattle.std.proofs.Common.{◌≡◌, None, sym, subst, rules}
use Rattle.engine_history.specs.Jobs.{find_job}
use Rattle.engine_history.specs.Steps.{due, effect_of}
use Rattle.engine_history.specs.declared.entry.EngineEvent.TheVariants as event
use Rattle.job_log.specs.JobLog.{JobLogView}
use Rattle.engine_core.specs.EngineView.{EngineView, IsEngine, jobs_now}
use Rattle.engine_core.specs.Orders.{effect_told}
use Rattle.engine_core.proofs.DueEntries.{legal_free}
use Rattle.engine_core.proofs.EngineAfterEntries.{engine_order}
use Rattle.engine_core.proofs.engine.Engine.give.Goals as goal

pub invariant_of-self : goal.invariant_of-self
invariant_of-self c =
    let inside = c.self.inside in (
      subst (λ (l : JobLogView). IsEngine (record { log = l; begun = inside.begun.items })) (sym c.append.ensures)
          (engine_order inside.log inside.begun.items c.args.by c.args.job c.args.order _ c.self.invariant.0),
      c.self.invariant.1,
    )

pub returns-clause-legal : goal.returns-clause-legal
returns-clause-legal c =
    let none = subst (λ (e : EngineView). due (jobs_now e) ≡ None) c.self.view_is c.self.invariant.0.due_none in
    let effect : effect_told c.answer.result ≡ effect_of c.args.order (find_job c.args.job (jobs_now c.args.self.now)) = search rules in
    legal_free c.args.self.now c.args.by (event.Order c.args.job c.args.order (effect_told c.answer.result)) none (λ world same. effect)
