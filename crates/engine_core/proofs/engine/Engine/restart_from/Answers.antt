use Rattle.std.proofs.Common.{◌≡◌, None, refl, sym, subst, rules}
use Rattle.engine_history.specs.declared.entry.EngineEvent.TheVariants as event
use Rattle.job_log.specs.JobLog.{JobLogView}
use Rattle.engine_core.specs.EngineView.{IsEngine, jobs_now}
use Rattle.checkpoints.specs.Saved.{checkpoint_bytes}
use Rattle.engine_core.specs.SavedJobs.{checkpoint_of, differs_at}
use Rattle.engine_core.proofs.EngineAfterEntries.{engine_same}
use Rattle.engine_core.proofs.SavedLists.{differs_none}
use Rattle.engine_core.proofs.engine.Engine.restart_from.Goals as goal

pub invariant_of-self : goal.invariant_of-self
invariant_of-self c =
    let inside = c.self.inside in (
      subst (λ (l : JobLogView). IsEngine (record { log = l; begun = inside.begun.items })) (sym c.append.ensures)
          (engine_same inside.log inside.begun.items (record { by = c.args.by; event = event.Restart }) refl (λ job item. refl) c.self.invariant.0),
      c.self.invariant.1,
    )

pub returns-clause-answer : goal.returns-clause-answer
returns-clause-answer c =
    let none : differs_at c.args.bytes.now (checkpoint_bytes (checkpoint_of (jobs_now c.args.self.now))) ≡ None = search rules in
    differs_none c.args.bytes.now (checkpoint_bytes (checkpoint_of (jobs_now c.args.self.now))) none
