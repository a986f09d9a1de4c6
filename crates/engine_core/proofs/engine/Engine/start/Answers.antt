use Rattle.std.proofs.Common.{◌≡◌, false, sym, subst, refl}
use Rattle.engine_history.specs.Jobs.{is_started}
use Rattle.engine_history.specs.declared.entry.EngineEvent.TheVariants as event
use Rattle.job_log.specs.JobLog.{JobLogView}
use Rattle.engine_core.specs.EngineView.{EngineView, IsEngine, jobs_now}
use Rattle.engine_core.specs.Starts.{AreBars}
use Rattle.engine_core.proofs.BarredDrives.{few_barred}
use Rattle.engine_core.proofs.EngineAfterEntries.{either_way, engine_same, engine_start}
use Rattle.engine_core.proofs.engine.Engine.start.Goals as goal

pub invariant_of-self : goal.invariant_of-self
invariant_of-self c =
    let inside = c.self.inside in (
      subst (λ (l : JobLogView). IsEngine (record { log = l; begun = inside.begun.items })) (sym c.append.ensures)
          (engine_same inside.log inside.begun.items (record { by = c.args.by; event = event.JobsFull c.args.job }) refl (λ job item. refl) c.self.invariant.0),
      c.self.invariant.1,
    )

pub start-requires-clause-bars : goal.start-requires-clause-bars
start-requires-clause-bars c =
    let bars = subst (λ (e : EngineView). AreBars e.log.field.shape c.args.kind c.args.bars) (sym c.self.view_is) c.requires.bars in
    few_barred c.self.inside.log.field.shape c.args.bars bars.within c.jobs.ensures.log.field.shape

pub invariant_of-self-2 : goal.invariant_of-self-2
invariant_of-self-2 c =
    let inside = c.self.inside in
    let fresh = subst (λ (e : EngineView). is_started c.args.job (jobs_now e) ≡ false) (sym c.self.view_is) c.requires.fresh in
    let begins = engine_start inside.log inside.begun.items c.args.by c.args.job c.args.kind c.args.priority c.args.epoch c.args.bars c.jobs.ensures.log.field fresh c.self.invariant.0 in (
      either_way c.start.result c.start.ensures.ok c.start.ensures.kept
          (λ more. subst (λ (l : JobLogView). IsEngine (record { log = l; begun = inside.begun.items })) (sym more) begins)
          (λ same. subst (λ (l : JobLogView). IsEngine (record { log = l; begun = inside.begun.items })) (sym same) c.self.invariant.0),
      c.self.invariant.1,
    )
