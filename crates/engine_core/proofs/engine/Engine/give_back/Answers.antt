use Rattle.std.proofs.Common.{List, None, sym, subst}
use Rattle.std.specs.Prelude.{slice_set}
use Rattle.engine_history.specs.declared.job.JobState.{JobState}
use Rattle.job_log.specs.JobLog.{JobLogView, jobs_of}
use Rattle.engine_core.specs.EngineView.{IsEngine}
use Rattle.engine_core.specs.Items.{IsOutAt}
use Rattle.engine_core.proofs.EngineAfterEntries.{engine_given_back}
use Rattle.engine_core.proofs.engine.Engine.give_back.Goals as goal

pub invariant_of-self : goal.invariant_of-self
invariant_of-self c =
    let log = c.self.inside.log in
    let begun = c.self.inside.begun.items in
    let work = c.args.work.now in
    let w = subst (λ (js : List JobState). IsOutAt js work.job work.item c.out_place.result) c.jobs.ensures.value c.out_place.ensures in
    let h = subst (λ o. IsOutAt (jobs_of log) work.job work.item o) c.in-Some.is w in (
      subst (λ (l : JobLogView). IsEngine (record { log = l; begun = slice_set begun c.in-Some.place None })) (sym c.append.ensures)
          (engine_given_back log begun c.args.by work.job h.0 work.item c.in-Some.place c.args.next h.1 h.2 c.self.invariant.0),
      c.self.invariant.1,
    )
