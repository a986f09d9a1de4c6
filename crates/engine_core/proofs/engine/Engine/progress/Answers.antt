use Rattle.std.proofs.Common.{◌≡◌, refl, sym, ap, subst, ◌∙◌, rules}
use Rattle.engine_history.specs.Jobs.{views_of}
use Rattle.engine_history.specs.declared.entry.EngineEntry.{EngineEntry}
use Rattle.engine_history.specs.declared.entry.EngineEvent.TheVariants as event
use Rattle.job_log.specs.Jobs.{place_of}
use Rattle.job_log.specs.JobLog.{JobLogView, jobs_of, log_of}
use Rattle.job_log.specs.JobLog.{with_entry as log_with}
use Rattle.job_log.proofs.JobsOfLogs.{started_after}
use Rattle.engine_core.specs.BegunItems.{begun_at}
use Rattle.engine_core.specs.EngineView.{EngineView, IsEngine, NoOtherBegan}
use Rattle.job_rules.specs.Rank.{AreApart}
use Rattle.engine_core.proofs.BegunAfterEntries.{place-at_job}
use Rattle.engine_core.proofs.DueEntries.{jobs_of-entry}
use Rattle.engine_core.proofs.EngineAfterEntries.{engine_progress}
use Rattle.engine_core.proofs.JobsSeen.{views_are_apart}
use Rattle.engine_core.proofs.engine.Engine.progress.Goals as goal

pub chosen-requires : goal.chosen-requires
chosen-requires c =
    let started = started_after c.append.new.self.field (log_of c.append.new.self) in
    let seen : c.deref.result.now ≡ views_of (jobs_of c.append.new.self) = search rules in
    subst AreApart (sym seen) (views_are_apart 0 (jobs_of c.append.new.self) started.apart started.ordered)

pub invariant_of-self : goal.invariant_of-self
invariant_of-self c =
    let log = c.self.inside.log in
    let begun = c.self.inside.begun.items in
    let work = c.args.work.now in
    let own = subst (λ (e : EngineView). NoOtherBegan e work.job work.item) (sym c.self.view_is) c.requires.own in (
      subst (λ (l : JobLogView). IsEngine (record { log = l; begun = begun })) (sym c.append.ensures) (engine_progress log begun c.args.by work.job work.item c.args.next own c.self.invariant.0),
      search rules,
    )

pub returns-clause-own : goal.returns-clause-own
returns-clause-own c =
    let log = c.self.inside.log in
    let begun = c.self.inside.begun.items in
    let work = c.args.work.now in
    let e : EngineEntry = record { by = c.args.by; event = event.Progress work.job work.item c.args.next } in
    let own = subst (λ (x : EngineView). NoOtherBegan x work.job work.item) (sym c.self.view_is) c.requires.own in
    let place : place_of work.job (jobs_of (log_with log e)) ≡ place_of work.job (jobs_of log) = ap (place_of work.job) (jobs_of-entry log e) ∙ place-at_job work.job work.job _ (jobs_of log) (λ j. refl) in
    subst (λ (l : JobLogView). NoOtherBegan (record { log = l; begun = begun }) work.job work.item) (sym c.append.ensures) (λ b is. own b (ap (λ o. begun_at begun o work.item) (sym place) ∙ is))
