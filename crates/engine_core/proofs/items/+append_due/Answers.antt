use Rattle.std.proofs.Common.{◌≡◌, suc, ◌-◌, List, Some, sym, ap, subst, ◌∙◌, arith, rules}
use Rattle.engine_history.specs.Steps.{due}
use Rattle.engine_history.specs.declared.job.JobState.{JobState}
use Rattle.job_log.specs.JobLog.{JobLogView, jobs_of, log_of}
use Rattle.job_log.proofs.JobsOfLogs.{started_after}
use Rattle.engine_core.specs.EngineView.{due_events, log_with_all}
use Rattle.engine_core.specs.Items.{IsDueWithin}
use Rattle.engine_core.proofs.DueEntries.{due_fits}
use Rattle.engine_core.proofs.EngineAfterEntries.{due_step, entries_step}
use Rattle.engine_core.proofs.items.+append_due.Goals as goal

pub append-requires-clause-fits : goal.append-requires-clause-fits
append-requires-clause-fits t c =
    let is : due (jobs_of c.args.log.now) ≡ Some c.in-Some.event = ap (λ (js : List JobState). due js) (sym c.jobs.ensures.value) ∙ sym c.due.ensures ∙ c.in-Some.is in
    due_fits (jobs_of c.args.log.now) c.in-Some.event (started_after c.args.log.now.field (log_of c.args.log.now)).apart is

pub append_due-requires : goal.append_due-requires
append_due-requires t c =
    let is : due (jobs_of c.args.log.now) ≡ Some c.in-Some.event = ap (λ (js : List JobState). due js) (sym c.jobs.ensures.value) ∙ sym c.due.ensures ∙ c.in-Some.is in
    let counted : c.args.most ≡ suc (c.args.most - 1) = omega (arith, c.if-most-eq0.false) in
    let within = due_step c.args.most (c.args.most - 1) c.args.log.now c.args.by c.in-Some.event counted is c.requires.within in
    let spare = ap (λ (l : JobLogView). l.spare) c.append.ensures in
    (search rules, (omega (arith, spare, c.requires.spare), subst (λ (l : JobLogView). IsDueWithin (c.args.most - 1) l.field (jobs_of l)) (sym c.append.ensures) within))

pub returns-clause-entries : goal.returns-clause-entries
returns-clause-entries t c =
    let is : due (jobs_of c.args.log.now) ≡ Some c.in-Some.event = ap (λ (js : List JobState). due js) (sym c.jobs.ensures.value) ∙ sym c.due.ensures ∙ c.in-Some.is in
    let counted : c.args.most ≡ suc (c.args.most - 1) = omega (arith, c.if-most-eq0.false) in
    c.append_due.ensures.entries
    ∙ ap (λ (l : JobLogView). log_with_all l c.args.by (due_events (c.args.most - 1) l.field (jobs_of l))) c.append.ensures
    ∙ entries_step c.args.most (c.args.most - 1) c.args.log.now c.args.by c.in-Some.event counted is
