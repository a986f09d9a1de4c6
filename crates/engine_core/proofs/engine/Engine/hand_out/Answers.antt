use Rattle.std.proofs.Common.{◌≡◌, Some, None, sym, subst, rules}
use Rattle.engine_history.specs.Jobs.{find_job, views_of}
use Rattle.engine_history.specs.Steps.{due}
use Rattle.engine_history.specs.declared.entry.EngineEvent.TheVariants as event
use Rattle.job_log.specs.JobLog.{JobLogView, jobs_of, log_of}
use Rattle.job_log.proofs.JobsOfLogs.{started_after}
use Rattle.engine_core.specs.EngineView.{EngineView, IsEngine, jobs_now}
use Rattle.std.specs.Prelude.{IfSome}
use Rattle.job_rules.specs.Rank.{AreApart}
use Rattle.engine_history.specs.Steps.{IsHandOut, next_job}
use Rattle.engine_core.specs.Tasks.{task_in}
use Rattle.engine_core.specs.HandOuts.{HandsOut}
use Rattle.engine_core.proofs.DueEntries.{legal_free}
use Rattle.engine_core.proofs.EngineAfterEntries.{engine_hand_out}
use Rattle.engine_core.proofs.JobsSeen.{IsHandedOut, hand_out_legal, handed_out_so, served_job, views_are_apart}
use Rattle.engine_core.proofs.engine.Engine.hand_out.Goals as goal

pub next_job-requires-clause-apart : goal.next_job-requires-clause-apart
next_job-requires-clause-apart c =
    let log = c.self.inside.log in
    let started = started_after log.field (log_of log) in
    let seen : c.deref.result.now ≡ views_of (jobs_of log) = search rules in
    subst AreApart (sym seen) (views_are_apart 0 (jobs_of log) started.apart started.ordered)

pub next_task-task-requires-clause-known : goal.next_task-task-requires-clause-known
next_task-task-requires-clause-known c =
    let log = c.self.inside.log in
    let next : next_job (jobs_of log) ≡ Some c.in-Some.next = search rules in
    let served = served_job (jobs_of log) c.in-Some.next next in
    let found : find_job c.in-Some.next.job (jobs_of log) ≡ Some served.0 = served.1 in
    search rules

module _ (c : goal.After-append) where
  abbrev log : JobLogView
  log = c.self.inside.log

  next : next_job (jobs_of log) ≡ Some c.in-Some.next
  next = search rules

  tasks : IfSome (find_job c.in-Some.next.job (jobs_of log)) (λ j. c.next_task-task.result ≡ task_in j c.args.most)
  tasks = search rules

  handed : IsHandedOut (jobs_of log) c.args.most c.in-Some.next c.next_task-task.result
  handed = handed_out_so (jobs_of log) c.args.most c.in-Some.next c.next_task-task.result c.requires.some c.requires.few next tasks

pub invariant_of-self-2 : goal.invariant_of-self-2
invariant_of-self-2 c =
    let begun = c.self.inside.begun.items in
    let task = c.next_task-task.result in
    let h = handed c in (
      subst (λ (l : JobLogView). IsEngine (record { log = l; begun = begun })) (sym c.append.ensures)
          (engine_hand_out (log c) begun c.args.by task.job task.phase task.first task.count h.state h.own h.run c.self.invariant.0),
      search rules,
    )

pub returns-clause-ok : goal.returns-clause-ok
returns-clause-ok c =
    let h = handed c in
    subst (λ (e : EngineView). HandsOut e c.args.most c.next_task-task.result) c.self.view_is (record { view = c.in-Some.next; served = next c; state = h.state; found = h.found; items = h.items })

pub returns-clause-legal : goal.returns-clause-legal
returns-clause-legal c =
    let now = c.args.self.now in
    let task = c.next_task-task.result in
    let none = subst (λ (e : EngineView). due (jobs_now e) ≡ None) c.self.view_is c.self.invariant.0.due_none in
    legal_free now c.args.by (event.HandOut task.job task.phase task.first task.count) none (λ world same.
    subst (λ (e : EngineView). IsHandOut (jobs_now e) task.job task.phase task.first task.count) c.self.view_is (hand_out_legal (jobs_of (log c)) c.args.most c.in-Some.next task (next c) (handed c)))
