use Rattle.std.proofs.Common.{◌∙◌, Option, sym, ap, subst}
use Rattle.job_log.specs.JobLog.{jobs_of, log_of}
use Rattle.job_log.proofs.JobsOfLogs.{started_after}
use Rattle.engine_core.specs.EngineView.{EngineView, jobs_now}
use Rattle.engine_core.specs.Outs.{IsFirstOut, first_out_of}
use Rattle.engine_core.specs.declared.outs.OutItem.{OutItem}
use Rattle.engine_core.proofs.FirstOutItems.{first_out_is}
use Rattle.engine_core.proofs.engine.Engine.first_out.Goals as goal

pub returns : goal.returns
returns c =
    let log = c.self.inside.log in
    let first = subst (λ (o : Option OutItem). IsFirstOut (jobs_of log) o) (sym (c.first_out_of.ensures ∙ ap first_out_of c.jobs.ensures.value)) (first_out_is (jobs_of log) (started_after log.field (log_of log)).apart) in
    subst (λ (e : EngineView). IsFirstOut (jobs_now e) c.first_out_of.result) c.self.view_is first
