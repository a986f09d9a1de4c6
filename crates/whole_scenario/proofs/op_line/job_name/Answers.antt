use Rattle.std.proofs.Common.{◌∙◌, sym, arith}
use Rattle.whole_scenario.proofs.NameLists.{job_name-at, job_name_past}
use Rattle.whole_scenario.proofs.op_line.job_name.Goals as goal

pub returns-in-Some : goal.returns-in-Some
returns-in-Some c =
    c.as_str.ensures.value
    ∙ sym (job_name-at c.args.jobs.now c.args.job.number c.from.result c.in-Some.job.now c.if-job-eq0.false c.from.ensures (omega (arith, c.in-Some.ensures.lookup.3.0)) c.in-Some.ensures.lookup.1)

pub returns-in-None : goal.returns-in-None
returns-in-None c = sym (job_name_past c.args.jobs.now c.args.job.number c.from.result c.if-job-eq0.false c.from.ensures c.in-None.ensures.lookup.3)
