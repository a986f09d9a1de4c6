use Rattle.std.proofs.Common.{sym}
use Rattle.job_rules.specs.Why.{is_other_out}
use Rattle.job_rules.proofs.OthersOut.{counted-none, counted-one, counted-three, counted-two}
use Rattle.job_rules.proofs.waits.three_out.Goals as goal

pub returns-in_default : goal.returns-in_default
returns-in_default c = sym (counted-none (is_other_out c.args.own.now) c.args.jobs.now (cc))

pub returns-in_default-next_out : goal.returns-in_default-next_out
returns-in_default-next_out c = sym (counted-one (is_other_out c.args.own.now) c.args.jobs.now c.in-Some.first c.requires (cc) (cc))

pub returns-in_default-next_out-2 : goal.returns-in_default-next_out-2
returns-in_default-next_out-2 c = sym (counted-two (is_other_out c.args.own.now) c.args.jobs.now c.in-Some.first c.in-Some-next_out.second c.requires (cc) (cc) (cc))

pub returns : goal.returns
returns c =
    sym (counted-three (is_other_out c.args.own.now) c.args.jobs.now c.in-Some.first c.in-Some-next_out.second c.in-Some-next_out-2.third c.requires (cc) (cc) (cc))
