use Rattle.std.proofs.Common.{◌≡◌, ap, sym, rules}
use Rattle.job_log.specs.JobLog.{JobLogView}
use Rattle.job_log.proofs.StampedEntries.{count_inside}
use Rattle.job_log.proofs.job_log.JobLog.reserve.Goals as goal

pub returns-then-self-len-clause-log_full : goal.returns-then-self-len-clause-log_full
returns-then-self-len-clause-log_full c =
    let count = count_inside c.self.inside c.args.self.now c.self.view_is c.self.invariant.stamped_each in
    let room : c.args.self.now.room ≡ c.self.inside.room = sym (ap (λ (h : JobLogView). h.room) c.self.view_is) in
    let within = c.self.invariant.within in
    let len = c.self.inside.entries.ok.0 in
    search rules

pub returns-then-is_err-clause-log_full : goal.returns-then-is_err-clause-log_full
returns-then-is_err-clause-log_full c =
    let count = count_inside c.self.inside c.args.self.now c.self.view_is c.self.invariant.stamped_each in
    let room : c.args.self.now.room ≡ c.self.inside.room = sym (ap (λ (h : JobLogView). h.room) c.self.view_is) in
    let within = c.self.invariant.within in
    let len = c.self.inside.entries.ok.0 in
    search rules

pub returns-clause-log_full : goal.returns-clause-log_full
returns-clause-log_full c =
    let count = count_inside c.self.inside c.args.self.now c.self.view_is c.self.invariant.stamped_each in
    let room : c.args.self.now.room ≡ c.self.inside.room = sym (ap (λ (h : JobLogView). h.room) c.self.view_is) in
    let within = c.self.invariant.within in
    let len = c.self.inside.entries.ok.0 in
    search rules
