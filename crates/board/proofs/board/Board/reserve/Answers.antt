use Rattle.std.proofs.Common.{◌≡◌, ap, sym, rules}
use Rattle.board.specs.History.{History}
use Rattle.board.proofs.BoardFields.{count_inside}
use Rattle.board.proofs.board.Board.reserve.Goals as goal

pub returns-then-self-len-clause-log_full : goal.returns-then-self-len-clause-log_full
returns-then-self-len-clause-log_full c =
    let count = count_inside c.self.inside c.args.self.now c.self.view_is c.self.invariant.stamped in
    let room : c.args.self.now.room ≡ c.self.inside.room = sym (ap (λ (h : History). h.room) c.self.view_is) in
    let within = c.self.invariant.within in
    let len = c.self.inside.entries.ok.0 in
    search rules

pub returns-then-is_err-clause-log_full : goal.returns-then-is_err-clause-log_full
returns-then-is_err-clause-log_full c =
    let count = count_inside c.self.inside c.args.self.now c.self.view_is c.self.invariant.stamped in
    let room : c.args.self.now.room ≡ c.self.inside.room = sym (ap (λ (h : History). h.room) c.self.view_is) in
    let within = c.self.invariant.within in
    let len = c.self.inside.entries.ok.0 in
    search rules

pub returns-clause-log_full : goal.returns-clause-log_full
returns-clause-log_full c =
    let count = count_inside c.self.inside c.args.self.now c.self.view_is c.self.invariant.stamped in
    let room : c.args.self.now.room ≡ c.self.inside.room = sym (ap (λ (h : History). h.room) c.self.view_is) in
    let within = c.self.invariant.within in
    let len = c.self.inside.entries.ok.0 in
    search rules
