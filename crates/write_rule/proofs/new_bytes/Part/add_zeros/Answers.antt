use Rattle.std.proofs.Common.{rules, ℕ, ◌-◌, take, drop, replicate, append_assoc}
use Rattle.std.proofs.lemmas.List.{length-replicate}
use Rattle.write_rule.proofs.Windows.{window, zeros_part, grown}
use Rattle.write_rule.proofs.new_bytes.Part.add_zeros.Goals as goal

pub returns-clause-taken : goal.returns-clause-taken
returns-clause-taken c rest =
    let more = grown c.args.self.now.bytes.items c.len.result c.min-taken.result (search rules) in
    let long = length-replicate {A = ℕ} c.args.count 0 in
    let whole = window (replicate c.args.count 0) rest c.args.self.now.skip c.args.self.now.left c.min-skipped.result c.min-taken.result (search (rules, long)) (search (rules, long)) in
    let zeros = zeros_part c.args.count c.min-skipped.result c.min-taken.result (search rules) in
    let joined = append_assoc c.args.self.now.bytes.items (replicate c.min-taken.result 0)
    (take (c.args.self.now.left - c.min-taken.result) (drop (c.args.self.now.skip - c.min-skipped.result) rest)) in
    search (rules, whole, joined, zeros, more)
