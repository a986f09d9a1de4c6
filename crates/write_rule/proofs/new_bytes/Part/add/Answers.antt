use Rattle.std.proofs.Common.{rules, ◌-◌, length, take, drop, append_assoc, arith}
use Rattle.std.proofs.lemmas.List.{take_all, length-drop}
use Rattle.write_rule.proofs.Windows.{window}
use Rattle.write_rule.proofs.new_bytes.Part.add.Goals as goal

pub returns-clause-taken : goal.returns-clause-taken
returns-clause-taken c rest =
    let whole = window c.args.source.now rest c.args.self.now.skip c.args.self.now.left c.min-skipped.result c.min-taken.result (search rules) (search rules) in
    let long = length-drop c.min-skipped.result c.args.source.now in
    let sliced = take_all (length c.args.source.now - c.min-skipped.result) (drop c.min-skipped.result c.args.source.now) (omega (arith, long)) in
    let joined = append_assoc c.args.self.now.bytes.items (take c.min-taken.result (drop c.min-skipped.result c.args.source.now))
    (take (c.args.self.now.left - c.min-taken.result) (drop (c.args.self.now.skip - c.min-skipped.result) rest)) in
    search (rules, whole, joined, sliced)
