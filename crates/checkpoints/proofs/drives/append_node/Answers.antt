use Rattle.std.proofs.Common.{◌≡◌, ℕ, ◌++◌, ◌∙◌, ap, arith}
use Rattle.std.specs.List.{filter}
use Rattle.domains.specs.DriveSet.{has}
use Rattle.checkpoints.specs.Saved.{drives_on}
use Rattle.checkpoints.proofs.drives.append_node.Goals as goal

pub returns : goal.returns
returns c =
    let full : c.loop-number.number ≡ 16 = omega arith in
    c.loop-number.invariant ∙ ap (λ (n : ℕ). c.args.drives.now.items ++ filter (has c.args.set.now) (drives_on c.args.node n)) full
