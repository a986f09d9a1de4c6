use Rattle.std.proofs.Common.{◌≡◌, ℕ, ◌+◌, List, ◌++◌, ◌∙◌, ap, sym, arith}
use Rattle.std.specs.List.{filter}
use Rattle.domains.specs.Drive.{Drive}
use Rattle.domains.specs.DriveSet.{has}
use Rattle.checkpoints.specs.Saved.{all_drives, drives_on, drives_up_to}
use Rattle.checkpoints.proofs.AllDrives.{filter-up_to}
use Rattle.checkpoints.proofs.drives.drives_of.Goals as goal

pub loop-node-preserved : goal.loop-node-preserved
loop-node-preserved c =
    c.in_ok-append_node.ensures
    ∙ ap (λ (front : List Drive). front ++ filter (has c.args.set.now) (drives_on (c.loop-node.node + 1) 16)) c.loop-node.invariant
    ∙ sym (filter-up_to (has c.args.set.now) c.loop-node.node)

pub returns : goal.returns
unfolding all_drives
returns c =
    let full : c.loop-node.node ≡ 32 = omega arith in
    c.loop-node.invariant ∙ ap (λ (n : ℕ). filter (has c.args.set.now) (drives_up_to n)) full
