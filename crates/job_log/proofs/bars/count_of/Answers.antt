use Rattle.std.proofs.Common.{◌≡◌, ℕ, ◌+◌, length, length-append, ap, ◌∙◌, arith}
use Rattle.std.specs.List.{filter}
use Rattle.domains.specs.DriveSet.{has}
use Rattle.checkpoints.specs.Saved.{all_drives, drives_on, drives_up_to}
use Rattle.checkpoints.proofs.AllDrives.{filter-up_to}
use Rattle.job_log.proofs.bars.count_of.Goals as goal

pub loop-node-preserved : goal.loop-node-preserved
loop-node-preserved c =
    let front = filter (has c.args.set.now) (drives_up_to c.loop-node.node) in
    let back = filter (has c.args.set.now) (drives_on (c.loop-node.node + 1) 16) in
    let whole : length (filter (has c.args.set.now) (drives_up_to (c.loop-node.node + 1))) ≡ length front + length back =
    ap length (filter-up_to (has c.args.set.now) c.loop-node.node) ∙ length-append front back in
    let before = c.loop-node.invariant.counted in
    let few = c.loop-node.invariant.few in
    let here = c.count_on-count.ensures.value in
    let small = c.count_on-count.ensures.few in
    record { counted = omega (arith, whole, before, here); few = omega (arith, few, small) }

pub returns : goal.returns
unfolding all_drives
returns c =
    let full : c.loop-node.node ≡ 32 = omega arith in
    c.loop-node.invariant.counted ∙ ap (λ (n : ℕ). length (filter (has c.args.set.now) (drives_up_to n))) full
