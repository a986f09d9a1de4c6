-- The inode's slots go back, and then the groups'.
use Rattle.std.proofs.Common.{ℕ, IfSome, subst, ◌∙◌}
use Rattle.fabric.specs.Views.{fabric_view}
use Rattle.placed_runs.specs.PlacedRuns.{HoldsLess, RetiresOne, slots_of_groups}
use Rattle.placed_runs.proofs.RetiredUnit.{less_then, stays_retired}
use Rattle.placed_runs.proofs.returned.give_run_back.Goals as goal

pub returns-then-inode_went-clause-all : goal.returns-then-inode_went-clause-all
returns-then-inode_went-clause-all g c went =
    let shape = (fabric_view c.args.fabric.now).shape in
    less_then g.S.Slot.place_of shape (slots_of_groups c.args.run.groups) c.args.run.inode.slots c.args.hand.now c.give_slots_back-inode_went.new.hand c.give_groups_back-groups_went.new.hand
    (subst (λ l. HoldsLess g.S.Slot.place_of shape l c.args.hand.now c.give_slots_back-inode_went.new.hand) (c.into_vec-slots.ensures ∙ c.into_slots.ensures)
    (c.give_slots_back-inode_went.ensures.all c.if-inode_went.true))
    (c.give_groups_back-groups_went.ensures.all went)

pub returns-then-inode_went-clause-retired : goal.returns-then-inode_went-clause-retired
returns-then-inode_went-clause-retired g c went =
    let shape = (fabric_view c.args.fabric.now).shape in
    stays_retired g.S.Slot.place_of shape c.args.failed c.args.run.inode.slots c.args.hand.now c.give_slots_back-inode_went.new.hand c.give_groups_back-groups_went.new.hand
    c.give_groups_back-groups_went.ensures.yard
    (subst (λ l. IfSome c.args.failed (λ (p : ℕ). RetiresOne g.S.Slot.place_of shape p l c.args.hand.now c.give_slots_back-inode_went.new.hand))
    (c.into_vec-slots.ensures ∙ c.into_slots.ensures) (c.give_slots_back-inode_went.ensures.retired c.if-inode_went.true))
