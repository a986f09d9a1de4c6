use Rattle.std.proofs.Common.{length, ap, ◌∙◌, arith}
use Rattle.striped_groups.specs.StoredGroups.{GroupSlots}
use Rattle.map_switches.proofs.SwitchBounds.{counted}
use Rattle.map_switches.proofs.exchanged.put_groups.Goals as goal

pub count_units-requires-clause-few : goal.count_units-requires-clause-few
count_units-requires-clause-few g c =
    let most =
    (counted c.args.groups.now.items c.deref.result.now c.args.next c.args.size c.args.change c.requires.bounds
    (c.deref.ensures.value ∙ c.replace-gone.ensures.groups)).0 in
    omega (arith, most)

pub count_units-requires-clause-places : goal.count_units-requires-clause-places
count_units-requires-clause-places g c =
    (counted c.args.groups.now.items c.deref.result.now c.args.next c.args.size c.args.change c.requires.bounds
    (c.deref.ensures.value ∙ c.replace-gone.ensures.groups)).1

pub overflow_add-units : goal.overflow_add-units
overflow_add-units g c =
    let most =
    (counted c.args.groups.now.items c.deref.result.now c.args.next c.args.size c.args.change c.requires.bounds
    (c.deref.ensures.value ∙ c.replace-gone.ensures.groups)).0 in
    let units = c.count_units.ensures.most in
    let root = c.requires.bounds.root_narrow in
    let len = c.len.ensures in
    let view = ap (λ (x : GroupSlots g.row.S.Denot). length x.group.places) c.inode.view_is in
    let made = ap (λ (x : GroupSlots g.row.S.Denot). length x.group.places) c.with_generation-inode.ensures in
    omega (arith, most, units, root, len, view, made)
