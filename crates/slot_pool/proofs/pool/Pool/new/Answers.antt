use Rattle.std.proofs.Common.{rules}
use Rattle.slot_pool.proofs.NewPool.{IsPool-new}
use Rattle.slot_pool.proofs.pool.Pool.new.Goals as goal

pub invariant_of-result : goal.invariant_of-result
invariant_of-result g c =
    let made = IsPool-new g.S.Slot.place_of c.args.drive c.args.slots c.node-node.ensures.within c.requires.few c.requires.slots in
    rw (c.reverse.ensures.items, c.into_vec-free.ensures, c.in-Ok.ensures, c.len-count.ensures) (made, search rules)
