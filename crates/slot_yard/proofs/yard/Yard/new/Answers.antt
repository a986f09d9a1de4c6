use Rattle.std.proofs.Common.{rules}
use Rattle.slot_yard.proofs.NewYard.{IsYard-new}
use Rattle.slot_yard.proofs.yard.Yard.new.Goals as goal

pub invariant_of-result : goal.invariant_of-result
invariant_of-result g c =
    let made = IsYard-new g.S.Slot.place_of c.args.shape c.in_ok-tallies.tallies c.nodes.ensures.within (search rules) in
    rw (c.in_ok-new.ensures, c.nodes-2.ensures.value, c.new-2.ensures.items) made

pub returns-clause-yard : goal.returns-clause-yard
returns-clause-yard g c = invariant_of-result g c
