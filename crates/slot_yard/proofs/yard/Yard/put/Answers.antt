use Rattle.std.proofs.Common.{rules}
use Rattle.slot_yard.proofs.SlotMoved.{IsYard-put}
use Rattle.slot_yard.proofs.yard.Yard.put.Goals as goal

pub invariant_of-self-2 : goal.invariant_of-self-2
invariant_of-self-2 g c =
    let made = IsYard-put g.S.Slot.place_of _ c.args.held c.self.invariant (search rules) (search rules) in
    rw (c.in_ok-push.ensures.ok, c.count.ensures, c.drive-drive.ensures, c.place.ensures) made

pub returns-clause-yard : goal.returns-clause-yard
returns-clause-yard g c = invariant_of-self-2 g c
