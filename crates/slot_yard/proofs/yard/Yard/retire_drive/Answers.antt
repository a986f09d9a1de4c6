use Rattle.std.proofs.Common.{rules}
use Rattle.slot_yard.proofs.DriveRetired.{IsYard-without}
use Rattle.slot_yard.proofs.yard.Yard.retire_drive.Goals as goal

pub invariant_of-self-2 : goal.invariant_of-self-2
invariant_of-self-2 g c =
    let made = IsYard-without g.S.Slot.place_of _ c.args.pool.now.drive c.args.pool.now.free c.args.pool.now.slots c.self.invariant (search rules) (search rules) c.drive-drive.ensures.pool.on (search rules) in
    rw (c.move_to.ensures.moved, c.move_to.ensures.rest, c.take_all_into.ensures.taken, c.make_room.ensures.same, c.count_all.ensures, c.from.ensures, c.from-2.ensures, c.free_count.ensures.value, c.len-waiting.ensures.value, c.drive-drive.ensures.value) made

pub returns-clause-yard : goal.returns-clause-yard
returns-clause-yard g c = invariant_of-self-2 g c
