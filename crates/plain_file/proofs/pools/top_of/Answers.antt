use Rattle.std.proofs.Common.{arith}
use Rattle.domains.specs.Drive.{same_drive}
use Rattle.held_slots.specs.Slots.{place_from}
use Rattle.plain_file.proofs.SlotOrder.{none_behind}
use Rattle.plain_file.proofs.pools.top_of.Goals as goal

pub returns-clause-top : goal.returns-clause-top
returns-clause-top g c =
    none_behind (λ x. same_drive c.args.drive (place_from (g.S.Slot.place_of x)).drive) c.args.free.now c.loop-at.top c.loop-at.at
    (omega arith) c.requires c.loop-at.invariant
