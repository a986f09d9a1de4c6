use Rattle.std.proofs.Common.{◌≡◌, ◌<◌, length, true}
use Rattle.domains.specs.Drive.{same_drive}
use Rattle.held_slots.specs.Slots.{place_from}
use Rattle.plain_file.specs.FreeOrder.{StandInOrder, HasLowerNumber}
use Rattle.plain_file.proofs.SlotOrder.{taken}
use Rattle.plain_file.proofs.pools.take_top.Goals as goal

module _ (g : _) (c : goal.After-remove g) where
  both : StandInOrder g.S.Slot.place_of c.args.free.now.items
      → StandInOrder g.S.Slot.place_of c.remove.new.self.items × HasLowerNumber g.S.Slot.place_of c.remove.new.self.items c.remove.result
  both =
      let free = c.args.free.now.items in
      let at = c.top_of-at.result in
      let x = c.remove.result in
      let within : at < length free = rw c.deref.ensures.value at c.top_of-at.ensures.within in
      let on : same_drive c.args.drive (place_from (g.S.Slot.place_of x)).drive ≡ true =
      rw (c.deref.ensures.value, ← c.remove.ensures.value) at (c.top_of-at.ensures.on x) in
      taken g.S.Slot.place_of free c.remove.new.self.items at x c.args.drive within c.remove.ensures.value c.remove.ensures.by_index.2 on
      (rw c.deref.ensures.value at c.top_of-at.ensures.top)

pub returns-clause-ordered : goal.returns-clause-ordered
returns-clause-ordered g c = λ order. (both g c order).0

pub returns-clause-lowest : goal.returns-clause-lowest
returns-clause-lowest g c = λ order. (both g c order).1
