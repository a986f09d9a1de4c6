use Rattle.plain_file.proofs.SlotOrder.{put}
use Rattle.plain_file.proofs.pools.put_on_top.Goals as goal

pub returns-clause-ordered : goal.returns-clause-ordered
returns-clause-ordered g c =
    put g.S.Slot.place_of c.args.free.now.items c.insert.new.self.items c.end_of-at.result c.args.slot c.in-Ok.ensures.items
    (rw c.deref.ensures.value at c.end_of-at.ensures.front) (rw c.deref.ensures.value at c.end_of-at.ensures.back)
