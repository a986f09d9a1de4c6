use Rattle.slot_pool.proofs.ClosedPool.{all_free-closed, AreEvenFrom}
use Rattle.slot_pool_tests.proofs.tests.race.close_even.Goals as goal

pub returns : goal.returns
returns g c =
    let even : AreEvenFrom 0 c.push_reserved-2.new.self.items = rw c.push_reserved-2.ensures.items (rw c.push_reserved.ensures.items (rw c.requires.room.0 (c.requires.zero, (c.requires.one, tt)))) in
    all_free-closed g.S.Slot.place_of c.close-pool.result _ c.free_count-free.ensures.pool c.close-pool.ensures even
