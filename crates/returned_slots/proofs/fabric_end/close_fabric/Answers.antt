use Rattle.std.proofs.Common.{◌++◌}
use Rattle.returned_slots.specs.Returns.{free_slots}
use Rattle.returned_slots.proofs.ReturnLemmas.{returns-then}
use Rattle.returned_slots.proofs.fabric_end.close_fabric.Goals as goal

pub returns-clause-ends : goal.returns-clause-ends
returns-clause-ends g c =
    let parts = c.close-board.result in
    let closed = c.close-board.ensures in
    let first = returns-then g.S.Slot.place_of g.S.Slot.content parts.yard parts.retired c.put_held-waited.result c.put_held-stopped.result c.and.result _ _ _
    c.put_held-waited.ensures c.put_held-stopped.ensures c.and.ensures in
    record {
      waited = parts.yard;
      retired = parts.retired;
      pools = parts.pools;
      of_yard = closed.yard;
      of_pools = closed.pools;
      account = closed.account;
      exact = closed.exact;
      returns = returns-then g.S.Slot.place_of g.S.Slot.content (parts.yard ++ parts.retired) (free_slots parts.pools) c.and.result c.put_pools-free.result c.and-2.result _ _ _
          first c.put_pools-free.ensures c.and-2.ensures;
    }
