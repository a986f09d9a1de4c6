use Rattle.std.proofs.Common.{◌≡◌, ◌+◌, length, map, reverse}
use Rattle.fabric.specs.NewFabric.{AreNewPoolsFrom, IsOpening}
use Rattle.fabric.proofs.new_pool.add_pools.Given as goal

abbrev pub invariant-loop-pool : goal.invariant-loop-pool
invariant-loop-pool g l = record {
  opening : IsOpening g.S.Slot.place_of l.cells l.hands.items;
  count : length l.cells.pools.items + length l.pools.items ≡ length l.fn.pools.items;
  pools : AreNewPoolsFrom g.S.Slot.place_of l.fn.cells.shape (length l.cells.pools.items) (reverse l.pools.items);
  cells : (l.cells.shape ≡ l.fn.cells.shape) × (l.cells.board ≡ l.fn.cells.board);
  boards : map (λ hand. hand.board) l.hands.items ≡ map (λ hand. hand.board) l.fn.hands.items;
}

abbrev pub decreases-loop-pool : goal.decreases-loop-pool
decreases-loop-pool g l = length l.pools.items
