use Rattle.std.proofs.Common.{◌≡◌, ◌≤◌, length}
use Rattle.std.specs.Prelude.{vec_capacity}
use Rattle.fabric.proofs.NewFabric.{Unfolds}
use Rattle.fabric.proofs.new_fabric.make_hands.Given as goal

abbrev pub invariant-loop-board : goal.invariant-loop-board
invariant-loop-board g l = record {
  boards : Unfolds (λ hand. hand.board) l.fn.buffers.board.items l.buffers.board.items l.hands.items;
  yards : Unfolds (λ hand. hand.yard) l.fn.buffers.yard.items l.buffers.yard.items l.hands.items;
  pools : Unfolds (λ hand. hand.pools) l.fn.pools.items l.pools.items l.hands.items;
  yard_left : length l.buffers.yard.items ≡ length l.buffers.board.items;
  pools_left : length l.pools.items ≡ length l.buffers.board.items;
  room : length l.fn.buffers.board.items ≤ vec_capacity l.hands;
  board_room : vec_capacity l.buffers.board ≡ vec_capacity l.fn.buffers.board;
  yard_room : vec_capacity l.buffers.yard ≡ vec_capacity l.fn.buffers.yard;
  same : l.buffers.pools ≡ l.fn.buffers.pools;
  same_closed : l.buffers.closed ≡ l.fn.buffers.closed;
}

abbrev pub decreases-loop-board : goal.decreases-loop-board
decreases-loop-board g l = length l.buffers.board.items
