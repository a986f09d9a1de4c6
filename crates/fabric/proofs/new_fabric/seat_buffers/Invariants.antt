use Rattle.std.proofs.Common.{◌≡◌, ◌≤◌, ℕ, [], length, Some}
use Rattle.std.specs.Prelude.{slice_get, vec_capacity}
use Rattle.fabric.proofs.new_fabric.seat_buffers.Given as goal

abbrev pub invariant-loop-hand : goal.invariant-loop-hand
invariant-loop-hand g l = record {
  many : length l.buffers.items ≡ l._hand;
  room : l.hands ≤ vec_capacity l.buffers;
  each : (k : ℕ) (room : _) → slice_get l.buffers.items k ≡ Some room → (room.items ≡ []) × (l.each ≤ vec_capacity room);
}
