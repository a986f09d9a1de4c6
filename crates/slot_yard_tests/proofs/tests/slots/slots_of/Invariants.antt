use Rattle.std.proofs.Common.{◌≡◌, length}
use Rattle.slot_pool.specs.Pools.{AreSlotsOf}
use Rattle.slot_yard_tests.proofs.tests.slots.slots_of.Given as goal

abbrev pub invariant-loop-number : goal.invariant-loop-number
invariant-loop-number g l = record {
  counted : length l.slots ≡ l.number;
  are : AreSlotsOf g.R.Piece.Slot.place_of l.drive l.slots;
}
