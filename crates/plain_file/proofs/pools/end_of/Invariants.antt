use Rattle.std.proofs.Common.{◌≡◌, take}
use Rattle.held_slots.specs.Slots.{place_from, count_at}
use Rattle.plain_file.specs.FreeOrder.{is_before}
use Rattle.plain_file.proofs.pools.end_of.Given as goal

-- no slot so far is of a later drive
abbrev pub invariant-loop-at : goal.invariant-loop-at
invariant-loop-at g l =
    count_at g.S.Slot.place_of (λ s. is_before (place_from (g.S.Slot.place_of l.slot)).drive s.drive) (take l.at l.free) ≡ 0
