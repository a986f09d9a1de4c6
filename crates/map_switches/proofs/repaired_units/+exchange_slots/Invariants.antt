use Rattle.std.proofs.Common.{length}
use Rattle.map_switches.proofs.repaired_units.+exchange_slots.Given as goal

abbrev pub decreases-exchange_slots : goal.decreases-exchange_slots
decreases-exchange_slots g l = length l.slots.now
