use Rattle.std.proofs.Common.{vec_len}
use Rattle.held_slots.proofs.held.spend_all.Given as goal

abbrev pub decreases-loop-held : goal.decreases-loop-held
decreases-loop-held g l = vec_len l.slots
