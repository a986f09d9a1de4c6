use Rattle.std.proofs.Common.{vec_len}
use Rattle.slot_yard_tests.proofs.tests.slots.places_of.Given as goal

abbrev pub decreases-loop-held : goal.decreases-loop-held
decreases-loop-held l = vec_len l.all
