use Rattle.std.proofs.Common.{length}
use Rattle.map_switches.proofs.fresh_groups.+give_generations.Given as goal

abbrev pub decreases-give_generations : goal.decreases-give_generations
decreases-give_generations g l = length l.stripes.now
