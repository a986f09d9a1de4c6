use Rattle.earlier_copies.proofs.MadePlaces.{earlier_places_find_groups}
use Rattle.earlier_copies.proofs.earlier_places_find_groups.Goals as goal

pub returns : goal.returns
returns c = earlier_places_find_groups
