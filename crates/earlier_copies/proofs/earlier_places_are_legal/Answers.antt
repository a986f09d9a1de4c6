use Rattle.earlier_copies.proofs.MadePlaces.{earlier_places_are_legal}
use Rattle.earlier_copies.proofs.earlier_places_are_legal.Goals as goal

pub returns : goal.returns
returns c = earlier_places_are_legal
