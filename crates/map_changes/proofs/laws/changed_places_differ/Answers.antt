use Rattle.map_changes.proofs.ChangedPlaces.{changed_places_differ}
use Rattle.map_changes.proofs.laws.changed_places_differ.Goals as goal

pub returns : goal.returns
returns c = changed_places_differ
