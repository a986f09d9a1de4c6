use Rattle.file_core.proofs.StoredPlacesLemmas.{places_hold_the_file}
use Rattle.file_core.proofs.laws.places_hold_the_file.Goals as goal

pub returns : goal.returns
returns g c = places_hold_the_file g.S.Slot.place_of g.S.Slot.content g.S.Slot.len_of
