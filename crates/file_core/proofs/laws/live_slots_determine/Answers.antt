use Rattle.file_core.proofs.StoredPlacesLemmas.{live_slots_determine}
use Rattle.file_core.proofs.laws.live_slots_determine.Goals as goal

pub returns : goal.returns
returns g c = live_slots_determine g.S.Slot.place_of g.S.Slot.content g.S.Slot.len_of
