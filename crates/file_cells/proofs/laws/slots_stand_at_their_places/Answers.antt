use Rattle.file_cells.proofs.StandingSlots.{slots_stand}
use Rattle.file_cells.proofs.laws.slots_stand_at_their_places.Goals as goal

pub returns : goal.returns
returns g c = slots_stand g.S.Slot.place_of g.S.Slot.content g.S.Slot.len_of
