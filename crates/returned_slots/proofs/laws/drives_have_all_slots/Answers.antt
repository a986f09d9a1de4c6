use Rattle.returned_slots.proofs.FreeCounts.{have_all_slots}
use Rattle.returned_slots.proofs.laws.drives_have_all_slots.Goals as goal

pub returns : goal.returns
returns g c = have_all_slots g.S.Slot.place_of
