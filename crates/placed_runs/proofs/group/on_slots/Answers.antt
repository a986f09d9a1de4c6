use Rattle.placed_runs.proofs.PlacedSlots.{are_places}
use Rattle.fabric.specs.Views.{fabric_view}
use Rattle.placed_runs.proofs.group.on_slots.Goals as goal

pub new-requires : goal.new-requires
new-requires g c = record { places = are_places g.S.Slot.place_of (fabric_view c.args.desk.now.fabric.now).shape c.args.slots c.requires.cluster c.requires.back.places }
