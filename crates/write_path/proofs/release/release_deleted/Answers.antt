-- The groups' slots go first.
use Rattle.std.proofs.Common.{sym, subst}
use Rattle.domains.specs.Place.{IsPlaceOf}
use Rattle.held_slots.specs.Slots.{place_from}
use Rattle.fabric.specs.Views.{fabric_view}
use Rattle.slot_search.specs.HandSeats.{AreOfCluster}
use Rattle.write_path.specs.Releases.{ReleasesEach, slots_in}
use Rattle.write_path.proofs.ReleasedSlots.{all_before, all_behind, releases_both}
use Rattle.write_path.proofs.release.release_deleted.Goals as goal

pub release_groups-groups-requires-clause-places : goal.release_groups-groups-requires-clause-places
release_groups-groups-requires-clause-places g c κs within =
    all_before (λ x. IsPlaceOf (fabric_view c.args.fabric.now).shape (place_from (g.S.Slot.place_of x))) (slots_in c.args.deleted.groups) c.args.deleted.inode.slots c.requires.places

pub release_slots-inode-requires-clause-places : goal.release_slots-inode-requires-clause-places
release_slots-inode-requires-clause-places g c κs within =
    subst (λ l. AreOfCluster g.S.Slot.place_of (fabric_view c.args.fabric.now).shape l) (sym c.into_slots.ensures)
    (all_behind (λ x. IsPlaceOf (fabric_view c.args.fabric.now).shape (place_from (g.S.Slot.place_of x))) (slots_in c.args.deleted.groups) c.args.deleted.inode.slots c.requires.places)

pub returns-then-groups-clause-all : goal.returns-then-groups-clause-all
returns-then-groups-clause-all g c gone =
    releases_both g.S.Slot.place_of (slots_in c.args.deleted.groups) c.args.deleted.inode.slots (fabric_view c.args.fabric.now).shape c.args.view.now
    c.args.hand.now c.release_groups-groups.new.hand c.release_slots-inode.new.hand (c.release_groups-groups.ensures.all c.if-groups.true)
    (subst (λ l. ReleasesEach g.S.Slot.place_of l (fabric_view c.args.fabric.now).shape c.args.view.now c.release_groups-groups.new.hand c.release_slots-inode.new.hand) c.into_slots.ensures
    (c.release_slots-inode.ensures.all gone))
