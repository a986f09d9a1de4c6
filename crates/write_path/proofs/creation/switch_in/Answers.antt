-- If the file is not created, its slots may go back.
use Rattle.std.proofs.Common.{◌≡◌, true, sym, subst, ◌∙◌}
use Rattle.domains.specs.Drive.{AreApart, is_in}
use Rattle.domains.specs.Shape.{Shape}
use Rattle.fabric.specs.Views.{fabric_view}
use Rattle.slot_search.specs.HandSeats.{AreOfCluster, drives_of_all}
use Rattle.write_path.proofs.InodeSlots.{inode_slots}
use Rattle.write_path.proofs.creation.switch_in.Goals as goal

pub release_all-requires-clause-places : goal.release_all-requires-clause-places
release_all-requires-clause-places g c κs bounds k default within =
    let place_of = g.S.Slot.place_of in
    subst (λ l. AreOfCluster place_of (fabric_view c.args.desk.now.fabric.now).shape l) (sym (c.into_vec.ensures ∙ c.in-Err.ensures.back))
    (subst (λ (s : Shape). AreOfCluster place_of s c.args.slots) c.requires.shape (inode_slots place_of c.args.file.now c.args.view.now c.args.slots c.requires.legal).0) k default within

pub release_all-requires-clause-apart : goal.release_all-requires-clause-apart
release_all-requires-clause-apart g c κs bounds =
    let place_of = g.S.Slot.place_of in
    subst (λ l. AreApart (drives_of_all place_of l)) (sym (c.into_vec.ensures ∙ c.in-Err.ensures.back)) (inode_slots place_of c.args.file.now c.args.view.now c.args.slots c.requires.legal).1

pub release_all-requires-clause-up : goal.release_all-requires-clause-up
release_all-requires-clause-up g c κs bounds d there =
    let place_of = g.S.Slot.place_of in
    (inode_slots place_of c.args.file.now c.args.view.now c.args.slots c.requires.legal).2 d (subst (λ l. is_in (drives_of_all place_of l) d ≡ true) (c.into_vec.ensures ∙ c.in-Err.ensures.back) there)
