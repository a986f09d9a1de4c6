-- The file is deleted, and its slots go back.
use Rattle.std.proofs.Common.{◌≡◌, ℕ, ◌++◌, true, inr, refl, sym, subst, rules}
use Rattle.domains.specs.Shape.{Shape}
use Rattle.fabric.specs.Views.{fabric_view}
use Rattle.striped_groups.specs.StoredGroups.{list_of}
use Rattle.slot_search.specs.HandSeats.{AreOfCluster}
use Rattle.file_turns.specs.Paths.{SeesBoard}
use Rattle.write_path.specs.Releases.{ReleasesEach, slots_in}
use Rattle.write_path.proofs.HeldSlots.{slots_deleted, slots_within}
use Rattle.write_path.proofs.removal.delete_in.Goals as goal

pub release_deleted-requires-clause-places : goal.release_deleted-requires-clause-places
release_deleted-requires-clause-places g c κs within =
    let held = slots_within g.S.Slot.place_of g.S.Slot.content g.S.Slot.len_of c.args.file.now c.requires.file in
    subst (λ l. AreOfCluster g.S.Slot.place_of (fabric_view c.args.desk.now.fabric.now).shape l)
    (slots_deleted c.args.file.now c.in-Ok.slots.groups c.in-Ok.slots.inode c.in-Ok.ensures.slots.0 c.in-Ok.ensures.slots.1)
    (subst (λ (s : Shape). AreOfCluster g.S.Slot.place_of s (slots_in (c.args.file.now.groups ++ list_of c.args.file.now.inode))) c.requires.shape held)

pub returns-then-not-release_deleted-clause-tells : goal.returns-then-not-release_deleted-clause-tells
returns-then-not-release_deleted-clause-tells g c =
    let view = c.look_at_board-view.result in
    let looked = c.look_at_board-view.new.hand in
    let sees = subst (λ (n : ℕ). SeesBoard (fabric_view c.args.desk.now.fabric.now) n view c.args.desk.now.hand.now looked) c.last_epoch.ensures c.look_at_board-view.ensures.sees in
    inr (
      view,
      looked,
      record {
        begins = record { room = c.requires.room; sees = sees };
        present = c.in-Ok.ensures.accepts.0 refl;
        spare = c.args.file.now.spare;
        noted = c.in-Ok.ensures.noted;
      },
    )

pub returns-else-not-release_deleted-clause-tells : goal.returns-else-not-release_deleted-clause-tells
returns-else-not-release_deleted-clause-tells g c =
    let view = c.look_at_board-view.result in
    let looked = c.look_at_board-view.new.hand in
    let sees = subst (λ (n : ℕ). SeesBoard (fabric_view c.args.desk.now.fabric.now) n view c.args.desk.now.hand.now looked) c.last_epoch.ensures c.look_at_board-view.ensures.sees in
    let went : c.release_deleted.result ≡ true = search rules in
    record {
      view = view;
      looked = looked;
      deletes = record {
        begins = record { room = c.requires.room; sees = sees };
        present = c.in-Ok.ensures.accepts.0 refl;
        spare = c.args.file.now.spare;
        noted = c.in-Ok.ensures.noted;
      };
      released = subst (λ l. ReleasesEach g.S.Slot.place_of l (fabric_view c.args.desk.now.fabric.now).shape view looked c.release_deleted.new.hand)
          (sym (slots_deleted c.args.file.now c.in-Ok.slots.groups c.in-Ok.slots.inode c.in-Ok.ensures.slots.0 c.in-Ok.ensures.slots.1))
          (c.release_deleted.ensures.all went);
    }
