use Rattle.std.proofs.Common.{◌≡◌, ◌++◌, false, List, sym, subst}
use Rattle.std.specs.List.{AllByRecursion}
use Rattle.domains.specs.Place.{IsPlace, Place}
use Rattle.file_history.specs.Layout.{all_groups, places_of}
use Rattle.map_changes.specs.ChangedMaps.{AreFree}
use Rattle.map_changes.proofs.Pairs.{All-append}
use Rattle.stale_changes.specs.PlaceMarks.{is_marked}
use Rattle.file_core.specs.FileView.{FileView, IsFile, layout_of}
use Rattle.striped_groups.specs.StoredGroups.{GroupSlots, list_of}
use Rattle.map_switches.specs.Switches.{groups_of}
use Rattle.map_switches.proofs.ChangeLemmas.{free_of, places_held}
use Rattle.file_core.proofs.CreatedFile.{are_places}
use Rattle.file_core.proofs.GroupLookups.{groups_of as groups_of_file, root_of}
use Rattle.file_core.proofs.state.FileState.check_places.Goals as goal

pub returns-in_err-add_all-clause-file : goal.returns-in_err-add_all-clause-file
returns-in_err-add_all-clause-file g c = subst (λ (f : FileView g.row.S.Denot). IsFile g.S.Slot.place_of g.S.Slot.content g.S.Slot.len_of f) c.self.view_is c.self.invariant.0

pub returns-then-not-branch-clause-file : goal.returns-then-not-branch-clause-file
returns-then-not-branch-clause-file g c = subst (λ (f : FileView g.row.S.Denot). IsFile g.S.Slot.place_of g.S.Slot.content g.S.Slot.len_of f) c.self.view_is c.self.invariant.0

pub returns-clause-free : goal.returns-clause-free
returns-clause-free g c accepted =
    let inside = c.self.inside in
    let kept = c.self.invariant.0 in
    let now : FileView g.row.S.Denot = record {
      file = inside.file;
      shape = inside.shape;
      level = inside.level;
      room = inside.room;
      turns = inside.turns;
      seat = inside.seat;
      notes = inside.log.notes;
      groups = inside.groups.items;
      inode = inside.inode;
      spare = inside.log.spare;
    } in
    let held = places_held (groups_of inside.groups.items) (groups_of (list_of inside.inode)) (layout_of now)
    (groups_of_file g.S.Slot.place_of g.S.Slot.content g.S.Slot.len_of inside.shape (layout_of now) _ inside.groups.items _ kept.slots)
    (root_of g.S.Slot.place_of g.S.Slot.content g.S.Slot.len_of inside.shape (layout_of now) _ _ inside.inode kept.slots) in
    let groups : AllByRecursion (λ (s : Place). is_marked c.add_all.new.self.keys s ≡ false) (places_of (groups_of inside.groups.items)) =
    subst (λ (gs : List (GroupSlots g.row.S.Denot)). AllByRecursion (λ (s : Place). is_marked c.add_all.new.self.keys s ≡ false) (places_of (groups_of gs))) c.deref.ensures.value
    (c.none_marked.ensures c.if-not-none_marked.false) in
    subst (λ (f : FileView g.row.S.Denot). AreFree (layout_of f) c.args.places.now) c.self.view_is
    (free_of (layout_of now) c.args.places.now (places_of (groups_of inside.groups.items) ++ places_of (groups_of (list_of inside.inode))) c.new-marks.result.keys c.add_all.new.self.keys
    held (subst (AllByRecursion IsPlace) (sym held) (are_places inside.shape (places_of (all_groups (layout_of now))) kept.cluster kept.slots.within))
    (c.in_ok-add_all.ensures.added c.if-not-branch.false)
    (All-append (λ (s : Place). is_marked c.add_all.new.self.keys s ≡ false) (places_of (groups_of inside.groups.items)) (places_of (groups_of (list_of inside.inode)))
    groups (c.inode_unmarked.ensures c.if-not-inode_unmarked.false)))
