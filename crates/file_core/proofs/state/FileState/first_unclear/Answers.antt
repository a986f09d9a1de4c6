use Rattle.std.proofs.Common.{◌≡◌, ◌∙◌, ◌≤◌, true, List, length, map, Option, None, sym, subst, ap, arith}
use Rattle.std.specs.List.{AllByRecursion}
use Rattle.std.proofs.lemmas.List.{length-map}
use Rattle.domains.specs.Drive.{Drive, IsDrive}
use Rattle.domains.specs.DriveSet.{has}
use Rattle.domains.specs.declared.group.Group.{Group}
use Rattle.file_history.specs.Layout.{Layout, layout_after}
use Rattle.file_history.specs.Refusals.{is_barred}
use Rattle.file_history.specs.Step.{Clears}
use Rattle.file_history.proofs.RootedLayouts.{layout_rooted}
use Rattle.file_core.specs.Notes.{told_of}
use Rattle.striped_groups.specs.StoredGroups.{GroupSlots, stored_group, list_of}
use Rattle.file_core.specs.FileView.{FileView, layout_of}
use Rattle.file_heads.specs.ClearFiles.{AnswersFirst, IsFirstUnclear}
use Rattle.file_heads.proofs.ClearedGroups.{clears_if, first_unclear_is, if_clears, if_some}
use Rattle.file_core.proofs.GroupLookups.{few_groups, groups_of}
use Rattle.file_core.proofs.PulledSlots.{few_places, root_group}
use Rattle.file_core.proofs.state.FileState.first_unclear.Given.{Over}
use Rattle.file_core.proofs.state.FileState.first_unclear.Goals as goal

pub first_unclear-requires-clause-few : goal.first_unclear-requires-clause-few
first_unclear-requires-clause-few g c =
    let inside = c.self.inside in
    let few = few_groups inside.shape inside.level (told_of inside.log.notes) _ _ _ c.self.invariant.0.slots in
    let long = length-map inside.groups.items (stored_group g.S.Slot.place_of g.S.Slot.content g.S.Slot.len_of) in
    let is = ap (λ (gs : List (GroupSlots g.row.S.Denot)). length gs) c.deref.ensures.value in
    omega (arith, few, long, is)

pub first_unclear-requires-clause-places : goal.first_unclear-requires-clause-places
first_unclear-requires-clause-places g c =
    subst (AllByRecursion (λ (s : GroupSlots g.row.S.Denot). length s.group.places ≤ 255)) (sym c.deref.ensures.value)
    (few_places g.S.Slot.place_of g.S.Slot.content g.S.Slot.len_of c.self.inside.groups.items c.self.invariant.0.slots.stands)

pub first_unclear-requires-clause-root : goal.first_unclear-requires-clause-root
first_unclear-requires-clause-root g c =
    few_places g.S.Slot.place_of g.S.Slot.content g.S.Slot.len_of (list_of c.self.inside.inode) c.self.invariant.0.slots.root_stands

module _ (g : Over) (c : goal.After-first_unclear g) where
  abbrev now : Layout
  now = layout_after c.self.inside.level (told_of c.self.inside.log.notes)

  found : AnswersFirst now.groups now.inode c.self.inside.head.requested c.self.inside.head.dead.items c.args.drives.now 0 c.first_unclear.result
  found =
      let inside = c.self.inside in
      let kept = c.self.invariant.0.slots in
      let groups : map (λ (s : GroupSlots g.row.S.Denot). s.group) c.deref.result.now ≡ now.groups =
      ap (map (λ (s : GroupSlots g.row.S.Denot). s.group)) c.deref.ensures.value
      ∙ groups_of g.S.Slot.place_of g.S.Slot.content g.S.Slot.len_of inside.shape now _ inside.groups.items _ kept in
      let root = root_group g.S.Slot.place_of g.S.Slot.content g.S.Slot.len_of inside.shape now _ _ inside.inode kept in
      subst (λ (x : List Group × Option Group). AnswersFirst x.0 x.1 inside.head.requested inside.head.dead.items c.args.drives.now 0 c.first_unclear.result)
      (λ i. (groups i, sym root i)) c.first_unclear.ensures

  barred : (d : Drive) → IsDrive d → has c.args.drives.now d ≡ true → is_barred now d ≡ true
  barred = subst (λ (f : FileView g.row.S.Denot). (d : Drive) → IsDrive d → has c.args.drives.now d ≡ true → is_barred (layout_of f) d ≡ true) (sym c.self.view_is) c.requires.barred

pub returns-clause-clear : goal.returns-clause-clear
returns-clause-clear g c =
    let inside = c.self.inside in
    let l = now g c in
    let head = c.self.invariant.1 in
    subst (λ (f : FileView g.row.S.Denot). (c.first_unclear.result ≡ None → Clears (layout_of f) c.args.drives.now) × (Clears (layout_of f) c.args.drives.now → c.first_unclear.result ≡ None))
    c.self.view_is (
      clears_if l c.args.drives.now inside.head.requested inside.head.dead.items head.requested head.dead c.first_unclear.result (barred g c) (found g c),
      if_clears l c.args.drives.now inside.head.requested inside.head.dead.items head.requested head.dead c.first_unclear.result c.self.invariant.0.slots.there
          (λ none. (layout_rooted inside.level (told_of inside.log.notes) none).0) (found g c),
    )

pub returns-clause-first : goal.returns-clause-first
returns-clause-first g c =
    let inside = c.self.inside in
    let head = c.self.invariant.1 in
    if_some (IsFirstUnclear _ c.args.drives.now) c.first_unclear.result (λ position is.
    subst (λ (f : FileView g.row.S.Denot). IsFirstUnclear (layout_of f) c.args.drives.now position) c.self.view_is
    (first_unclear_is (now g c) c.args.drives.now inside.head.requested inside.head.dead.items head.requested head.dead c.first_unclear.result position (found g c) is))
