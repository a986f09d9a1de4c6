use Rattle.std.proofs.Common.{◌≡◌, ◌∙◌, ◌≤◌, ◌^◌, ℕ, List, map, length, sym, subst, ap, arith}
use Rattle.std.specs.List.{AllByRecursion}
use Rattle.std.proofs.lemmas.List.{length-map}
use Rattle.file_history.specs.Layout.{layout_after}
use Rattle.file_core.specs.Notes.{told_of}
use Rattle.striped_groups.specs.StoredGroups.{GroupSlots, stored_group, list_of}
use Rattle.file_core.specs.FileView.{FileView, layout_of, now_of}
use Rattle.file_heads.specs.Parts.{part_of}
use Rattle.file_heads.specs.PullRefusals.{group_of, refusal_in, refusal_of}
use Rattle.file_core.proofs.GroupLookups.{few_groups, groups_of}
use Rattle.file_heads.proofs.PullCauses.{refusal_is}
use Rattle.pulled_groups.proofs.SameDeadUnits.{refusal_same}
use Rattle.file_core.proofs.PulledSlots.{few_places, root_group, small_size}
use Rattle.file_core.proofs.state.FileState.refusal.Goals as goal

pub refusal-requires-clause-size : goal.refusal-requires-clause-size
refusal-requires-clause-size g c =
    let inside = c.self.inside in
    subst (λ (n : ℕ). n ≤ 2 ^ 29) (sym c.self.invariant.1.size) (small_size inside.shape inside.level (told_of inside.log.notes) _ _ _ c.self.invariant.0.slots)

pub refusal-requires-clause-few : goal.refusal-requires-clause-few
refusal-requires-clause-few g c =
    let inside = c.self.inside in
    let few = few_groups inside.shape inside.level (told_of inside.log.notes) _ _ _ c.self.invariant.0.slots in
    let long = length-map inside.groups.items (stored_group g.S.Slot.place_of g.S.Slot.content g.S.Slot.len_of) in
    let is = ap (λ (gs : List (GroupSlots g.row.S.Denot)). length gs) c.deref.ensures.value in
    omega (arith, few, long, is)

pub refusal-requires-clause-places : goal.refusal-requires-clause-places
refusal-requires-clause-places g c =
    subst (AllByRecursion (λ (s : GroupSlots g.row.S.Denot). length s.group.places ≤ 255)) (sym c.deref.ensures.value)
    (few_places g.S.Slot.place_of g.S.Slot.content g.S.Slot.len_of c.self.inside.groups.items c.self.invariant.0.slots.stands)

pub refusal-requires-clause-root : goal.refusal-requires-clause-root
refusal-requires-clause-root g c =
    few_places g.S.Slot.place_of g.S.Slot.content g.S.Slot.len_of (list_of c.self.inside.inode) c.self.invariant.0.slots.root_stands

pub returns-clause-value : goal.returns-clause-value
returns-clause-value g c =
    let inside = c.self.inside in
    let l = layout_after inside.level (told_of inside.log.notes) in
    let kept = c.self.invariant.0.slots in
    let groups : map (λ (s : GroupSlots g.row.S.Denot). s.group) c.deref.result.now ≡ l.groups =
    ap (map (λ (s : GroupSlots g.row.S.Denot). s.group)) c.deref.ensures.value
    ∙ groups_of g.S.Slot.place_of g.S.Slot.content g.S.Slot.len_of inside.shape l _ inside.groups.items _ kept in
    c.refusal.ensures
    ∙ (λ i. refusal_in (group_of inside.inode) (groups i) inside.shape c.args.view.now inside.head.dead.items (c.self.invariant.1.size i) (part_of c.args.part.now))
    ∙ refusal_same inside.shape c.args.view.now inside.head.dead.items l.dead c.self.invariant.1.dead (group_of inside.inode) l.groups l.size (part_of c.args.part.now)
    ∙ refusal_is inside.shape inside.level c.args.view.now l (group_of inside.inode) (part_of c.args.part.now)
    (root_group g.S.Slot.place_of g.S.Slot.content g.S.Slot.len_of inside.shape l _ _ inside.inode kept) kept.there
    ∙ ap (λ (f : FileView g.row.S.Denot). refusal_of (now_of f c.args.view.now) (layout_of f) (part_of c.args.part.now)) c.self.view_is
