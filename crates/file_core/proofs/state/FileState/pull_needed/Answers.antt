use Rattle.std.proofs.Common.{◌≡◌, ◌≤◌, ◌^◌, ◌∙◌, ◌++◌, ℕ, true, false, List, None, map, length, drop, take, sym, subst, ap, arith}
use Rattle.std.specs.List.{AllByRecursion}
use Rattle.std.proofs.Math.Seq.{take-append_seam}
use Rattle.std.proofs.lemmas.List.{length-map}
use Rattle.inode_codec.specs.Inode.{inode_bytes}
use Rattle.file_history.specs.Bytes.{bytes_after}
use Rattle.file_history.specs.Layout.{Layout, layout_after}
use Rattle.file_history.specs.Stored.{inode_of}
use Rattle.pulled_groups.specs.declared.pull_groups.PulledGroup.{PulledGroup}
use Rattle.file_core.specs.Notes.{told_of}
use Rattle.striped_groups.specs.StoredGroups.{AllTell, GroupSlots, StoredGroup, stored_group, list_of}
use Rattle.file_core.specs.FileView.{FileView, bytes_of, layout_of, now_of}
use Rattle.pulled_groups.specs.Pulls.{AreAllPulled, MayPull}
use Rattle.file_heads.specs.Parts.{part_of}
use Rattle.pulled_groups.specs.PullAnswers.{CanDecode, ShowsGroup, ShowsInode, asks_inode}
use Rattle.file_heads.specs.PullRefusals.{group_of, refusal_of}
use Rattle.file_core.proofs.GroupLookups.{few_groups}
use Rattle.file_core.proofs.DecodableGroups.{decodes_data}
use Rattle.file_heads.proofs.PullCauses.{refusal_is}
use Rattle.file_core.proofs.PulledBytes.{shows_data, shows_inode}
use Rattle.pulled_groups.proofs.SameDeadUnits.{all_same}
use Rattle.file_core.proofs.PulledSlots.{may_pull, may_pull_root, root_group, small_size}
use Rattle.file_core.proofs.state.FileState.pull_needed.Given.{Over}
use Rattle.file_core.proofs.state.FileState.pull_needed.Goals as goal

pub pull_all-requires-clause-size : goal.pull_all-requires-clause-size
pull_all-requires-clause-size g c =
    let inside = c.self.inside in
    subst (λ (n : ℕ). n ≤ 2 ^ 29) (sym c.self.invariant.1.size) (small_size inside.shape inside.level (told_of inside.log.notes) _ _ _ c.self.invariant.0.slots)

pub pull_all-requires-clause-few : goal.pull_all-requires-clause-few
pull_all-requires-clause-few g c =
    let inside = c.self.inside in
    let few = few_groups inside.shape inside.level (told_of inside.log.notes) _ _ _ c.self.invariant.0.slots in
    let long = length-map inside.groups.items (stored_group g.S.Slot.place_of g.S.Slot.content g.S.Slot.len_of) in
    let is = ap (λ (gs : List (GroupSlots g.row.S.Denot)). length gs) c.deref_mut.ensures.value in
    omega (arith, few, long, is)

pub pull_all-requires-clause-may : goal.pull_all-requires-clause-may
pull_all-requires-clause-may g c =
    let inside = c.self.inside in
    let kept = c.self.invariant.0.slots in
    subst (AllByRecursion (MayPull g.S.Slot.len_of inside.shape.unit)) (sym c.deref_mut.ensures.value)
    (may_pull g.S.Slot.place_of g.S.Slot.content g.S.Slot.len_of inside.shape.unit inside.groups.items kept.stands kept.sized)

pub pull_all-requires-clause-root : goal.pull_all-requires-clause-root
pull_all-requires-clause-root g c =
    let inside = c.self.inside in
    let kept = c.self.invariant.0.slots in
    let l = layout_after inside.level (told_of inside.log.notes) in
    may_pull_root g.S.Slot.place_of g.S.Slot.content g.S.Slot.len_of (length (inode_bytes (inode_of inside.shape.unit l))) (list_of inside.inode)
    kept.root_stands kept.root_sized

module _ (g : Over) (c : goal.After-from_vec g) where
  abbrev now : Layout
  now = layout_after c.self.inside.level (told_of c.self.inside.log.notes)

  pulled : AreAllPulled g.S.Slot.place_of g.S.Slot.content g.S.Slot.len_of g.S.Slot.reads c.self.inside.shape c.args.view.now now.dead now.size (part_of c.args.part.now)
      c.self.inside.inode c.pull_all.new.inode c.self.inside.groups.items c.pull_all.new.stripes c.from_vec.result
  pulled =
      all_same c.self.inside.shape c.args.view.now c.self.inside.head.dead.items now.dead c.self.invariant.1.dead
      g.S.Slot.place_of g.S.Slot.content g.S.Slot.len_of g.S.Slot.reads now.size (part_of c.args.part.now)
      c.self.inside.inode c.pull_all.new.inode c.self.inside.groups.items c.pull_all.new.stripes c.from_vec.result
      (subst (λ (x : ℕ × List (GroupSlots g.row.S.Denot) × List PulledGroup).
      AreAllPulled g.S.Slot.place_of g.S.Slot.content g.S.Slot.len_of g.S.Slot.reads c.self.inside.shape c.args.view.now c.self.inside.head.dead.items x.0 (part_of c.args.part.now)
      c.self.inside.inode c.pull_all.new.inode x.1 c.pull_all.new.stripes x.2)
      (λ i. (c.self.invariant.1.size i, c.deref_mut.ensures.value i, sym c.from_vec.ensures i)) c.in_ok-pulled.ensures.pulled)

take_front : {A : Type 0} (xs ys : List A) (n : ℕ) → n ≡ length xs → take n (xs ++ ys) ≡ xs
take_front xs ys n is = ap (λ (k : ℕ). take k (xs ++ ys)) is ∙ take-append_seam xs ys

-- as many groups as before
back : (g : Over) (c : goal.After-from_vec g)
    → take c.self.inside.groups.len (c.pull_all.new.stripes ++ drop (length c.pull_all.new.stripes) c.self.inside.groups.items) ≡ c.pull_all.new.stripes
back g c =
    let inside = c.self.inside in
    let shows = stored_group g.S.Slot.place_of g.S.Slot.content g.S.Slot.len_of in
    let new = length-map c.pull_all.new.stripes shows in
    let old = length-map c.deref_mut.result.now shows in
    let same = ap (λ (gs : List StoredGroup). length gs) c.in_ok-pulled.ensures.shown in
    let was = ap (λ (gs : List (GroupSlots g.row.S.Denot)). length gs) c.deref_mut.ensures.value in
    let count = inside.groups.ok.0 in
    take_front c.pull_all.new.stripes (drop (length c.pull_all.new.stripes) inside.groups.items) inside.groups.len (omega (arith, new, old, same, was, count))

pub returns-clause-pulled : goal.returns-clause-pulled
returns-clause-pulled g c =
    subst (λ (x : FileView g.row.S.Denot × List (GroupSlots g.row.S.Denot)).
    AreAllPulled g.S.Slot.place_of g.S.Slot.content g.S.Slot.len_of g.S.Slot.reads x.0.shape c.args.view.now (layout_of x.0).dead (layout_of x.0).size (part_of c.args.part.now)
    x.0.inode c.pull_all.new.inode x.0.groups x.1 c.from_vec.result) (λ i. (c.self.view_is i, sym (back g c) i)) (pulled g c)

pub returns-clause-shown : goal.returns-clause-shown
returns-clause-shown g c =
    let inside = c.self.inside in
    let kept = c.self.invariant.0.slots in
    let l = layout_after inside.level (told_of inside.log.notes) in
    subst (λ (f : FileView g.row.S.Denot). AllTell g.S.Slot.content → asks_inode (layout_of f) (part_of c.args.part.now) ≡ false
    → AllByRecursion (ShowsGroup f.shape.unit (bytes_of f)) c.from_vec.result) c.self.view_is
    (λ tell asks. shows_data g.S.Slot.place_of g.S.Slot.content g.S.Slot.len_of g.S.Slot.reads tell inside.shape c.args.view.now l (part_of c.args.part.now)
    (bytes_after (told_of inside.log.notes)) inside.groups.items c.pull_all.new.stripes inside.inode c.pull_all.new.inode
    (map (stored_group g.S.Slot.place_of g.S.Slot.content g.S.Slot.len_of) (list_of inside.inode)) c.from_vec.result kept
    (root_group g.S.Slot.place_of g.S.Slot.content g.S.Slot.len_of inside.shape l _ _ inside.inode kept) (pulled g c) asks)

pub returns-clause-shown_inode : goal.returns-clause-shown_inode
returns-clause-shown_inode g c =
    let inside = c.self.inside in
    let kept = c.self.invariant.0.slots in
    let l = layout_after inside.level (told_of inside.log.notes) in
    subst (λ (f : FileView g.row.S.Denot). AllTell g.S.Slot.content → asks_inode (layout_of f) (part_of c.args.part.now) ≡ true
    → ShowsInode f.shape.unit (layout_of f) c.from_vec.result) c.self.view_is
    (λ tell asks. shows_inode g.S.Slot.place_of g.S.Slot.content g.S.Slot.len_of g.S.Slot.reads tell inside.shape c.args.view.now l (part_of c.args.part.now)
    (bytes_after (told_of inside.log.notes)) inside.groups.items c.pull_all.new.stripes inside.inode c.pull_all.new.inode
    (map (stored_group g.S.Slot.place_of g.S.Slot.content g.S.Slot.len_of) inside.groups.items) c.from_vec.result kept
    (root_group g.S.Slot.place_of g.S.Slot.content g.S.Slot.len_of inside.shape l _ _ inside.inode kept) (pulled g c) asks)

pub returns-clause-decodes : goal.returns-clause-decodes
returns-clause-decodes g c =
    let inside = c.self.inside in
    let kept = c.self.invariant.0.slots in
    let l = layout_after inside.level (told_of inside.log.notes) in
    let part = part_of c.args.part.now in
    let root = root_group g.S.Slot.place_of g.S.Slot.content g.S.Slot.len_of inside.shape l _ _ inside.inode kept in
    let none = subst (λ (f : FileView g.row.S.Denot). refusal_of (now_of f c.args.view.now) (layout_of f) part ≡ None) (sym c.self.view_is) c.requires.enough in
    subst (λ (f : FileView g.row.S.Denot). asks_inode (layout_of f) part ≡ false → AllByRecursion (CanDecode f.shape.unit) c.from_vec.result) c.self.view_is
    (λ asks. decodes_data g.S.Slot.place_of g.S.Slot.content g.S.Slot.len_of g.S.Slot.reads inside.shape c.args.view.now l part
    (bytes_after (told_of inside.log.notes)) inside.groups.items c.pull_all.new.stripes inside.inode c.pull_all.new.inode c.from_vec.result kept
    (refusal_is inside.shape inside.level c.args.view.now l (group_of inside.inode) part root kept.there ∙ none) (pulled g c) asks)
