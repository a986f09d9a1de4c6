use Rattle.std.proofs.Common.{◌≡◌, ◌∙◌, ◌+◌, ◌<◌, ◌≤◌, ℕ, List, [], ◌∷◌, ◌++◌, map, Option, Some, true, if◌then◌else◌, sym, subst, ap, length, refl, arith, length-append}
use Rattle.std.specs.List.{AllByRecursion}
use Rattle.file_history.specs.Bytes.{bytes_after}
use Rattle.file_history.specs.Layout.{layout_after}
use Rattle.file_history.specs.declared.entry.FileEvent.TheVariants as event
use Rattle.turn_cell.specs.declared.chronicle.Note.{Note}
use Rattle.file_core.specs.declared.noted.Noted.{Noted}
use Rattle.file_core.specs.Notes.{told_of, noted}
use Rattle.file_core.specs.NoteLog.{NoteList}
use Rattle.striped_groups.specs.StoredGroups.{AllTell, GroupSlots, stored_group, list_of}
use Rattle.file_core.specs.FileInvariant.{KeepsFile, KeepsLeft}
use Rattle.file_heads.specs.Heads.{IsHead, is_there}
use Rattle.file_heads.specs.LeftGenerations.{entry_at, has_generation}
use Rattle.file_core.specs.FileView.{FileView, IsLater}
use Rattle.file_core.proofs.FileGrowth.{KeepsFile-note, layout_after-note, epochs_up_to}
use Rattle.file_core.proofs.GroupLookups.{root_there}
use Rattle.file_core.proofs.CreatedFile.{KeepsSlots-deleted}
use Rattle.file_core.proofs.LeftLemmas.{KeepsLeft-deleted, all_are, known_groups, known_root}
use Rattle.file_core.proofs.state.FileState.delete.Given.{Over}
use Rattle.file_core.proofs.state.FileState.delete.Goals as goal

abbrev note : (g : Over) → goal.After-from_vec g → Note Noted
note g c = record { turn = c.self.inside.turns; seat = c.self.inside.seat; entry = noted c.args.by c.args.view.now event.Deleted [] }

notes : (g : Over) (c : goal.After-from_vec g) → c.push.new.self.notes ≡ c.self.inside.log.notes ++ note g c ∷ []
notes g c =
    ap (λ (l : NoteList). l.notes) c.push.ensures
    ∙ ap (λ (p : List ℕ). c.self.inside.log.notes ++ record { turn = c.self.inside.turns; seat = c.self.inside.seat; entry = noted c.args.by c.args.view.now event.Deleted p } ∷ []) c.no_bytes-payload.ensures

spare : (g : Over) (c : goal.After-from_vec g) → 1 ≤ c.self.inside.log.spare
spare g c = subst (λ (f : FileView g.row.S.Denot). 1 ≤ f.spare) (sym c.self.view_is) c.requires.spare

abbrev Keeps : (g : Over) → goal.After-from_vec g → List (Note Noted) → List (GroupSlots g.row.S.Denot) → Option (GroupSlots g.row.S.Denot) → Type 0
Keeps g c ns groups inode =
    KeepsFile (AllTell g.S.Slot.content) c.self.inside.shape c.self.inside.level c.self.inside.room ns
    (map (stored_group g.S.Slot.place_of g.S.Slot.content g.S.Slot.len_of) groups) (map (stored_group g.S.Slot.place_of g.S.Slot.content g.S.Slot.len_of) (list_of inode))

-- the file was there
there : (g : Over) (c : goal.After-from_vec g) → is_there (layout_after c.self.inside.level (told_of c.self.inside.log.notes)).inode ≡ true
there g c = root_there g.S.Slot.place_of g.S.Slot.content g.S.Slot.len_of c.self.inside.shape _ _ _ c.self.inside.inode _ c.self.invariant.0.slots (sym c.take.ensures.value ∙ c.in-Some.is)

keeps : (g : Over) (c : goal.After-from_vec g) → Keeps g c c.push.new.self.notes c.replace-groups.new.dest.items c.take.new.self
keeps g c =
    let inside = c.self.inside in
    let kept = c.self.invariant.0 in
    let l = layout_after inside.level (told_of inside.log.notes) in
    let later : _ = subst (λ (f : FileView g.row.S.Denot). IsLater c.args.view.now f) (sym c.self.view_is) c.requires.later in
    let present : l.present ≡ true = kept.slots.there ∙ there g c in
    let room = c.self.invariant.2 in
    let some = spare g c in
    let gone : c.replace-groups.new.dest.items ≡ [] = ap (λ v. v.items) c.replace-groups.ensures.after ∙ c.new-none.ensures.items in
    subst (λ (x : List (Note Noted) × List (GroupSlots g.row.S.Denot) × Option (GroupSlots g.row.S.Denot)). Keeps g c x.0 x.1 x.2)
    (λ i. (sym (notes g c) i, sym gone i, sym c.take.ensures.after i))
    (KeepsFile-note (AllTell g.S.Slot.content) inside.shape inside.level inside.room inside.log.notes (note g c) _ _ [] [] kept
    (record { epoch = refl; later = epochs_up_to (told_of inside.log.notes) _ c.args.view.now.epoch later kept.ordered; event = present; shown = λ is. tt })
    later (omega (arith, room, some)) (omega arith)
    (KeepsSlots-deleted inside.shape inside.level l (bytes_after (told_of inside.log.notes)) []))

-- the groups that left
gone : (g : Over) (c : goal.After-from_vec g) → c.deref.result.now ≡ c.self.inside.groups.items
gone g c = c.deref.ensures.value ∙ ap (λ v. v.items) c.replace-groups.ensures.value

pub take_away-requires-clause-known : goal.take_away-requires-clause-known
take_away-requires-clause-known g c =
    let inside = c.self.inside in
    subst (AllByRecursion (λ (s : GroupSlots g.row.S.Denot). s.group.generation < length inside.left.items))
    (sym (c.deref.ensures.value ∙ ap (λ v. v.items) c.replace-groups.ensures.value))
    (known_groups g.S.Slot.place_of g.S.Slot.content g.S.Slot.len_of inside.shape inside.level (told_of inside.log.notes) _ inside.groups.items _ inside.left.items c.self.invariant.0.slots c.self.invariant.3)

pub take_away-requires-clause-root : goal.take_away-requires-clause-root
take_away-requires-clause-root g c =
    let inside = c.self.inside in
    known_root g.S.Slot.place_of g.S.Slot.content g.S.Slot.len_of inside.shape inside.level (told_of inside.log.notes) _ _ inside.inode c.in-Some.inode inside.left.items
    c.self.invariant.0.slots c.self.invariant.3 (sym c.take.ensures.value ∙ c.in-Some.is)

pub invariant_of-self-2 : goal.invariant_of-self-2
invariant_of-self-2 g c =
    let inside = c.self.inside in
    let room = c.self.invariant.2 in
    let some = spare g c in
    let left = ap (λ (l : NoteList). l.spare) c.push.ensures in
    let long = ap (λ (l : List (Note Noted)). length l) (notes g c) ∙ length-append inside.log.notes (note g c ∷ []) in (
      keeps g c,
      subst (IsHead c.delete.new.self) (sym (ap (λ (ns : List (Note Noted)). layout_after inside.level (told_of ns)) (notes g c) ∙ layout_after-note inside.level inside.log.notes (note g c)))
          (c.delete.ensures (layout_after inside.level (told_of inside.log.notes)) c.self.invariant.1),
      omega (arith, room, some, left, long),
      subst (λ (ns : List (Note Noted)). KeepsLeft c.take_away.new.self.items inside.level (told_of ns)) (sym (notes g c))
          (KeepsLeft-deleted inside.level inside.log.notes (note g c) inside.left.items c.take_away.new.self.items
          (map (λ (s : GroupSlots g.row.S.Denot). s.group) inside.groups.items ++ c.in-Some.inode.group ∷ []) refl c.self.invariant.3
          (λ k. c.take_away.ensures.left k ∙ (λ i.
          if has_generation k (map (λ (s : GroupSlots g.row.S.Denot). s.group) (gone g c i) ++ c.in-Some.inode.group ∷ []) then Some (c.len.ensures i + 1) else entry_at inside.left.items k))
          (all_are g.S.Slot.place_of g.S.Slot.content g.S.Slot.len_of inside.shape (layout_after inside.level (told_of inside.log.notes)) _ inside.groups.items inside.inode c.in-Some.inode
          c.self.invariant.0.slots (sym c.take.ensures.value ∙ c.in-Some.is))
          c.take_away.ensures.count),
    )

pub returns-clause-file : goal.returns-clause-file
returns-clause-file g c = keeps g c
