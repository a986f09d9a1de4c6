use Rattle.std.proofs.Common.{◌≡◌, ◌∙◌, ◌≤◌, ℕ, List, [], ◌∷◌, ◌++◌, map, sym, subst, ap, length, refl, arith, length-append}
use Rattle.file_history.specs.Step.{IsEvent, ShowsBytes}
use Rattle.file_history.specs.Layout.{layout_after}
use Rattle.turn_cell.specs.declared.chronicle.Note.{Note}
use Rattle.file_core.specs.declared.noted.Noted.{Noted}
use Rattle.file_core.specs.Notes.{told_of, noted}
use Rattle.file_core.specs.NoteLog.{NoteList}
use Rattle.striped_groups.specs.StoredGroups.{AllTell, stored_group, list_of}
use Rattle.file_core.specs.FileInvariant.{KeepsFile, KeepsLeft}
use Rattle.file_heads.specs.Heads.{IsHead}
use Rattle.file_core.specs.FileView.{FileView, IsLater, now_of, log_of, layout_of}
use Rattle.file_core.proofs.FileGrowth.{KeepsFile-note, KeepsSlots-quiet, next-quiet, layout_after-note, epochs_up_to}
use Rattle.file_core.proofs.LeftLemmas.{KeepsLeft-quiet}
use Rattle.file_core.proofs.state.FileState.note.Given.{Over}
use Rattle.file_core.proofs.state.FileState.note.Goals as goal

abbrev note : (g : Over) → goal.After-push g → Note Noted
note g c = record { turn = c.self.inside.turns; seat = c.self.inside.seat; entry = noted c.args.by c.args.view.now c.args.event [] }

notes : (g : Over) (c : goal.After-push g) → c.push.new.self.notes ≡ c.self.inside.log.notes ++ note g c ∷ []
notes g c =
    ap (λ (l : NoteList). l.notes) c.push.ensures
    ∙ ap (λ (p : List ℕ). c.self.inside.log.notes ++ record { turn = c.self.inside.turns; seat = c.self.inside.seat; entry = noted c.args.by c.args.view.now c.args.event p } ∷ []) c.no_bytes-payload.ensures

spare : (g : Over) (c : goal.After-push g) → 1 ≤ c.self.inside.log.spare
spare g c = subst (λ (f : FileView g.row.S.Denot). 1 ≤ f.spare) (sym c.self.view_is) c.requires.spare

keeps : (g : Over) (c : goal.After-push g)
    → KeepsFile (AllTell g.S.Slot.content) c.self.inside.shape c.self.inside.level c.self.inside.room c.push.new.self.notes
    (map (stored_group g.S.Slot.place_of g.S.Slot.content g.S.Slot.len_of) c.self.inside.groups.items) (map (stored_group g.S.Slot.place_of g.S.Slot.content g.S.Slot.len_of) (list_of c.self.inside.inode))
keeps g c =
    let inside = c.self.inside in
    let kept = c.self.invariant.0 in
    let l = layout_after inside.level (told_of inside.log.notes) in
    let later : _ = subst (λ (f : FileView g.row.S.Denot). IsLater c.args.view.now f) (sym c.self.view_is) c.requires.later in
    let legal = subst (λ (f : FileView g.row.S.Denot). IsEvent (now_of f c.args.view.now) (log_of f) (layout_of f) [] c.args.event) (sym c.self.view_is) c.requires.legal in
    let shown = subst (λ (f : FileView g.row.S.Denot). AllTell g.S.Slot.content → ShowsBytes (log_of f) c.args.event) (sym c.self.view_is) c.requires.shown in
    let room = c.self.invariant.2 in
    let some = spare g c in
    let next = next-quiet c.args.event inside.level l c.requires.quiet in
    subst (λ (ns : List (Note Noted)). KeepsFile (AllTell g.S.Slot.content) inside.shape inside.level inside.room ns
    (map (stored_group g.S.Slot.place_of g.S.Slot.content g.S.Slot.len_of) inside.groups.items) (map (stored_group g.S.Slot.place_of g.S.Slot.content g.S.Slot.len_of) (list_of inside.inode)))
    (sym (notes g c))
    (KeepsFile-note (AllTell g.S.Slot.content) inside.shape inside.level inside.room inside.log.notes (note g c) _ _ _ _ kept
    (record { epoch = refl; later = epochs_up_to (told_of inside.log.notes) _ c.args.view.now.epoch later kept.ordered; event = legal; shown = shown })
    later (omega (arith, room, some)) (omega (arith, next))
    (KeepsSlots-quiet c.args.event inside.level [] inside.shape l _ _ _ c.requires.quiet kept.slots))

pub invariant_of-self : goal.invariant_of-self
invariant_of-self g c =
    let inside = c.self.inside in
    let room = c.self.invariant.2 in
    let some = spare g c in
    let left = ap (λ (l : NoteList). l.spare) c.push.ensures in
    let long = ap (λ (l : List (Note Noted)). length l) (notes g c) ∙ length-append inside.log.notes (note g c ∷ []) in (
      keeps g c,
      subst (IsHead c.hear.new.self) (sym (ap (λ (ns : List (Note Noted)). layout_after inside.level (told_of ns)) (notes g c) ∙ layout_after-note inside.level inside.log.notes (note g c)))
          (c.hear.ensures inside.level (layout_after inside.level (told_of inside.log.notes)) c.self.invariant.1),
      omega (arith, room, some, left, long),
      subst (λ (ns : List (Note Noted)). KeepsLeft inside.left.items inside.level (told_of ns)) (sym (notes g c))
          (KeepsLeft-quiet inside.level inside.log.notes (note g c) inside.left.items c.requires.quiet c.self.invariant.3),
    )

pub returns-clause-file : goal.returns-clause-file
returns-clause-file g c = keeps g c
