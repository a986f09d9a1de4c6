use Rattle.std.proofs.Common.{◌≡◌, ◌∙◌, ◌≤◌, ℕ, List, [], ◌∷◌, ◌++◌, map, Option, sym, subst, ap, length, refl, arith, length-append}
use Rattle.std.specs.List.{AllByRecursion}
use Rattle.domains.specs.Level.{IsLevel}
use Rattle.domains.specs.Place.{Place}
use Rattle.inode_codec.specs.Inode.{inode_bytes}
use Rattle.held_slots.specs.Slots.{place_from}
use Rattle.std.proofs.lemmas.List.{length-map}
use Rattle.file_history.specs.Bytes.{bytes_after}
use Rattle.file_history.specs.Layout.{layout_after}
use Rattle.file_history.specs.Step.{Creates}
use Rattle.file_history.specs.declared.entry.FileEvent.TheVariants as event
use Rattle.file_history.proofs.RootedLayouts.{layout_rooted}
use Rattle.turn_cell.specs.declared.chronicle.Note.{Note}
use Rattle.file_core.specs.declared.noted.Noted.{Noted}
use Rattle.file_core.specs.Notes.{told_of, noted}
use Rattle.file_core.specs.NoteLog.{NoteList}
use Rattle.striped_groups.specs.StoredGroups.{AllTell, GroupSlots, StoredGroup, stored_group, list_of}
use Rattle.file_core.specs.FileInvariant.{KeepsFile, KeepsLeft}
use Rattle.file_heads.specs.Heads.{IsHead}
use Rattle.file_core.specs.FileView.{FileView, IsLater, layout_of, now_of}
use Rattle.striped_groups.specs.StoredGroups.{Took}
use Rattle.file_core.specs.Creation.{empty_inode}
use Rattle.file_core.proofs.FileGrowth.{KeepsFile-note, layout_after-note, epochs_up_to}
use Rattle.file_core.proofs.CreatedFile.{KeepsSlots-created, absent_all, absent_empty, all_hold, all_long, empty_inode-is, few_units, new_within}
use Rattle.file_core.proofs.LeftLemmas.{KeepsLeft-created}
use Rattle.file_core.proofs.state.FileState.take_inode.Given.{Over}
use Rattle.file_core.proofs.state.FileState.take_inode.Goals as goal

abbrev note : (g : Over) → goal.In-None g → Note Noted
note g c = record { turn = c.self.inside.turns; seat = c.self.inside.seat; entry = noted c.args.by c.args.view.now (event.Created c.args.groups.logged) [] }

notes : (g : Over) (c : goal.In-None g) → c.push.new.self.notes ≡ c.self.inside.log.notes ++ note g c ∷ []
notes g c =
    ap (λ (l : NoteList). l.notes) c.push.ensures
    ∙ ap (λ (p : List ℕ). c.self.inside.log.notes ++ record { turn = c.self.inside.turns; seat = c.self.inside.seat; entry = noted c.args.by c.args.view.now (event.Created c.args.groups.logged) p } ∷ []) c.no_bytes-payload.ensures

spare : (g : Over) (c : goal.In-None g) → 1 ≤ c.self.inside.log.spare
spare g c = subst (λ (f : FileView g.row.S.Denot). 1 ≤ f.spare) (sym c.self.view_is) c.requires.spare

abbrev made : (g : Over) → goal.In-None g → GroupSlots g.row.S.Denot
made g c = record { group = c.args.groups.kept; slots = c.args.slots.items }

abbrev Keeps : (g : Over) → goal.In-None g → List (Note Noted) → List (GroupSlots g.row.S.Denot) → Option (GroupSlots g.row.S.Denot) → Type 0
Keeps g c ns groups inode =
    KeepsFile (AllTell g.S.Slot.content) c.self.inside.shape c.self.inside.level c.self.inside.room ns
    (map (stored_group g.S.Slot.place_of g.S.Slot.content g.S.Slot.len_of) groups) (map (stored_group g.S.Slot.place_of g.S.Slot.content g.S.Slot.len_of) (list_of inode))

keeps : (g : Over) (c : goal.In-None g) → Keeps g c c.push.new.self.notes c.self.inside.groups.items c.replace-none.new.self
keeps g c =
    let inside = c.self.inside in
    let kept = c.self.invariant.0 in
    let l = layout_after inside.level (told_of inside.log.notes) in
    let logged = c.args.groups.logged in
    let later : _ = subst (λ (f : FileView g.row.S.Denot). IsLater c.args.view.now f) (sym c.self.view_is) c.requires.later in
    let legal = subst (λ (f : FileView g.row.S.Denot). Creates (now_of f c.args.view.now) (layout_of f) logged) (sym c.self.view_is) c.requires.legal in
    let spelled = subst (λ (f : FileView g.row.S.Denot). AllByRecursion (Took g.S.Slot.content g.S.Slot.len_of (inode_bytes (empty_inode f.level f.shape.unit))) c.args.slots.items) (sym c.self.view_is) c.requires.spelled in
    let requested : IsLevel l.requested = subst IsLevel c.self.invariant.1.requested c.m-requested.ensures.level in
    let few = few_units logged l.requested legal.level requested in
    let number = legal.number in
    let room = c.self.invariant.2 in
    let some = spare g c in
    let none = absent_empty inside.shape l (bytes_after (told_of inside.log.notes)) _ _ kept.slots (layout_rooted inside.level (told_of inside.log.notes)) legal.absent in
    subst (λ (x : List (Note Noted) × List StoredGroup × Option (GroupSlots g.row.S.Denot)).
    KeepsFile (AllTell g.S.Slot.content) inside.shape inside.level inside.room x.0 x.1 (map (stored_group g.S.Slot.place_of g.S.Slot.content g.S.Slot.len_of) (list_of x.2)))
    (λ i. (sym (notes g c) i, sym none i, sym c.replace-none.ensures.after i))
    (KeepsFile-note (AllTell g.S.Slot.content) inside.shape inside.level inside.room inside.log.notes (note g c) _ _ [] (stored_group g.S.Slot.place_of g.S.Slot.content g.S.Slot.len_of (made g c) ∷ []) kept
    (record { epoch = refl; later = epochs_up_to (told_of inside.log.notes) _ c.args.view.now.epoch later kept.ordered; event = legal; shown = λ is. tt })
    later (omega (arith, room, some)) (omega (arith, number))
    (KeepsSlots-created inside.shape inside.level l (bytes_after (told_of inside.log.notes)) [] logged _ c.requires.twice c.requires.stands (omega (arith, few))
    legal.places.distinct (new_within _ l logged.places legal.places.each)
    (record { valid = empty_inode-is inside.level inside.shape kept.declared kept.cluster; held = all_hold g.S.Slot.content g.S.Slot.len_of _ c.args.slots.items spelled })
    (all_long g.S.Slot.content g.S.Slot.len_of _ c.args.slots.items spelled)))

pub invariant_of-self-2 : goal.invariant_of-self-2
invariant_of-self-2 g c =
    let inside = c.self.inside in
    let room = c.self.invariant.2 in
    let some = spare g c in
    let left = ap (λ (l : NoteList). l.spare) c.push.ensures in
    let long = ap (λ (l : List (Note Noted)). length l) (notes g c) ∙ length-append inside.log.notes (note g c ∷ []) in
    let legal = subst (λ (f : FileView g.row.S.Denot). Creates (now_of f c.args.view.now) (layout_of f) c.args.groups.logged) (sym c.self.view_is) c.requires.legal in
    let units : c.len.result ≡ length c.args.groups.logged.places =
    c.len.ensures ∙ c.args.slots.ok.0 ∙ sym (length-map c.args.slots.items (λ (x : g.row.S.Denot). place_from (g.S.Slot.place_of x))) ∙ ap (λ (ss : List Place). length ss) c.requires.stands in (
      keeps g c,
      subst (IsHead c.create.new.self) (sym (ap (λ (ns : List (Note Noted)). layout_after inside.level (told_of ns)) (notes g c) ∙ layout_after-note inside.level inside.log.notes (note g c)))
          (c.create.ensures (layout_after inside.level (told_of inside.log.notes)) c.args.groups.logged c.self.invariant.1 legal.number units),
      omega (arith, room, some, left, long),
      subst (λ (ns : List (Note Noted)). KeepsLeft c.reserve.new.self.items inside.level (told_of ns)) (sym (notes g c))
          (KeepsLeft-created inside.level inside.log.notes (note g c) inside.left.items c.reserve.new.self.items c.args.groups.logged refl c.self.invariant.3 c.reserve.ensures.same
          (absent_all inside.shape (layout_after inside.level (told_of inside.log.notes)) _ _ _ c.self.invariant.0.slots (layout_rooted inside.level (told_of inside.log.notes)) legal.absent)
          (let known = c.in-Ok.ensures.ok in let next = c.self.invariant.1.next in let number = legal.number in omega (arith, known, next, number))),
    )

pub returns-clause-file : goal.returns-clause-file
returns-clause-file g c = keeps g c
