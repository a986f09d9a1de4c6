use Rattle.std.proofs.Common.{◌≡◌, ◌∙◌, ◌-◌, ◌≤◌, List, [], ◌∷◌, ◌++◌, sym, ap, subst, length, arith, length-append}
use Rattle.turn_cell.specs.declared.chronicle.Note.{Note}
use Rattle.file_history.specs.declared.entry.FileEntry.{FileEntry}
use Rattle.file_history.specs.declared.view.EpochView.{EpochView}
use Rattle.file_core.specs.declared.noted.Noted.{Noted}
use Rattle.file_core.specs.declared.note_log.EntryStamp.{EntryStamp}
use Rattle.file_core.specs.Notes.{kept_view, noted, last_epoch_of}
use Rattle.file_core.specs.NoteLog.{NoteList, KeepsNotes, pushed, stamped}
use Rattle.file_core.proofs.NoteLogLemmas.{KeepsNotes-push, length-stamped, stamped-kept, last_epoch_of-push}
use Rattle.file_core.proofs.note_log.NoteLog.push.Goals as goal

pub keep_view-index-requires-clause-few : goal.keep_view-index-requires-clause-few
keep_view-index-requires-clause-few c =
    let inside = c.self.inside in
    let notes = sym (length-stamped inside.stamps.items inside.entries.items inside.views.items c.self.invariant.0.whole) ∙ ap (λ (l : NoteList). length l.notes) c.self.view_is in
    let fewer = c.self.invariant.0.few in
    let long = inside.views.ok.0 in
    let few = c.requires.few in
    omega (arith, notes, fewer, long, few)

abbrev entry : goal.After-push_reserved-2 → FileEntry
entry c = record { by = c.args.by; epoch = c.args.view.now.epoch; event = c.args.event }

abbrev stamp : goal.After-push_reserved-2 → EntryStamp
stamp c = record { turn = c.args.turn; seat = c.args.seat; view = c.keep_view-index.result; payload = c.args.payload }

abbrev note : goal.After-push_reserved-2 → Note Noted
note c = record { turn = c.args.turn; seat = c.args.seat; entry = noted c.args.by c.args.view.now c.args.event c.args.payload }

notes : (c : goal.After-push_reserved-2) → stamped c.push_reserved.new.self.items c.push_reserved-2.new.self.items c.keep_view-index.new.views.items
    ≡ stamped c.self.inside.stamps.items c.self.inside.entries.items c.self.inside.views.items ++ note c ∷ []
notes c =
    let inside = c.self.inside in
    ap (λ (l : List EntryStamp). stamped l c.push_reserved-2.new.self.items c.keep_view-index.new.views.items) c.push_reserved.ensures.items
    ∙ ap (λ (l : List FileEntry). stamped (inside.stamps.items ++ stamp c ∷ []) l c.keep_view-index.new.views.items) c.push_reserved-2.ensures.items
    ∙ stamped-kept inside.entries.items inside.stamps.items inside.views.items c.keep_view-index.new.views.items (kept_view c.args.view.now) c.args.turn c.args.seat c.keep_view-index.result c.args.payload (entry c) c.self.invariant.0 c.keep_view-index.ensures.kept

pub invariant_of-self : goal.invariant_of-self
invariant_of-self c =
    let inside = c.self.inside in
    let is = c.keep_view-index.ensures.kept in
    let spare : 1 ≤ inside.spare = subst (λ (l : NoteList). 1 ≤ l.spare) (sym c.self.view_is) c.requires.spare in
    let entries = c.push_reserved-2.ensures.len in
    let entries_room = c.push_reserved-2.ensures.capacity in
    let stamps = c.push_reserved.ensures.len in
    let stamps_room = c.push_reserved.ensures.capacity in
    let views_room = c.keep_view-index.ensures.capacity in
    let one = is.one in
    let long = ap (λ (l : List EpochView). length l) is.kept ∙ length-append inside.views.items is.more in
    let views_old = inside.views.ok.0 in
    let views_new = c.keep_view-index.new.views.ok.0 in
    let room_0 = c.self.invariant.1 in
    let room_1 = c.self.invariant.2 in
    let room_2 = c.self.invariant.3 in (
      subst (λ (x : List FileEntry × List EntryStamp). KeepsNotes x.0 x.1 c.keep_view-index.new.views.items) (λ i. (sym c.push_reserved-2.ensures.items i, sym c.push_reserved.ensures.items i))
          (KeepsNotes-push inside.entries.items inside.stamps.items inside.views.items c.keep_view-index.new.views.items (kept_view c.args.view.now) (stamp c) (entry c) c.self.invariant.0 is),
      omega (arith, spare, entries, entries_room, room_0),
      omega (arith, spare, stamps, stamps_room, room_1),
      omega (arith, spare, one, long, views_old, views_new, views_room, room_2),
      sym (ap last_epoch_of (notes c) ∙ last_epoch_of-push (stamped inside.stamps.items inside.entries.items inside.views.items) (note c)),
    )

pub returns : goal.returns
returns c =
    let inside = c.self.inside in
    ap (λ (ns : List (Note Noted)). let l : NoteList = record { notes = ns; spare = inside.spare - 1 } in l) (notes c)
    ∙ ap (λ (l : NoteList). pushed l (note c)) c.self.view_is
