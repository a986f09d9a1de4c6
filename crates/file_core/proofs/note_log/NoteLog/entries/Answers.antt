use Rattle.std.proofs.Common.{◌∙◌, sym, ap, map}
use Rattle.turn_cell.specs.declared.chronicle.Note.{Note}
use Rattle.file_core.specs.declared.noted.Noted.{Noted}
use Rattle.file_core.specs.NoteLog.{NoteList}
use Rattle.file_core.proofs.NoteLogLemmas.{entries_of_stamped}
use Rattle.file_core.proofs.note_log.NoteLog.entries.Goals as goal

pub returns : goal.returns
returns c =
    let inside = c.self.inside in
    c.deref.ensures.value ∙ sym (entries_of_stamped inside.stamps.items inside.entries.items inside.views.items c.self.invariant.0.whole)
    ∙ ap (λ (l : NoteList). map (λ (n : Note Noted). n.entry.told.entry) l.notes) c.self.view_is
