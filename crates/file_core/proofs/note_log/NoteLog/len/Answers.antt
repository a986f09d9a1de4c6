use Rattle.std.proofs.Common.{◌∙◌, sym, ap, length}
use Rattle.file_core.specs.NoteLog.{NoteList}
use Rattle.file_core.proofs.NoteLogLemmas.{length-stamped}
use Rattle.file_core.proofs.note_log.NoteLog.len.Goals as goal

pub returns : goal.returns
returns c =
    let inside = c.self.inside in
    c.len.ensures ∙ inside.entries.ok.0
    ∙ sym (length-stamped inside.stamps.items inside.entries.items inside.views.items c.self.invariant.0.whole)
    ∙ ap (λ (l : NoteList). length l.notes) c.self.view_is
