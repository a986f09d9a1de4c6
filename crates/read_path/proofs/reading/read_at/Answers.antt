-- What was pulled is shown, and noted.
use Rattle.std.proofs.Common.{◌∙◌, sym, ap}
use Rattle.file_history.specs.Bytes.{slice_of}
use Rattle.file_core.specs.FileView.{FileView, bytes_of}
use Rattle.read_path.proofs.PulledRange.{answer_shown, notes_shown}
use Rattle.read_path.proofs.reading.read_at.Goals as goal

pub note_read-requires-clause-shown : goal.note_read-requires-clause-shown
note_read-requires-clause-shown g c κs within = λ tell.
    c.in-Ok-bytes_shown.ensures.same
    ∙ answer_shown g.S.Slot.place_of g.S.Slot.content g.S.Slot.len_of g.S.Slot.reads c.args.view.now c.args.offset c.args.len c.args.unit c.in-Ok.pulled
    c.in-Ok-bytes_shown.field-0.answer c.args.file.now c.pull_range.new.file c.requires.file c.in-Ok.ensures.tells c.requires.unit c.in-Ok-bytes_shown.ensures.shown tell
    ∙ sym (ap (λ (f : FileView g.row.S.Denot). slice_of (bytes_of f) c.args.offset c.args.len) c.in-Ok.ensures.tells.kept)

pub returns-in-Ok-bytes_shown-clause-tells : goal.returns-in-Ok-bytes_shown-clause-tells
returns-in-Ok-bytes_shown-clause-tells g c =
    notes_shown g.S.Slot.place_of g.S.Slot.content g.S.Slot.len_of g.S.Slot.reads c.args.by c.args.view.now c.args.offset c.args.len c.in-Ok.pulled
    c.in-Ok-bytes_shown.field-0.answer c.in-Ok-bytes_shown.field-0.logged c.args.file.now c.pull_range.new.file c.note_read.new.self c.in-Ok.ensures.tells
    c.in-Ok-bytes_shown.ensures.same
    (answer_shown g.S.Slot.place_of g.S.Slot.content g.S.Slot.len_of g.S.Slot.reads c.args.view.now c.args.offset c.args.len c.args.unit c.in-Ok.pulled
    c.in-Ok-bytes_shown.field-0.answer c.args.file.now c.pull_range.new.file c.requires.file c.in-Ok.ensures.tells c.requires.unit c.in-Ok-bytes_shown.ensures.shown)
    c.note_read.ensures.noted
