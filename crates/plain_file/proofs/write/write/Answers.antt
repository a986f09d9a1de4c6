use Rattle.std.proofs.Common.{◌∙◌, sym, refl, length}
use Rattle.file_history.specs.declared.entry.Refused.TheVariants as refused
use Rattle.plain_file.specs.declared.op.PlainOp.TheVariants as plain
use Rattle.plain_file.proofs.FileTurns.{layout_present, too_few, refused_played}
use Rattle.plain_file.proofs.FirstWrite.{lost_write}
use Rattle.plain_file.proofs.write.write.Goals as goal

pub returns-then-not-is_present-clause-played : goal.returns-then-not-is_present-clause-played
returns-then-not-is_present-clause-played g c =
    let a = c.args in
    refused_played g.S.Slot.place_of g.S.Slot.content a.by (plain.Write a.bytes.now) a.shape a.log.now.items c.note.new.log.items a.standing.now a.stock.now
    (refused.WriteAbsent 0 (length a.bytes.now))
    (rw (c.epoch-epoch.ensures, c.from_vec-payload.ensures, c.in_ok-from_slice.ensures.items) at c.in_ok-note.ensures.ok)
    (refl, a.bytes.now, refl, refl)
    (layout_present g.S.Slot.place_of g.S.Slot.content a.standing.now ∙ sym c.is_present.ensures ∙ c.if-not-is_present.true) c.requires.inside

pub returns-in-Err-clause-played : goal.returns-in-Err-clause-played
returns-in-Err-clause-played g c =
    let a = c.args in
    let told = rw c.requires.shape at c.in-Err.ensures.too_few in
    let within = rw c.requires.shape at c.in-Err.ensures.within in
    refused_played g.S.Slot.place_of g.S.Slot.content a.by (plain.Write a.bytes.now) a.shape a.log.now.items c.note-in-Err.new.log.items a.standing.now a.stock.now
    (refused.WriteTooFew 0 (length a.bytes.now) c.in-Err.fault)
    (rw (c.epoch-epoch.ensures, c.from_vec-payload.ensures, c.in_ok-from_slice.ensures.items) at c.in_ok-note-2.ensures.ok)
    (refl, a.bytes.now, refl, refl) (
      layout_present g.S.Slot.place_of g.S.Slot.content a.standing.now ∙ sym c.is_present.ensures ∙ c.if-not-is_present.false,
      too_few g.S.Slot.place_of g.S.Slot.content a.shape a.stock.now.board a.standing.now c.in-Err.fault within told.0 told.1 told.2,
    )
    c.requires.inside

pub returns-in-Some-clause-played : goal.returns-in-Some-clause-played
returns-in-Some-clause-played g c =
    let a = c.args in
    let within = rw c.requires.shape at c.mirror_room.ensures.within in
    let room = rw c.requires.shape at c.in_default.ensures.room in
    let lost = rw c.requires.shape at c.lost_inode.ensures in
    refused_played g.S.Slot.place_of g.S.Slot.content a.by (plain.Write a.bytes.now) a.shape a.log.now.items c.note-in-Some.new.log.items a.standing.now a.stock.now
    (refused.WriteLost 0 (length a.bytes.now) c.in-Some.lost)
    (rw (c.epoch-epoch.ensures, c.from_vec-payload.ensures, c.in_ok-from_slice.ensures.items) at c.in_ok-note-3.ensures.ok)
    (refl, a.bytes.now, refl, refl)
    (lost_write g.S.Slot.place_of g.S.Slot.content a.shape a.stock.now.board a.log.now.items a.bytes.now a.standing.now c.in-Some.lost within
    c.requires.some c.requires.fits room c.requires.inside (sym c.is_present.ensures ∙ c.if-not-is_present.false) c.requires.unwritten
    (sym lost ∙ c.in-Some.is))
    c.requires.inside
