use Rattle.std.proofs.Common.{◌∙◌, sym, refl}
use Rattle.file_history.specs.declared.entry.Refused.TheVariants as refused
use Rattle.plain_file.specs.declared.op.PlainOp.TheVariants as plain
use Rattle.plain_file.proofs.FileTurns.{layout_present, refused_played}
use Rattle.plain_file.proofs.ReadRanges.{shown_played}
use Rattle.plain_file.proofs.read.read.Goals as goal

pub returns-then-not-is_present-clause-played : goal.returns-then-not-is_present-clause-played
returns-then-not-is_present-clause-played g c =
    let a = c.args in
    refused_played g.S.Slot.place_of g.S.Slot.content a.by (plain.Read a.offset a.len) a.shape a.log.now.items c.note.new.log.items a.standing.now a.stock.now
    (refused.ReadAbsent a.offset a.len) (rw (c.epoch-epoch.ensures, c.new-payload.ensures) at c.in_ok-note.ensures.ok)
    refl (layout_present g.S.Slot.place_of g.S.Slot.content a.standing.now ∙ sym c.is_present.ensures ∙ c.if-not-is_present.true) c.requires.inside

pub returns-in-Some-clause-played : goal.returns-in-Some-clause-played
returns-in-Some-clause-played g c =
    let a = c.args in
    let lost = rw c.requires.shape at c.lost_for.ensures in
    refused_played g.S.Slot.place_of g.S.Slot.content a.by (plain.Read a.offset a.len) a.shape a.log.now.items c.note-in-Some.new.log.items a.standing.now a.stock.now
    (refused.ReadLost a.offset a.len c.in-Some.lost) (rw (c.epoch-epoch.ensures, c.new-payload.ensures) at c.in_ok-note-2.ensures.ok)
    refl
    (layout_present g.S.Slot.place_of g.S.Slot.content a.standing.now ∙ sym c.is_present.ensures ∙ c.if-not-is_present.false, sym lost ∙ c.in-Some.is)
    c.requires.inside

pub returns-clause-played : goal.returns-clause-played
returns-clause-played g c =
    let a = c.args in
    let readable = rw c.requires.shape at c.lost_for.ensures in
    let told = rw c.requires.shape at c.in_ok-bytes.ensures.shown in
    shown_played g.S.Slot.place_of g.S.Slot.content a.by a.shape a.offset a.len c.in_ok-bytes.bytes a.log.now.items c.note-2.new.log.items a.standing.now c.shown.new.standing
    a.stock.now (rw (c.epoch-epoch.ensures, c.new-payload.ensures) at c.in_ok-note-3.ensures.ok) c.requires.inside
    (sym c.is_present.ensures ∙ c.if-not-is_present.false) (sym readable ∙ c.in_default.is) told c.shown.ensures.same
