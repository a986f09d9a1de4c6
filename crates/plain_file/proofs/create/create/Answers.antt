use Rattle.std.proofs.Common.{◌≡◌, ◌∙◌, sym, refl}
use Rattle.file_history.specs.declared.entry.Refused.TheVariants as refused
use Rattle.plain_file.specs.declared.op.PlainOp.TheVariants as plain
use Rattle.plain_file.specs.declared.file_slots.FileSlots.TheVariants.{Absent}
use Rattle.plain_file.proofs.FileTurns.{absent_of, layout_present, too_few, refused_played, nothing_moves, created, create_moves}
use Rattle.plain_file.proofs.create.create.Goals as goal

pub returns-then-is_present-clause-played : goal.returns-then-is_present-clause-played
returns-then-is_present-clause-played g c =
    let a = c.args in
    refused_played g.S.Slot.place_of g.S.Slot.content a.by plain.Create a.shape a.log.now.items c.note.new.log.items a.standing.now a.stock.now
    refused.CreateExists (rw (c.epoch-epoch.ensures, c.new.ensures) at c.in_ok-note.ensures.ok)
    refl (layout_present g.S.Slot.place_of g.S.Slot.content a.standing.now ∙ sym c.is_present.ensures ∙ c.if-is_present.true) c.requires.inside

pub returns-in-Err-clause-played : goal.returns-in-Err-clause-played
returns-in-Err-clause-played g c =
    let a = c.args in
    let told = rw c.requires.shape at c.in-Err.ensures.too_few in
    let within = rw c.requires.shape at c.in-Err.ensures.within in
    refused_played g.S.Slot.place_of g.S.Slot.content a.by plain.Create a.shape a.log.now.items c.note-in-Err.new.log.items a.standing.now a.stock.now
    (refused.CreateTooFew c.in-Err.fault) (rw (c.epoch-epoch.ensures, c.new-in-Err.ensures) at c.in_ok-note-2.ensures.ok)
    refl (
      layout_present g.S.Slot.place_of g.S.Slot.content a.standing.now ∙ sym c.is_present.ensures ∙ c.if-is_present.false,
      too_few g.S.Slot.place_of g.S.Slot.content a.shape a.stock.now.board a.standing.now c.in-Err.fault within told.0 told.1 told.2,
    )
    c.requires.inside

pub returns-in_err-inode-clause-moves : goal.returns-in_err-inode-clause-moves
returns-in_err-inode-clause-moves g c =
    let a = c.args in
    nothing_moves g.S.Slot.place_of g.S.Slot.content plain.Create a.shape a.log.now.items c.reserve.new.self.items a.standing.now a.stock.now c.draw_mirror.new.self
    c.in_err-inode.ensures.kept.0 c.draw_mirror.ensures.same.shape c.draw_mirror.ensures.same.board c.draw_mirror.ensures.same.retired

pub returns-clause-played : goal.returns-clause-played
returns-clause-played g c =
    let a = c.args in
    let absent : a.standing.now ≡ Absent = absent_of a.standing.now (sym c.is_present.ensures ∙ c.if-is_present.false) in
    rw absent
    (created g.S.Slot.place_of g.S.Slot.content a.by a.shape a.log.now.items c.push_reserved.new.self.items a.stock.now c.draw_mirror.new.self c.in_ok-inode.inode
    c.requires.shape
    (rw (c.reserve.ensures.items, c.epoch-epoch.ensures, c.mirror_group-group.ensures.value, c.new-2.ensures) at c.push_reserved.ensures.items)
    (rw absent at c.requires.inside)
    (rw (c.deref.ensures.value, c.in_ok-text.ensures.ok) at c.in_ok-inode.ensures.ok) c.draw_mirror.ensures.same)

pub returns-clause-moves : goal.returns-clause-moves
returns-clause-moves g c =
    let a = c.args in
    let absent : a.standing.now ≡ Absent = absent_of a.standing.now (sym c.is_present.ensures ∙ c.if-is_present.false) in
    rw absent
    (create_moves g.S.Slot.place_of g.S.Slot.content a.shape a.log.now.items c.push_reserved.new.self.items a.stock.now c.draw_mirror.new.self
    _ c.in_ok-inode.inode c.in_ok-inode.ensures.ok c.draw_mirror.ensures.same)
