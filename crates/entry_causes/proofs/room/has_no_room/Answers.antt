use Rattle.std.proofs.Common.{ℕ, nat_le, IsTrue, ◌↔◌, subst, sym}
use Rattle.file_history.specs.Refusals.{HasNoRoom}
use Rattle.entry_causes.proofs.RoomLemmas.{no_room_if, no_room_missing}
use Rattle.entry_causes.proofs.room.has_no_room.Goals as goal

pub returns-then-not-all : goal.returns-then-not-all
returns-then-not-all c now l usable same =
    no_room_missing c.args.shape c.args.usable.now now l c.room_of-room.ensures.cluster usable c.args.need c.args.got c.args.drives.now c.take_out-all.new.set c.if-not-all.ensures

pub returns : goal.returns
returns c now l usable same =
    subst (λ (got : ℕ). IsTrue (nat_le got c.room_of-room.result) ↔ HasNoRoom now l c.args.need c.args.got c.args.drives.now) (sym c.from.ensures)
    (no_room_if c.args.shape c.args.usable.now now l c.room_of-room.ensures.cluster usable c.args.level c.args.need c.args.got c.room_of-room.result c.args.drives.now c.take_out-all.new.set
    same c.if-got-need.false c.if-not-all.ensures c.room_of-room.ensures.value)
