-- The memory that was reserved is no part of what the answer tells.
use Rattle.std.proofs.Common.{subst}
use Rattle.fabric.specs.Views.{fabric_view}
use Rattle.file_core.specs.FileView.{FileView}
use Rattle.read_path.specs.Reads.{ReadTells}
use Rattle.read_path.proofs.ReadAnswers.{tells_of_old}
use Rattle.read_path.proofs.reading.read_in.Goals as goal

pub returns-in-Ok-clause-tells : goal.returns-in-Ok-clause-tells
returns-in-Ok-clause-tells g c =
    tells_of_old g.S.Slot.place_of g.S.Slot.content g.S.Slot.len_of g.S.Slot.reads c.reserve_for_path.new.file.spare c.read_with_room.result (fabric_view c.args.desk.now.fabric.now)
    c.args.desk.now.by c.args.offset c.args.len c.args.file.now c.read_with_room.new.file c.args.desk.now.hand.now c.read_with_room.new.desk.hand.now
    (subst
    (λ (x : FileView g.row.S.Denot). ReadTells g.S.Slot.place_of g.S.Slot.content g.S.Slot.len_of g.S.Slot.reads c.read_with_room.result (fabric_view c.args.desk.now.fabric.now)
    c.args.desk.now.by c.args.offset c.args.len x c.read_with_room.new.file c.args.desk.now.hand.now c.read_with_room.new.desk.hand.now)
    c.reserve_for_path.ensures.same c.read_with_room.ensures.tells)
