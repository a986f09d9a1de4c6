-- The memory that was reserved is no part of what the answer tells.
use Rattle.std.proofs.Common.{subst}
use Rattle.fabric.specs.Views.{fabric_view}
use Rattle.file_core.specs.FileView.{FileView, IsFile}
use Rattle.write_path.specs.Creations.{CreateTells}
use Rattle.write_path.proofs.CreationLemmas.{create_account, create_tells_of_old}
use Rattle.write_path.proofs.creation.create_in.Goals as goal

pub returns-in-Ok-clause-tells : goal.returns-in-Ok-clause-tells
returns-in-Ok-clause-tells g c =
    create_tells_of_old g.S.Slot.place_of g.S.Slot.content g.S.Slot.len_of g.S.Slot.faults (fabric_view c.args.desk.now.fabric.now) c.args.desk.now.by c.args.file.now
    c.create_with_room.new.file c.args.desk.now.hand.now c.create_with_room.new.desk.hand.now c.reserve_for_path.new.file.spare c.create_with_room.result
    (subst
    (λ (x : FileView g.row.S.Denot). CreateTells g.S.Slot.place_of g.S.Slot.content g.S.Slot.len_of g.S.Slot.faults c.create_with_room.result (fabric_view c.args.desk.now.fabric.now)
    c.args.desk.now.by x c.create_with_room.new.file c.args.desk.now.hand.now c.create_with_room.new.desk.hand.now)
    c.reserve_for_path.ensures.same c.create_with_room.ensures.tells)

pub returns-in-Ok-clause-account : goal.returns-in-Ok-clause-account
returns-in-Ok-clause-account g c =
    create_account g.S.Slot.place_of g.S.Slot.content g.S.Slot.len_of g.S.Slot.faults (fabric_view c.args.desk.now.fabric.now) c.args.desk.now.by c.args.file.now c.create_with_room.new.file
    c.args.desk.now.hand.now c.create_with_room.new.desk.hand.now c.requires.shape
    (subst (λ (x : FileView g.row.S.Denot). IsFile g.S.Slot.place_of g.S.Slot.content g.S.Slot.len_of x) c.reserve_for_path.ensures.same c.reserve_for_path.ensures.file)
    c.create_with_room.result (returns-in-Ok-clause-tells g c)
