-- The memory that was reserved is no part of what the answer tells.
use Rattle.std.proofs.Common.{subst}
use Rattle.fabric.specs.Views.{fabric_view}
use Rattle.file_core.specs.FileView.{FileView, IsFile}
use Rattle.write_path.specs.Removals.{RemoveTells}
use Rattle.write_path.proofs.RemovalLemmas.{remove_account, tells_of_old}
use Rattle.write_path.proofs.removal.remove_in.Goals as goal

pub returns-in-Ok-clause-tells : goal.returns-in-Ok-clause-tells
returns-in-Ok-clause-tells g c =
    tells_of_old g.S.Slot.place_of (fabric_view c.args.desk.now.fabric.now) c.args.desk.now.by c.args.file.now c.delete_in.new.file c.args.desk.now.hand.now c.delete_in.new.desk.hand.now
    c.reserve_for_path.new.file.spare c.delete_in.result
    (subst
    (λ (x : FileView g.row.S.Denot). RemoveTells g.S.Slot.place_of c.delete_in.result (fabric_view c.args.desk.now.fabric.now) c.args.desk.now.by x c.delete_in.new.file c.args.desk.now.hand.now c.delete_in.new.desk.hand.now)
    c.reserve_for_path.ensures.same c.delete_in.ensures.tells)

pub returns-in-Ok-clause-account : goal.returns-in-Ok-clause-account
returns-in-Ok-clause-account g c =
    remove_account g.S.Slot.place_of g.S.Slot.content g.S.Slot.len_of (fabric_view c.args.desk.now.fabric.now) c.args.desk.now.by c.args.file.now c.delete_in.new.file
    c.args.desk.now.hand.now c.delete_in.new.desk.hand.now
    (subst (λ (x : FileView g.row.S.Denot). IsFile g.S.Slot.place_of g.S.Slot.content g.S.Slot.len_of x) c.reserve_for_path.ensures.same c.reserve_for_path.ensures.file)
    c.delete_in.result (returns-in-Ok-clause-tells g c)
