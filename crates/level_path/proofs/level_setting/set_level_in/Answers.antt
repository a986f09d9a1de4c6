-- The memory that was reserved is no part of what the answer tells.
use Rattle.std.proofs.Common.{subst}
use Rattle.fabric.specs.Views.{fabric_view}
use Rattle.file_core.specs.FileView.{FileView}
use Rattle.level_path.specs.Levels.{LevelTells}
use Rattle.level_path.proofs.LevelLemmas.{tells_of_old}
use Rattle.level_path.proofs.level_setting.set_level_in.Goals as goal

pub returns-in-Ok-clause-tells : goal.returns-in-Ok-clause-tells
returns-in-Ok-clause-tells g c =
    tells_of_old (fabric_view c.args.desk.now.fabric.now) c.args.desk.now.by c.args.level c.args.file.now c.set_level_with_room.new.file
    c.args.desk.now.hand.now c.set_level_with_room.new.desk.hand.now c.reserve_for_path.new.file.spare c.set_level_with_room.result
    (subst
    (λ (x : FileView g.row.S.Denot). LevelTells c.set_level_with_room.result (fabric_view c.args.desk.now.fabric.now) c.args.desk.now.by c.args.level x c.set_level_with_room.new.file
    c.args.desk.now.hand.now c.set_level_with_room.new.desk.hand.now)
    c.reserve_for_path.ensures.same c.set_level_with_room.ensures.tells)
