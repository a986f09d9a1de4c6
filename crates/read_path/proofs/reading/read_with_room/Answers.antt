-- What is told at the view that the hand saw.
use Rattle.std.proofs.Common.{ℕ, subst}
use Rattle.fabric.specs.Views.{fabric_view}
use Rattle.file_turns.specs.Paths.{SeesBoard}
use Rattle.read_path.proofs.ReadAnswers.{tells_at}
use Rattle.read_path.proofs.reading.read_with_room.Goals as goal

pub returns-clause-tells : goal.returns-clause-tells
returns-clause-tells g c =
    let view = c.look_at_board-view.result in
    let looked = c.look_at_board-view.new.hand in
    let sees = subst (λ (n : ℕ). SeesBoard (fabric_view c.args.desk.now.fabric.now) n view c.args.desk.now.hand.now looked) c.last_epoch.ensures c.look_at_board-view.ensures.sees in
    tells_at g.S.Slot.place_of g.S.Slot.content g.S.Slot.len_of g.S.Slot.reads c.read_at.result (fabric_view c.args.desk.now.fabric.now) c.args.desk.now.by view c.args.offset c.args.len
    c.args.file.now c.read_at.new.file c.args.desk.now.hand.now looked (record { room = c.requires.room; sees = sees }) c.read_at.ensures.tells
