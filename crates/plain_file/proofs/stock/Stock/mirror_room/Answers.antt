use Rattle.std.proofs.Common.{◌≡◌, ◌≤◌, ◌<◌, ◌+◌, length, ◌∙◌, inl, inr, refl, arith}
use Rattle.std.proofs.lemmas.Bool.{cases_lt, false≢true}
use Rattle.domains.specs.Level.{two_copies}
use Rattle.domains.specs.DriveSet.{has}
use Rattle.domains.specs.Room.{room_of}
use Rattle.board_history.specs.Board.{up_after}
use Rattle.plain_file.proofs.MirrorRoom.{room_of_same}
use Rattle.plain_file.proofs.stock.Stock.mirror_room.Goals as goal

pub returns-in-Ok-clause-room : goal.returns-in-Ok-clause-room
returns-in-Ok-clause-room g c =
    let inside = c.self.inside in
    let up = up_after inside.shape inside.board.items (length inside.board.items) in
    let same : room_of two_copies inside.shape (has inside.up) ≡ room_of two_copies inside.shape up =
    room_of_same two_copies inside.shape (has inside.up) up c.nodes-nodes.ensures.within c.self.invariant.up_set in
    let enough : two_copies.m + 1 ≤ room_of two_copies inside.shape (has inside.up) =
    (rw c.two_copies.ensures at c.in-Ok.ensures.accepts).0 refl in
    rw (← c.self.view_is) (omega (arith, same, enough))

pub returns-in-Err-clause-too_few : goal.returns-in-Err-clause-too_few
returns-in-Err-clause-too_few g c =
    let inside = c.self.inside in
    let up = up_after inside.shape inside.board.items (length inside.board.items) in
    let same : room_of two_copies inside.shape (has inside.up) ≡ room_of two_copies inside.shape up =
    room_of_same two_copies inside.shape (has inside.up) up c.nodes-nodes.ensures.within c.self.invariant.up_set in
    let told = rw c.two_copies.ensures at c.in-Err.ensures.too_few in
    let accepts = rw c.two_copies.ensures at c.in-Err.ensures.accepts in
    let short : room_of two_copies inside.shape (has inside.up) < 2 = elim (cases_lt (room_of two_copies inside.shape (has inside.up)) 2) [
      | inl below ↦ below
      | inr enough ↦ absurd (false≢true (accepts.1 enough))
    ] in
    rw (← c.self.view_is) (told.0 ∙ same, told.1, omega (arith, told.0, short))
