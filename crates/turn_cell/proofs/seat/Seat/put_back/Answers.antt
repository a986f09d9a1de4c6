use Rattle.std.proofs.Common.{refl, rules, ◌∙◌}
use Rattle.turn_cell.proofs.ValueTaken.{swapped}
use Rattle.turn_cell.proofs.TurnPassed.{leaves_as}
use Rattle.turn_cell.proofs.seat.Seat.put_back.Goals as goal

pub store-requires : goal.store-requires
store-requires g c =
    let is = c.requires.turn.takes.0 in
    let done = swapped _ _ _ _ _ _ is c.exchange-hole.ensures.2 c.exchange-hole.ensures.3 in
    (c.exchange-hole.ensures.0 ∙ c.requires.turn.own, search rules, leaves_as _ _ _ _ _ _ _ _ _ _ _ _ _ done.0 refl c.requires.leaves)
