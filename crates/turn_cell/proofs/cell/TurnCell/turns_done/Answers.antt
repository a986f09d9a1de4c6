use Rattle.std.proofs.Common.{rules, ap}
use Rattle.turn_cell.proofs.TicketDrawn.{looks_as}
use Rattle.turn_cell.proofs.ViewLemmas.{me_is}
use Rattle.turn_cell.proofs.SeatViewLemmas.{free_and}
use Rattle.turn_cell.proofs.cell.TurnCell.turns_done.Goals as goal

pub load-requires : goal.load-requires
load-requires g c =
    let idle = free_and _ _ c.requires.idle in
    (ap (λ cell. cell.name) c.requires.own, search rules, looks_as _ _ _ _ _ _ _ _ _ _ (me_is _ c.args.seat.now.active _ idle.1) idle.0)
