use Rattle.std.proofs.Common.{rules}
use Rattle.turn_cell.proofs.SeatMade.{deals_as}
use Rattle.turn_cell.proofs.cell.TurnCell.deal.Goals as goal

pub split_seat-token-requires : goal.split_seat-token-requires
split_seat-token-requires g c = (c.requires.own, search rules, deals_as _ _ _ _ _ _ _ _ _ c.requires.room c.requires.dealer)
