use Rattle.std.proofs.Common.{rules, ap, ◌∙◌}
use Rattle.turn_cell.proofs.SeatTakenIn.{joins_as}
use Rattle.turn_cell.proofs.ViewLemmas.{active_is}
use Rattle.turn_cell.proofs.cell.TurnCell.take_in.Goals as goal

pub join_seat-requires : goal.join_seat-requires
join_seat-requires g c =
    let first = c.args.first.now in
    let token = c.into_token.ensures in (
      c.requires.own.0,
      ap (λ p. p.table_id) token ∙ c.requires.own.1,
      ap (λ p. p.me.1) token ∙ c.requires.idle.1.1,
      search rules,
      joins_as _ _ _ _ _ _ _ _ _ _ _ _ (active_is _ first.active) (ap (λ p. p.me.0) token ∙ active_is _ c.args.seat.active) c.requires.idle.0.0 c.requires.idle.1.0,
    )
