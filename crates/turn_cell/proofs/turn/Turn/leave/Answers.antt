use Rattle.std.proofs.Common.{◌∙◌}
use Rattle.turn_cell.proofs.HistoryLemmas.{grows, follows_as}
use Rattle.turn_cell.proofs.SeatViewLemmas.{number_is}
use Rattle.turn_cell.proofs.turn.Turn.leave.Goals as goal

pub returns-clause-grows : goal.returns-clause-grows
returns-clause-grows g c =
    let seat = c.args.self.seat.now in
    let S = g.S.Chronicle in
    let state = c.args.self.state in
    let follows = follows_as S.turns_of S.notes_of S.tally_of S.fixed_of _ _ _ _ (seat.numbered ∙ number_is _ seat.active) c.requires.turn.takes.1.follows in
    grows S.turns_of S.notes_of S.tally_of S.fixed_of _ _ _ state _ follows c.requires.changed (g.met.S.Chronicle.passed_notes state) (g.met.S.Chronicle.passed_fixed state)
