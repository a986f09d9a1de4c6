use Rattle.std.proofs.KnownBytes.{Consumes-trans}
use Rattle.flex_io.proofs.streams.read_up_to.Goals as goal

-- what was taken before, and then in the turn that failed
pub returns-in_err-read_piece-clause-consumed : goal.returns-in_err-read_piece-clause-consumed
returns-in_err-read_piece-clause-consumed g c =
    let last = c.read_piece.ensures.consumed in
    (_, Consumes-trans _ _ _ _ _ c.loop-turn.invariant.0.consumed last.1)
