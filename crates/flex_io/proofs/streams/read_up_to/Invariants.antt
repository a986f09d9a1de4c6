use Rattle.std.proofs.Common.{◌<◌, vec_len}
use Rattle.flex_io.proofs.StreamSteps.{IsReadSoFar}
use Rattle.flex_io.proofs.streams.read_up_to.Given as goal

abbrev pub invariant-loop-turn : goal.invariant-loop-turn
invariant-loop-turn g l =
    IsReadSoFar (g.S.Source.remaining l.fn.source) (g.S.Source.remaining l.source) (g.S.Source.faults l.fn.source) (g.S.Source.faults l.source) l.bytes.items l._turn l.limit
    × (0 < vec_len l.buffer)
