use Rattle.std.specs.Io.KnownBytes.{Keeps}
use Rattle.flex_io.proofs.std_source.read_once.Given as goal

abbrev pub invariant-loop-turn : goal.invariant-loop-turn
invariant-loop-turn g l = Keeps (g.Rd.Read.remaining l.fn.reader) (g.Rd.Read.remaining l.reader)
