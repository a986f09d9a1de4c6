use Rattle.std.specs.Io.KnownBytes.{Keeps}
use Rattle.flex_io.proofs.std_sink.write_once.Given as goal

abbrev pub invariant-loop-turn : goal.invariant-loop-turn
invariant-loop-turn g l = Keeps (g.Wr.Write.contents l.fn.writer) (g.Wr.Write.contents l.writer)
