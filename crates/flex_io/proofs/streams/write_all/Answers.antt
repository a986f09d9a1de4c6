use Rattle.std.proofs.Common.{arith, length-drop}
use Rattle.flex_io.proofs.StreamSteps.{Appends-front}
use Rattle.flex_io.proofs.streams.write_all.Goals as goal

pub loop-at-preserved : goal.loop-at-preserved
loop-at-preserved g c = (
  Appends-front _ _ _ _ _ _ c.loop-at.invariant.0 c.in_ok-at.ensures.written,
  omega (arith, length-drop c.loop-at.at c.args.bytes.now, c.in_ok-at.ensures.within),
  omega (arith, c.write.ensures.never_falls, c.loop-at.invariant.2),
)
