use Rattle.std.proofs.Common.{refl, ◌∙◌, arith}
use Rattle.flex_run.proofs.TakenSlots.{PutsBack-none, PutsBack-push}
use Rattle.flex_run.proofs.RackCounts.{RisesBy-none, RisesBy-push}
use Rattle.flex_run.proofs.slots.put_all.Goals as goal

pub loop-piece-init : goal.loop-piece-init
loop-piece-init g c = (PutsBack-none _ _ _, omega arith, refl, RisesBy-none _)

pub loop-piece-preserved : goal.loop-piece-preserved
loop-piece-preserved g c = (
  PutsBack-push _ _ _ _ _ _ _ c.loop-piece.invariant.0 c.in_ok-put.ensures.ok,
  let later = c.in_ok-put.ensures.never_falls in
      let before = c.loop-piece.invariant.1 in
      omega (arith, later, before),
  c.in_ok-put.ensures.takes ∙ c.loop-piece.invariant.2,
  RisesBy-push c.loop-piece.yielded _ _ _ _ c.loop-piece.invariant.3 c.in_ok-put.ensures.puts,
)
