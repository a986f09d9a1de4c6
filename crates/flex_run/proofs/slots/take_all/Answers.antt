use Rattle.std.proofs.Common.{◌≡◌, ◌+◌, ◌*◌, ℕ, [], refl, arith, ◌∙◌, rules}
use Rattle.held_slots.specs.Slots.{places_from}
use Rattle.flex_run.proofs.TakenSlots.{takes_node}
use Rattle.flex_run.proofs.RackCounts.{RisesBy-no_times, RisesBy-then, RisesBy-same, times_more}
use Rattle.flex_run.proofs.slots.take_all.Goals as goal

pub loop-node-init : goal.loop-node-init
loop-node-init g c = (
  (let start : places_from g.R.Piece.Slot.place_of c.reserve.new.self.items ≡ [] = search rules in start),
  refl,
  omega arith,
  RisesBy-no_times _ _,
  refl,
)

pub loop-node-preserved : goal.loop-node-preserved
loop-node-preserved g c =
    let each : ℕ = c.args.shape.drives * c.args.shape.slots in (
      takes_node _ _ c.loop-node.node c.args.shape c.loop-node.invariant.0 c.in_ok-take_node.ensures.order,
      c.in_ok-take_node.ensures.same ∙ c.loop-node.invariant.1,
      let later = c.in_ok-take_node.ensures.never_falls in
          let before = c.loop-node.invariant.2 in
          omega (arith, later, before),
      RisesBy-same _ _ _ _ (times_more c.loop-node.node each)
          (RisesBy-then (c.loop-node.node * each) each _ _ _ c.loop-node.invariant.3 c.in_ok-take_node.ensures.takes),
      c.in_ok-take_node.ensures.puts ∙ c.loop-node.invariant.4,
    )
