use Rattle.std.proofs.Common.{◌≡◌, ℕ, ◌++◌, ◌+◌, ◌-◌, [], ◌∷◌, refl, arith, ◌∙◌, ap, rules}
use Rattle.held_slots.specs.Slots.{place_from, places_from}
use Rattle.flex_run.specs.StockOrder.{drive_stack}
use Rattle.flex_run.proofs.TakenSlots.{takes_slot}
use Rattle.flex_run.proofs.RackCounts.{RisesBy-none, RisesBy-one, RisesBy-then}
use Rattle.flex_run.proofs.slots.take_drive.Goals as goal

pub loop-turn-init : goal.loop-turn-init
loop-turn-init g c = (
  ap (λ (n : ℕ). places_from g.R.Piece.Slot.place_of c.args.slots.now.items ++ drive_stack n (record { node = c.args.drive.0; drive = c.args.drive.1 }))
      (let same : c.args.count - 0 ≡ c.args.count = omega arith in same),
  refl,
  omega arith,
  RisesBy-none _,
  refl,
)

pub loop-turn-preserved : goal.loop-turn-preserved
loop-turn-preserved g c =
    let place_of = g.R.Piece.Slot.place_of in
    let pushed : c.push.new.self.items ≡ c.loop-turn.slots.items ++ c.in_ok-piece.piece ∷ [] = search rules in
    let taken = takes_slot place_of c.loop-turn.slots.items c.in_ok-piece.piece c.args.count c.loop-turn.turn _ _ c.loop-turn-test.true c.loop-turn.invariant.0 (ap place_from c.in_ok-piece.ensures.place) in (
      ap (λ l. places_from place_of l ++ drive_stack (c.args.count - (c.loop-turn.turn + 1)) (record { node = c.args.drive.0; drive = c.args.drive.1 })) pushed ∙ taken,
      c.in_ok-piece.ensures.back ∙ c.loop-turn.invariant.1,
      let later = c.in_ok-piece.ensures.never_falls in
          let before = c.loop-turn.invariant.2 in
          omega (arith, later, before),
      RisesBy-then c.loop-turn.turn 1 _ _ _ c.loop-turn.invariant.3 (RisesBy-one _ _ c.in_ok-piece.ensures.takes),
      c.in_ok-piece.ensures.puts ∙ c.loop-turn.invariant.4,
    )
