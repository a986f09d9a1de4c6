use Rattle.std.proofs.Common.{◌≡◌, ◌++◌, ◌+◌, ◌*◌, ℕ, refl, arith, sym, ◌∙◌, ap, append-nil}
use Rattle.held_slots.specs.Slots.{places_from}
use Rattle.flex_run.specs.StockOrder.{drive_stack}
use Rattle.flex_run.proofs.TakenSlots.{takes_drive}
use Rattle.flex_run.proofs.RackCounts.{RisesBy-no_times, RisesBy-then, RisesBy-same, times_more}
use Rattle.flex_run.proofs.slots.take_node.Goals as goal

pub loop-drive-init : goal.loop-drive-init
loop-drive-init g c = (sym (append-nil _), refl, omega arith, RisesBy-no_times _ _, refl)

pub loop-drive-preserved : goal.loop-drive-preserved
loop-drive-preserved g c =
    let order = c.in_ok-take_drive.ensures.order ∙ ap (λ (n : ℕ). places_from g.R.Piece.Slot.place_of c.loop-drive.slots.items ++ drive_stack n (record { node = c.args.node; drive = c.loop-drive.drive + 1 })) c.slots.ensures.value in (
      takes_drive _ _ _ c.loop-drive.drive c.args.node c.args.shape.slots c.loop-drive.invariant.0 order,
      c.in_ok-take_drive.ensures.same ∙ c.loop-drive.invariant.1,
      let later = c.in_ok-take_drive.ensures.never_falls in
          let before = c.loop-drive.invariant.2 in
          omega (arith, later, before),
      RisesBy-same _ _ _ _ (times_more c.loop-drive.drive c.args.shape.slots)
          (RisesBy-then (c.loop-drive.drive * c.args.shape.slots) c.args.shape.slots _ _ _ c.loop-drive.invariant.3
          (RisesBy-same _ _ _ _ c.slots.ensures.value c.in_ok-take_drive.ensures.takes)),
      c.in_ok-take_drive.ensures.puts ∙ c.loop-drive.invariant.4,
    )
