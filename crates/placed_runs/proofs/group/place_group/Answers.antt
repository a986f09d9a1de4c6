use Rattle.std.proofs.Common.{refl, sym, ap, subst}
use Rattle.domains.specs.Shape.{Shape}
use Rattle.fabric.specs.Views.{fabric_view}
use Rattle.placed_runs.specs.PlacedRuns.{MayGoBack}
use Rattle.placed_runs.proofs.PlacedSlots.{placed_may_go_back}
use Rattle.placed_runs.proofs.group.place_group.Goals as goal

pub on_slots-requires-clause-back : goal.on_slots-requires-clause-back
on_slots-requires-clause-back g c κs within =
    subst (λ (shape : Shape). MayGoBack g.S.Slot.place_of shape c.args.terms.now.view c.in-Ok-place.slots) (sym (ap (λ f. (fabric_view f).shape) c.place.ensures.same.fabric))
    (placed_may_go_back g.S.Slot.place_of c.args.terms.now (fabric_view c.args.desk.now.fabric.now).shape c.args.spin _ c.in-Ok-place.slots
    (record { level = refl; shape_is = refl; usable = λ d. refl; used = c.new-none.ensures; spin_is = refl })
    g.S.Slot.content g.S.Slot.len_of g.S.Slot.faults _ c.args.desk.now.hand.now c.place.new.desk.hand.now c.in-Ok-place.ensures.ok)
