-- All but the slot that failed may go back.
use Rattle.std.proofs.Common.{◌≡◌, ℕ, ◌<◌, true, length, get_or, subst, sym, ap, ◌∙◌}
use Rattle.domains.specs.Drive.{AreApart, is_in}
use Rattle.std.proofs.lemmas.List.{get_or_default}
use Rattle.fabric.specs.HandTurns.{AtYard}
use Rattle.fabric.specs.Views.{fabric_view}
use Rattle.fabric.specs.YardTurns.{Retires}
use Rattle.slot_search.specs.HandSeats.{drives_of_all}
use Rattle.placed_runs.specs.PlacedRuns.{HoldsLess, MayGoBack}
use Rattle.placed_runs.proofs.RetiredUnit.{less_with, others_may_go}
use Rattle.placed_runs.proofs.returned.give_others_back.Goals as goal

pub release_all-went-requires-clause-apart : goal.release_all-went-requires-clause-apart
release_all-went-requires-clause-apart g c κs bounds =
    subst (λ l. AreApart (drives_of_all g.S.Slot.place_of l)) (sym c.remove-held.ensures.items)
    (others_may_go g.S.Slot.place_of (fabric_view c.args.fabric.now).shape c.args.view.now c.args.slots.items _ c.requires.back).apart

pub release_all-went-requires-clause-up : goal.release_all-went-requires-clause-up
release_all-went-requires-clause-up g c κs bounds d there =
    (others_may_go g.S.Slot.place_of (fabric_view c.args.fabric.now).shape c.args.view.now c.args.slots.items _ c.requires.back).up d
    (subst (λ l. is_in (drives_of_all g.S.Slot.place_of l) d ≡ true) c.remove-held.ensures.items there)

pub returns-then-retired-clause-all : goal.returns-then-retired-clause-all
returns-then-retired-clause-all g c went =
    let shape = (fabric_view c.args.fabric.now).shape in
    let others : HoldsLess g.S.Slot.place_of shape c.remove-held.new.self.items c.retire-retired.new.hand c.release_all-went.new.hand =
    record { each = (c.release_all-went.ensures.all_back went).account } in
    less_with g.S.Slot.place_of shape c.args.slots.items _ c.remove-held.result c.args.hand.now c.retire-retired.new.hand c.release_all-went.new.hand
    (subst (λ (k : ℕ). k < length c.args.slots.items) (sym c.from.ensures) c.requires.failed.within) c.remove-held.ensures.value
    (c.retire-retired.ensures.less c.if-retired.true)
    (subst (λ l. HoldsLess g.S.Slot.place_of shape l c.retire-retired.new.hand c.release_all-went.new.hand) c.remove-held.ensures.items others)

pub returns-then-retired-clause-retired : goal.returns-then-retired-clause-retired
returns-then-retired-clause-retired g c went = record {
  between = c.retire-retired.new.hand;
  retired = λ default.
      subst (λ (x : g.row.S.Denot). AtYard (fabric_view c.args.fabric.now).shape (Retires g.S.Slot.place_of x) c.args.hand.now c.retire-retired.new.hand)
      (c.remove-held.ensures.value ∙ ap (λ (k : ℕ). get_or c.args.slots.items k c.remove-held.result) c.from.ensures
      ∙ get_or_default c.args.slots.items c.args.position c.remove-held.result default c.requires.failed.within)
      (c.retire-retired.ensures.retired c.if-retired.true);
  yard = c.release_all-went.ensures.yard;
}
