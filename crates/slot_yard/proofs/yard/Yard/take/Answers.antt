use Rattle.std.proofs.Common.{rules, ◌≡◌, ◌∷◌}
use Rattle.slot_yard.specs.Queues.{IsOldest, queue_of}
use Rattle.slot_yard.proofs.SlotMoved.{IsOldest-first, IsPlaceOf-taken, IsYard-take, counted_within, is_of-waiting}
use Rattle.slot_yard.proofs.yard.Yard.take.Given.{Over}
use Rattle.slot_yard.proofs.yard.Yard.take.Goals as goal

pub count-requires-clause-within : goal.count-requires-clause-within
count-requires-clause-within g c =
    let first : queue_of c.args.drive c.self.inside.waiting ≡ c.in-Some.held ∷ queue_of c.args.drive c.pop.new.self = search rules in
    counted_within g.S.Slot.place_of _ c.args.drive c.self.invariant (is_of-waiting g.S.Slot.place_of _ c.args.drive c.in-Some.held _ c.self.invariant c.pop.ensures.within first)

module _ (g : Over) (c : goal.After-count g) where
  is_oldest : IsOldest g.S.Slot.place_of c.args.drive c.in-Some.held c.self.inside.waiting c.pop.new.self
  is_oldest =
      let first : queue_of c.args.drive c.self.inside.waiting ≡ c.in-Some.held ∷ queue_of c.args.drive c.pop.new.self = search rules in
      rw (c.pop.ensures.rest) (IsOldest-first g.S.Slot.place_of _ c.args.drive c.in-Some.held _ c.self.invariant c.pop.ensures.within first)

pub invariant_of-self-2 : goal.invariant_of-self-2
invariant_of-self-2 g c =
    let first : queue_of c.args.drive c.self.inside.waiting ≡ c.in-Some.held ∷ queue_of c.args.drive c.pop.new.self = search rules in
    let made = IsYard-take g.S.Slot.place_of _ c.args.drive c.in-Some.held _ c.self.invariant c.pop.ensures.within first in
    rw (c.count.ensures, c.pop.ensures.rest) made

pub returns-clause-ok : goal.returns-clause-ok
returns-clause-ok g c =
    let oldest = is_oldest g c in
    search rules

pub returns-clause-place : goal.returns-clause-place
returns-clause-place g c =
    let place = IsPlaceOf-taken g.S.Slot.place_of _ c.args.drive c.in-Some.held c.pop.new.self c.self.invariant (is_oldest g c) in
    search rules

pub returns-clause-yard : goal.returns-clause-yard
returns-clause-yard g c = invariant_of-self-2 g c
