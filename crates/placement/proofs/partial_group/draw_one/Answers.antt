-- A slot comes in place of one that failed, or no drive is left.
use Rattle.std.proofs.Common.{◌≡◌, ◌≤◌, ◌++◌, List, [], ◌∷◌, length, refl, ap, ◌∙◌, arith}
use Rattle.std.proofs.lemmas.List.{length_push, nil_from_length}
use Rattle.fabric.specs.Views.{fabric_view}
use Rattle.placement.specs.declared.partial_group.PartialGroup.{PartialGroup}
use Rattle.placement.proofs.ReplacementDrawn.{given-placed, none-placed}
use Rattle.placement.proofs.ReplacementOrder.{IsAfter, given-in_order, none-in_order, none_left}
use Rattle.slot_search.proofs.SeatTurns.{asks-then}
use Rattle.placement.proofs.StageReached.{given-stage, none-stage}
use Rattle.placement.proofs.partial_group.draw_one.Given.{Over}
use Rattle.placement.proofs.partial_group.draw_one.Goals as goal

-- a list of at most one that ends with this one is this one
only : {A : Type 0} (xs rest : List A) (x : A) → xs ≡ rest ++ x ∷ [] → length xs ≤ 1 → (rest ≡ []) × (xs ≡ x ∷ [])
only xs rest x is few =
    let long = ap length is ∙ length_push rest x in
    let none = nil_from_length rest (omega (arith, long, few)) in
    (none, is ∙ ap (λ ys. ys ++ x ∷ []) none)

-- no drive gave a slot
module _ (g : Over) (c : goal.In_default g) where
  abbrev emptied : PartialGroup g.row.S.Denot
  emptied = record c.args.group.now { search = record c.draw_all.new.search { slots = c.pop.new.self } }

  none : c.draw_all.new.search.slots.items ≡ []
  none =
      let ended = (rw c.in_default.is at c.pop.ensures.cases) in
      let long = c.draw_all.new.search.slots.ok in
      nil_from_length c.draw_all.new.search.slots.items (omega (arith, ended, long))

  after-none : IsAfter g.S.Slot.place_of (fabric_view c.args.fabric.now) c.args.request.now c.args.group.now c.requires.in_order c.draw_all.new.search c.args.hand.now
      c.draw_all.new.hand c.draw_all.ensures.keeps c.draw_all.ensures.order emptied
  after-none =
      let ended = (rw c.in_default.is at c.pop.ensures.cases) in
      let rest = c.pop.new.self.ok in
      record {
        taken = refl;
        spent_same = refl;
        empty = refl;
        none = nil_from_length c.pop.new.self.items (omega (arith, ended, rest));
        capacity = c.pop.ensures.capacity;
        written = refl;
        failed = refl;
      }

pub returns-in_default-clause-in_order : goal.returns-in_default-clause-in_order
returns-in_default-clause-in_order g c =
    none-in_order g.S.Slot.place_of (fabric_view c.args.fabric.now) c.args.request.now c.args.group.now c.requires.in_order c.draw_all.new.search c.args.hand.now
    c.draw_all.new.hand c.draw_all.ensures.keeps c.draw_all.ensures.order (none g c) (emptied g c) (after-none g c) refl

pub returns-in_default-clause-stage : goal.returns-in_default-clause-stage
returns-in_default-clause-stage g c =
    none-stage g.S.Slot.place_of (fabric_view c.args.fabric.now) c.args.request.now c.args.group.now c.requires.in_order c.draw_all.new.search c.args.hand.now
    c.draw_all.new.hand c.draw_all.ensures.keeps c.draw_all.ensures.order c.requires.between (none g c) (emptied g c) (after-none g c) refl

pub returns-in_default-clause-none : goal.returns-in_default-clause-none
returns-in_default-clause-none g c not = (
  refl,
  none_left g.S.Slot.place_of (fabric_view c.args.fabric.now) c.args.request.now c.args.group.now c.requires.in_order c.draw_all.new.search c.args.hand.now
      c.draw_all.new.hand c.draw_all.ensures.keeps c.draw_all.ensures.order (none g c),
)

pub returns-in_default-clause-placed : goal.returns-in_default-clause-placed
returns-in_default-clause-placed g c units start placed =
    none-placed g.S.Slot.place_of g.S.Slot.content g.S.Slot.len_of g.S.Slot.faults (fabric_view c.args.fabric.now) c.args.request.now c.args.group.now c.requires.in_order
    c.draw_all.new.search c.args.hand.now c.draw_all.new.hand c.draw_all.ensures.keeps c.draw_all.ensures.order units start placed (emptied g c) (after-none g c) (none g c) refl

-- a drive gave a slot, the only one
module _ (g : Over) (c : goal.After-push_reserved g) where
  abbrev filled : PartialGroup g.row.S.Denot
  filled = record c.args.group.now { search = record c.draw_all.new.search { slots = c.pop.new.self }; waiting = c.push_reserved.new.self }

  one : (c.pop.new.self.items ≡ []) × (c.draw_all.new.search.slots.items ≡ c.in-Some.held ∷ [])
  one = only c.draw_all.new.search.slots.items c.pop.new.self.items c.in-Some.held c.in-Some.ensures.items c.draw_all.ensures.keeps.search.few

  after-one : IsAfter g.S.Slot.place_of (fabric_view c.args.fabric.now) c.args.request.now c.args.group.now c.requires.in_order c.draw_all.new.search c.args.hand.now
      c.draw_all.new.hand c.draw_all.ensures.keeps c.draw_all.ensures.order filled
  after-one = record { taken = refl; spent_same = refl; empty = refl; none = one.0; capacity = c.pop.ensures.capacity; written = refl; failed = refl }

pub returns-clause-in_order : goal.returns-clause-in_order
returns-clause-in_order g c =
    given-in_order g.S.Slot.place_of (fabric_view c.args.fabric.now) c.args.request.now c.args.group.now c.requires.in_order c.draw_all.new.search c.args.hand.now
    c.draw_all.new.hand c.draw_all.ensures.keeps c.draw_all.ensures.order c.in-Some.held (one g c).1 (filled g c) (after-one g c) c.requires.wanted
    c.push_reserved.ensures.items c.push_reserved.ensures.capacity

pub returns-clause-stage : goal.returns-clause-stage
returns-clause-stage g c =
    given-stage g.S.Slot.place_of (fabric_view c.args.fabric.now) c.args.request.now c.args.group.now c.requires.in_order c.draw_all.new.search c.args.hand.now
    c.draw_all.new.hand c.draw_all.ensures.keeps c.draw_all.ensures.order c.requires.between c.in-Some.held (one g c).1 (filled g c) (after-one g c)
    c.push_reserved.ensures.items

pub returns-clause-placed : goal.returns-clause-placed
returns-clause-placed g c units start placed =
    given-placed g.S.Slot.place_of g.S.Slot.content g.S.Slot.len_of g.S.Slot.faults (fabric_view c.args.fabric.now) c.args.request.now c.args.group.now c.requires.in_order
    c.draw_all.new.search c.args.hand.now c.draw_all.new.hand c.draw_all.ensures.keeps c.draw_all.ensures.order units start placed (filled g c) c.in-Some.held
    (after-one g c) (one g c).1 c.push_reserved.ensures.items

pub returns-in_default-clause-once : goal.returns-in_default-clause-once
returns-in_default-clause-once g c start asked =
    asks-then g.S.Slot.place_of c.args.request.now.shape c.args.group.now.search c.draw_all.new.search start c.args.hand.now c.draw_all.new.hand asked
    c.draw_all.ensures.keeps.same c.draw_all.ensures.keeps.asked

pub returns-clause-once : goal.returns-clause-once
returns-clause-once g c start asked =
    asks-then g.S.Slot.place_of c.args.request.now.shape c.args.group.now.search c.draw_all.new.search start c.args.hand.now c.draw_all.new.hand asked
    c.draw_all.ensures.keeps.same c.draw_all.ensures.keeps.asked
