-- A drive is tried once.
use Rattle.std.proofs.Common.{refl, sym, ap, ◌∙◌, subst, arith}
use Rattle.domains.proofs.ShapeLemmas.{IsDrive-of}
use Rattle.domains.specs.Place.{IsPlaceOf}
use Rattle.held_slots.specs.Slots.{drive_of}
use Rattle.fabric.specs.Accounts.{Gains, Stays}
use Rattle.fabric.specs.PoolTurns.{FindsNone, Takes}
use Rattle.fabric.specs.HandTurns.{AtPool}
use Rattle.fabric.specs.Views.{fabric_view}
use Rattle.held_slots.specs.Slots.{place_from}
use Rattle.slot_search.specs.HandSeats.{drives_at}
use Rattle.slot_search.proofs.TriedDrives.{drives_at-push}
use Rattle.slot_search.proofs.SearchSets.{keeps-gave, keeps-none, room_for_empty}
use Rattle.slot_search.proofs.search.draw_on.Goals as goal

pub push_reserved-requires-in-Err : goal.push_reserved-requires-in-Err
push_reserved-requires-in-Err g c =
    let room = room_for_empty g.S.Slot.place_of c.args.request.now c.args.search.now c.requires.search c.args.drive c.requires.may in
    let long = c.args.search.now.empty.ok in
    omega (arith, room, long)

pub returns-in-Ok-clause-keeps : goal.returns-in-Ok-clause-keeps
returns-in-Ok-clause-keeps g c =
    let place_of = g.S.Slot.place_of in
    let old = c.args.search.now in
    let hand_old = c.args.hand.now in
    keeps-gave place_of c.args.request.now old c.requires.search c.args.drive c.requires.may (fabric_view c.args.fabric.now) (record old { taken = c.add.new.self; slots = c.push_reserved.new.self }) hand_old c.draw.new.hand
    c.draw.ensures.hand c.draw.ensures.number c.in-Ok.held c.in-Ok.ensures.on c.push_reserved.ensures.items c.push_reserved.ensures.capacity
    (record { adds = c.add.ensures }) refl refl
    (subst (λ s. IsPlaceOf s (place_from (place_of c.in-Ok.held))) c.requires.shape c.in-Ok.ensures.place)
    (subst (λ s. AtPool s (drive_of place_of c.in-Ok.held) (Takes place_of c.in-Ok.held) hand_old c.draw.new.hand) c.requires.shape
    (subst (λ d. AtPool (fabric_view c.args.fabric.now).shape d (Takes place_of c.in-Ok.held) hand_old c.draw.new.hand) (sym c.in-Ok.ensures.on) c.in-Ok.ensures.ok))
    (subst (λ s. Gains s (drive_of place_of c.in-Ok.held) hand_old c.draw.new.hand) c.requires.shape
    (subst (λ d. Gains (fabric_view c.args.fabric.now).shape d hand_old c.draw.new.hand) (sym c.in-Ok.ensures.on) c.in-Ok.ensures.more))

pub returns-in-Err-clause-keeps : goal.returns-in-Err-clause-keeps
returns-in-Err-clause-keeps g c =
    let place_of = g.S.Slot.place_of in
    let old = c.args.search.now in
    let hand_old = c.args.hand.now in
    keeps-none place_of c.args.request.now old c.requires.search c.args.drive c.requires.may (fabric_view c.args.fabric.now) (record old { spent = c.add-in-Err.new.self; empty = c.push_reserved-in-Err.new.self }) hand_old c.draw.new.hand
    c.draw.ensures.hand c.draw.ensures.number c.in-Err.field-0.turn refl (record { adds = c.add-in-Err.ensures }) refl
    c.push_reserved-in-Err.ensures.items c.push_reserved-in-Err.ensures.capacity
    (subst (λ s. AtPool s c.args.drive (FindsNone place_of c.in-Err.field-0.turn) hand_old c.draw.new.hand) c.requires.shape c.in-Err.ensures.empty)
    (subst (λ s. Stays s hand_old c.draw.new.hand) c.requires.shape c.in-Err.ensures.same)

pub returns-in-Err-clause-none : goal.returns-in-Err-clause-none
returns-in-Err-clause-none g c is = record {
  slots = refl;
  spent = λ d of. c.add-in-Err.ensures d (IsDrive-of c.args.request.now.shape d c.requires.search.cluster of);
  empty =
      ap drives_at c.push_reserved-in-Err.ensures.items
      ∙ drives_at-push g.S.Slot.place_of c.args.search.now.empty.items (record { drive = c.args.drive; turn = c.in-Err.field-0.turn });
}
