-- The slot that failed leaves the group, and its drive is spent.
use Rattle.std.proofs.Common.{◌≡◌, true, sym, subst, arith}
use Rattle.domains.specs.Shape.{is_of}
use Rattle.domains.specs.Drive.{Drive}
use Rattle.held_slots.specs.Slots.{drive_of, place_from}
use Rattle.domains.specs.Place.{IsPlaceOf}
use Rattle.domains.proofs.ShapeLemmas.{IsDrive-of}
use Rattle.fabric.specs.Accounts.{Loses, Stays}
use Rattle.fabric.specs.Views.{seat_on}
use Rattle.placement.proofs.SlotFailed.{aside-between, aside-in_order, closed_still, gone-place, room_for_failure, slots_are}
use Rattle.placement.proofs.SlotRetired.{parted, spent-lost}
use Rattle.slot_search.proofs.SeatTurns.{asks-still}
use Rattle.placement.specs.PartialGroups.{HasLost, NotesFailure}
use Rattle.placement.proofs.partial_group.set_aside.Goals as goal

pub place-requires : goal.place-requires
place-requires g c =
    let t = c.args.request.now in
    let place = gone-place g.S.Slot.place_of t c.args.group.now c.args.group.now c.args.held c.requires.in_order in
    let low = place.slot in
    let few = c.requires.in_order.cluster.slots in
    record { drive = IsDrive-of t.shape _ c.requires.in_order.cluster place.drive; slot = omega (arith, low, few) }

pub note_failure-requires-clause-room : goal.note_failure-requires-clause-room
note_failure-requires-clause-room g c κs bounds =
    room_for_failure g.S.Slot.place_of c.args.request.now c.args.group.now c.args.group.now c.args.held c.requires.in_order

pub retire-requires-clause-place : goal.retire-requires-clause-place
retire-requires-clause-place g c κs bounds =
    subst (λ s. IsPlaceOf s (place_from (g.S.Slot.place_of c.args.held))) (sym c.requires.shape)
    (gone-place g.S.Slot.place_of c.args.request.now c.args.group.now c.args.group.now c.args.held c.requires.in_order)

pub returns-in-Ok-clause-in_order : goal.returns-in-Ok-clause-in_order
returns-in-Ok-clause-in_order g c =
    let t = c.args.request.now in
    let p = c.args.group.now in
    let new = c.note_failure.new.self in
    let noted = subst (λ place. NotesFailure place p new) c.place.ensures c.note_failure.ensures in
    aside-in_order g.S.Slot.place_of t p new c.args.held c.requires.in_order noted

pub returns-in-Ok-clause-between : goal.returns-in-Ok-clause-between
returns-in-Ok-clause-between g c =
    let t = c.args.request.now in
    let p = c.args.group.now in
    let new = c.note_failure.new.self in
    let noted = subst (λ place. NotesFailure place p new) c.place.ensures c.note_failure.ensures in
    aside-between g.S.Slot.place_of t p new c.args.held c.requires.in_order noted c.requires.stage

pub returns-in-Ok-clause-once : goal.returns-in-Ok-clause-once
returns-in-Ok-clause-once g c start asked =
    let t = c.args.request.now in
    let p = c.args.group.now in
    let new = c.note_failure.new.self in
    let noted = subst (λ place. NotesFailure place p new) c.place.ensures c.note_failure.ensures in
    asks-still g.S.Slot.place_of t.shape p.search new.search start c.args.hand.now c.retire.new.hand asked
    (closed_still g.S.Slot.place_of t p new c.args.held c.requires.in_order noted)
    (subst (λ s. (e : Drive) → is_of s e ≡ true → seat_on s c.retire.new.hand e ≡ seat_on s c.args.hand.now e) c.requires.shape c.in-Ok.ensures.ok.pools)

pub returns-in-Err-clause-in_order : goal.returns-in-Err-clause-in_order
returns-in-Err-clause-in_order g c =
    let t = c.args.request.now in
    let p = c.args.group.now in
    let new = c.note_failure.new.self in
    let noted = subst (λ place. NotesFailure place p new) c.place.ensures c.note_failure.ensures in
    aside-in_order g.S.Slot.place_of t p new c.args.held c.requires.in_order noted

pub returns-in-Err-clause-between : goal.returns-in-Err-clause-between
returns-in-Err-clause-between g c =
    let t = c.args.request.now in
    let p = c.args.group.now in
    let new = c.note_failure.new.self in
    let noted = subst (λ place. NotesFailure place p new) c.place.ensures c.note_failure.ensures in
    aside-between g.S.Slot.place_of t p new c.args.held c.requires.in_order noted c.requires.stage

pub returns-in-Err-clause-once : goal.returns-in-Err-clause-once
returns-in-Err-clause-once g c start asked =
    let t = c.args.request.now in
    let p = c.args.group.now in
    let new = c.note_failure.new.self in
    let noted = subst (λ place. NotesFailure place p new) c.place.ensures c.note_failure.ensures in
    asks-still g.S.Slot.place_of t.shape p.search new.search start c.args.hand.now c.retire.new.hand asked
    (closed_still g.S.Slot.place_of t p new c.args.held c.requires.in_order noted)
    (subst (λ s. (e : Drive) → is_of s e ≡ true → seat_on s c.retire.new.hand e ≡ seat_on s c.args.hand.now e) c.requires.shape c.in-Err.ensures.refused.pools)

pub returns-in-Ok-clause-placed : goal.returns-in-Ok-clause-placed
returns-in-Ok-clause-placed g c went units start drawn same rose at has =
    let place_of = g.S.Slot.place_of in
    let t = c.args.request.now in
    let p = c.args.group.now in
    let new = c.note_failure.new.self in
    let noted = subst (λ place. NotesFailure place p new) c.place.ensures c.note_failure.ensures in
    let retired = c.in-Ok.ensures.ok in
    parted place_of g.S.Slot.content g.S.Slot.len_of g.S.Slot.faults t p new c.args.held c.requires.in_order noted
    units start c.args.hand.now c.retire.new.hand drawn
    (subst (λ s. (e : Drive) → is_of s e ≡ true → seat_on s c.retire.new.hand e ≡ seat_on s c.args.hand.now e) c.requires.shape retired.pools) retired.done
    (subst (λ s. Loses s (drive_of place_of c.args.held) c.args.hand.now c.retire.new.hand) c.requires.shape c.in-Ok.ensures.less)
    rose same at has

pub returns-in-Err-clause-lost : goal.returns-in-Err-clause-lost
returns-in-Err-clause-lost g c went units start has =
    let place_of = g.S.Slot.place_of in
    let t = c.args.request.now in
    let p = c.args.group.now in
    let new = c.note_failure.new.self in
    let noted = subst (λ place. NotesFailure place p new) c.place.ensures c.note_failure.ensures in
    subst (λ xs. HasLost place_of t.shape xs start c.retire.new.hand) (sym (slots_are place_of t p new c.args.held c.requires.in_order noted))
    (spent-lost place_of t p c.args.held (gone-place place_of t p p c.args.held c.requires.in_order) start c.args.hand.now c.retire.new.hand
    (subst (λ s. Stays s c.args.hand.now c.retire.new.hand) c.requires.shape c.in-Err.ensures.same) has.account)
