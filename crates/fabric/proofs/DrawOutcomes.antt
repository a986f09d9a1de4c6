-- What a hand has that drew a slot, or found none.
use Rattle.std.proofs.Common.{◌≡◌, ℕ, ◌<◌, true, [], refl, sym, ◌∙◌, subst}
use Rattle.domains.specs.Shape.{is_of}
use Rattle.domains.specs.Drive.{Drive}
use Rattle.flex_io.specs.declared.raw_place.RawPlace.{RawPlace}
use Rattle.held_slots.specs.Slots.{place_from}
use Rattle.slot_pool.specs.Pools.{PoolView, counted}
use Rattle.slot_pool.specs.Tallies.{found_none, took}
use Rattle.domains.specs.Place.{IsPlaceOf}
use Rattle.held_slots.specs.Slots.{drive_of}
use Rattle.turn_cell.specs.declared.seat.Seat.{Seat}
use Rattle.turn_cell.specs.Seats.{seat_view}
use Rattle.fabric.specs.Accounts.{Gains, Stays}
use Rattle.fabric.specs.Cells.{FabricView}
use Rattle.fabric.specs.PoolTurns.{FindsNone, Takes}
use Rattle.fabric.specs.HandTurns.{AtPool}
use Rattle.fabric.specs.Views.{IsHandOf}
use Rattle.fabric.specs.declared.hand.Hand.{Hand}
use Rattle.fabric.proofs.PoolAccounts.{gains_taken, stays_none}
use Rattle.fabric.proofs.HandAfterTurn.{IsSeatAt, at_pool, hand_at_pool, knows, with_pool}

module _ {S : Type 0} (place_of : S → RawPlace) (f : FabricView) (d : Drive) (hand : Hand S) (place : ℕ) (seat : Seat (PoolView S)) (at : IsSeatAt f d hand place seat)
    (after : Seat (PoolView S)) where
  -- the turn took a slot, as a turn of the hand
  pub taken_at_pool : (held : S) → Takes place_of held (seat_view seat) (seat_view after) → AtPool f.shape d (Takes place_of held) hand (with_pool hand place after)
  taken_at_pool held takes = at_pool f d hand place seat at after (Takes place_of held) takes

  -- the same of a turn that found none
  pub none_at_pool : (turns : ℕ) → FindsNone place_of turns (seat_view seat) (seat_view after) → AtPool f.shape d (FindsNone place_of turns) hand (with_pool hand place after)
  none_at_pool turns finds = at_pool f d hand place seat at after (FindsNone place_of turns) finds

  -- the slot is the drive's
  pub on_drive : (held : S) → Takes place_of held (seat_view seat) (seat_view after) → drive_of place_of held ≡ d
  on_drive held takes = takes.on.drive_is ∙ (knows f d hand place seat at after).0

  -- and one of the cluster's
  pub place_of_taken : (held : S) → Takes place_of held (seat_view seat) (seat_view after) → IsPlaceOf f.shape (place_from (place_of held))
  place_of_taken held takes = record {
    drive = subst (λ (e : Drive). is_of f.shape e ≡ true) (sym (on_drive held takes)) at.of;
    slot = subst (λ (n : ℕ). (place_from (place_of held)).slot < n) (knows f d hand place seat at after).1 takes.on.within;
  }

  -- the hand is the fabric's after either
  pub hand_taken : (held : S) → Takes place_of held (seat_view seat) (seat_view after) → IsHandOf f (with_pool hand place after)
  hand_taken held takes = hand_at_pool f d hand place seat at after (counted (took 1) takes.rest) takes.found (λ p. refl) takes.turn

  pub hand_none : (turns : ℕ) → FindsNone place_of turns (seat_view seat) (seat_view after) → IsHandOf f (with_pool hand place after)
  hand_none turns finds = hand_at_pool f d hand place seat at after (counted found_none []) finds.found (λ p. refl) finds.turn

  -- and holds one slot more, or as many
  pub gains : (held : S) → Takes place_of held (seat_view seat) (seat_view after) → Gains f.shape d hand (with_pool hand place after)
  gains held takes = gains_taken place_of f.shape d hand (with_pool hand place after) held (taken_at_pool held takes)

  pub stays : (turns : ℕ) → FindsNone place_of turns (seat_view seat) (seat_view after) → Stays f.shape hand (with_pool hand place after)
  stays turns finds = stays_none place_of f.shape d hand (with_pool hand place after) turns (none_at_pool turns finds)
