-- What a turn of one of its seats leaves of a hand.
use Rattle.std.proofs.Common.{◌≡◌, ℕ, ◌<◌, true, false, length, Some, refl, sym, ap, ◌∙◌, subst, inl, inr, arith}
use Rattle.std.specs.Prelude.{slice_get, slice_set, slice_index_or}
use Rattle.std.specs.Vec.{with_item}
use Rattle.std.proofs.lemmas.Bool.{cases_eq}
use Rattle.std.proofs.lemmas.List.{length-set}
use Rattle.std.proofs.lemmas.Option.{same_Some, slice_get_read}
use Rattle.domains.specs.Shape.{is_of}
use Rattle.domains.specs.Drive.{Drive, same_drive}
use Rattle.slot_pool.specs.Pools.{PoolView}
use Rattle.slot_yard.specs.Yards.{YardView}
use Rattle.turn_cell.specs.declared.seat.Seat.{Seat}
use Rattle.turn_cell.specs.Seats.{IsIdleOf, SeatView, seat_view}
use Rattle.fabric.specs.Cells.{FabricView, IsFabric, place_in}
use Rattle.fabric.specs.HandTurns.{AtBoth, AtPool, AtYard}
use Rattle.fabric.specs.Views.{IsHandOf, number_of, seat_on, seen}
use Rattle.fabric.specs.declared.hand.Hand.{Hand}
use Rattle.fabric.specs.PoolTurns.{PoolTurn}
use Rattle.fabric.proofs.ListElements.{slice_get-set, slice_get-set_other}
use Rattle.fabric.proofs.PoolPlaces.{place_within, places_apart}
use Rattle.fabric.proofs.PoolTurnLemmas.{Remains, remains, same_drive_slots}
use Rattle.slot_pool.proofs.ClosedPool.{drive_slots}

module _ {S : Type 0} where
  -- the hand with this seat at the pool of a place
  abbrev pub with_pool : Hand S → ℕ → Seat (PoolView S) → Hand S
  with_pool hand place seat = record hand { pools = with_item hand.pools place seat }

  -- the hand with this seat at the yard
  abbrev pub with_yard : Hand S → Seat (YardView S) → Hand S
  with_yard hand seat = record hand { yard = seat }

  -- the hand's seat at the pool of the drive is at this place
  pub record IsSeatAt (f : FabricView) (d : Drive) (hand : Hand S) (place : ℕ) (seat : Seat (PoolView S)) : Type 0 where
    pub fabric : IsFabric f
    pub of : is_of f.shape d ≡ true
    pub hand_of : IsHandOf f hand
    pub place_is : place ≡ place_in f.shape d
    pub seat_is : seat ≡ slice_index_or hand.pools.items place seat

  module _ (f : FabricView) (d : Drive) (hand : Hand S) (place : ℕ) (seat : Seat (PoolView S)) (at_place : IsSeatAt f d hand place seat) (after : Seat (PoolView S)) where
    -- the pool of the drive has its place in the hand
    place_held : place < length hand.pools.items
    place_held =
        let within = place_within f.shape d at_place.of in
        let many = at_place.hand_of.many in
        let pools = at_place.fabric.many in
        let place_is = at_place.place_is in
        omega (arith, within, many, pools, place_is)

    -- the seat was there before
    seat_was : slice_get hand.pools.items place ≡ Some seat
    seat_was = slice_get_read hand.pools.items (length hand.pools.items) place seat refl place_held at_place.seat_is

    pub before_is : seat_on f.shape hand d ≡ Some (seat_view seat)
    before_is = ap (λ (k : ℕ). seen (slice_get hand.pools.items k)) (sym at_place.place_is) ∙ ap seen seat_was

    after_at : slice_get (slice_set hand.pools.items place after) place ≡ Some after
    after_at = slice_get-set hand.pools.items place after place_held

    -- it knows its drive
    pub knows : ((seat_view seat).last.drive ≡ d) × ((seat_view seat).last.slots ≡ f.shape.slots)
    knows = at_place.hand_of.drives d seat at_place.of (ap (slice_get hand.pools.items) (sym at_place.place_is) ∙ seat_was)

    after_is : seat_on f.shape (with_pool hand place after) d ≡ Some (seat_view after)
    after_is = ap (λ (k : ℕ). seen (slice_get (slice_set hand.pools.items place after) k)) (sym at_place.place_is) ∙ ap seen after_at

    others_are : (e : Drive) → is_of f.shape e ≡ true → same_drive e d ≡ false → seat_on f.shape (with_pool hand place after) e ≡ seat_on f.shape hand e
    others_are e of_e apart =
        ap seen (slice_get-set_other hand.pools.items place after (place_in f.shape e) (λ same. places_apart f.shape e d of_e at_place.of apart (same ∙ at_place.place_is)))

    -- the seat at the pool did this, and no other seat of the hand changed
    pub at_pool : (what : SeatView (PoolView S) → SeatView (PoolView S) → Type 0) → what (seat_view seat) (seat_view after)
        → AtPool f.shape d what hand (with_pool hand place after)
    at_pool what done = record {
      before = seat_view seat;
      after = seat_view after;
      before_is = before_is;
      after_is = after_is;
      done = done;
      others = others_are;
      yard = refl;
      board = refl;
    }

    -- and the yard's seat did its part
    pub at_both : (yard_after : Seat (YardView S)) (what : SeatView (PoolView S) → SeatView (PoolView S) → SeatView (YardView S) → SeatView (YardView S) → Type 0)
        → what (seat_view seat) (seat_view after) (seat_view hand.yard) (seat_view yard_after) → AtBoth f.shape d what hand (with_yard (with_pool hand place after) yard_after)
    at_both yard_after what done = record {
      before = seat_view seat;
      after = seat_view after;
      before_is = before_is;
      after_is = after_is;
      done = done;
      others = others_are;
      board = refl;
    }

    -- the hand is the fabric's, if the seat stays one of its cell that knows its drive
    hand_with : Remains (seat_view seat) (seat_view after) → drive_slots (seat_view after).last ≡ drive_slots (seat_view seat).last → IsHandOf f (with_pool hand place after)
    hand_with stays same_slots = record {
      within = at_place.hand_of.within;
      board = at_place.hand_of.board;
      board_shape = at_place.hand_of.board_shape;
      yard = at_place.hand_of.yard;
      yard_number = at_place.hand_of.yard_number;
      yard_shape = at_place.hand_of.yard_shape;
      many = length-set hand.pools.items place after ∙ at_place.hand_of.many;
      pools = λ k cell s cell_at at. elim (cases_eq place k) [
        | inl same ↦ (
            let there : Some after ≡ Some s = sym after_at ∙ (ap (slice_get (slice_set hand.pools.items place after)) same ∙ at) in
            let is_s : after ≡ s = same_Some after s there in
            let old = at_place.hand_of.pools k cell seat cell_at (ap (slice_get hand.pools.items) (sym same) ∙ seat_was) in
            subst (λ (s : Seat (PoolView S)). IsIdleOf cell (seat_view s) × ((seat_view s).number ≡ number_of hand)) is_s
            ((stays.cell ∙ old.0.0, stays.idle), stays.number ∙ old.1)
            )
        | inr other ↦ at_place.hand_of.pools k cell s cell_at (sym (slice_get-set_other hand.pools.items place after k (λ same. other (sym same))) ∙ at)
      ];
      drives = λ e s of_e at. elim (cases_eq place (place_in f.shape e)) [
        | inl same ↦ (
            let there : Some after ≡ Some s = sym after_at ∙ (ap (slice_get (slice_set hand.pools.items place after)) same ∙ at) in
            let is_s : after ≡ s = same_Some after s there in
            let old = at_place.hand_of.drives e seat of_e (ap (slice_get hand.pools.items) (sym same) ∙ seat_was) in
            subst (λ (s : Seat (PoolView S)). ((seat_view s).last.drive ≡ e) × ((seat_view s).last.slots ≡ f.shape.slots)) is_s
            (ap (λ p. p.drive) same_slots ∙ old.0, ap (λ p. p.slots) same_slots ∙ old.1)
            )
        | inr other ↦ at_place.hand_of.drives e s of_e (sym (slice_get-set_other hand.pools.items place after (place_in f.shape e) (λ same. other (sym same))) ∙ at)
      ];
      buffers = at_place.hand_of.buffers;
    }

    -- after a turn that keeps the pool's drive
    pub hand_at_pool : (how : PoolView S → PoolView S) (p : PoolView S) → ((q : PoolView S) → drive_slots (how q) ≡ drive_slots q)
        → PoolTurn how p (seat_view seat) (seat_view after) → IsHandOf f (with_pool hand place after)
    hand_at_pool how p same turn = hand_with (remains how p (seat_view seat) (seat_view after) turn) (same_drive_slots how p (seat_view seat) (seat_view after) turn same)

  module _ (f : FabricView) (hand : Hand S) (after : Seat (YardView S)) where
    -- the seat at the yard did this, and no other seat of the hand changed
    pub at_yard : (what : SeatView (YardView S) → SeatView (YardView S) → Type 0) → what (seat_view hand.yard) (seat_view after)
        → AtYard f.shape what hand (with_yard hand after)
    at_yard what done = record { done = done; pools = λ e of. refl; board = refl }

    -- the hand is the fabric's, if the seat stays one of the yard's cell that knows the shape
    pub hand_at_yard : IsHandOf f hand → Remains (seat_view hand.yard) (seat_view after) → (seat_view after).last.shape ≡ (seat_view hand.yard).last.shape
        → IsHandOf f (with_yard hand after)
    hand_at_yard is_hand stays shape = record {
      within = is_hand.within;
      board = is_hand.board;
      board_shape = is_hand.board_shape;
      yard = (stays.cell ∙ is_hand.yard.0, stays.idle);
      yard_number = stays.number ∙ is_hand.yard_number;
      yard_shape = shape ∙ is_hand.yard_shape;
      many = is_hand.many;
      pools = is_hand.pools;
      drives = is_hand.drives;
      buffers = is_hand.buffers;
    }
