-- How often the seats of a hand asked for a slot, or returned one.
use Rattle.std.proofs.Common.{◌≡◌, inl, inr, true, refl, sym, subst, ◌∙◌}
use Rattle.std.proofs.lemmas.Bool.{cases_Bool}
use Rattle.domains.specs.Shape.{Shape, is_of}
use Rattle.domains.specs.Drive.{Drive, same_drive}
use Rattle.domains.proofs.DriveLemmas.{same_drive-eq}
use Rattle.flex_io.specs.declared.raw_place.RawPlace.{RawPlace}
use Rattle.slot_pool.specs.Pools.{PoolView}
use Rattle.turn_cell.specs.Seats.{SeatView}
use Rattle.fabric.specs.Cells.{FabricView}
use Rattle.fabric.specs.HandTurns.{AtPool}
use Rattle.fabric.specs.Views.{seat_on}
use Rattle.fabric.specs.declared.hand.Hand.{Hand}
use Rattle.slot_search.specs.HandSeats.{Asks, AtSeat, ReturnsOnce, TriesOnce}
use Rattle.slot_search.specs.Searches.{AsksClosed, KeepsHand, is_closed}
use Rattle.slot_search.specs.declared.search.Search.{Search}
use Rattle.slot_search.proofs.TriedDrives.{seat-stays}

-- a hand is kept by one step after another
pub keeps-twice : {S : Type 0} (f : FabricView) (start mid new : Hand S) → KeepsHand f start mid → KeepsHand f mid new → KeepsHand f start new
keeps-twice f start mid new first second = record { hand = second.hand; number = second.number ∙ first.number; board = second.board ∙ first.board }

module _ {S : Type 0} (place_of : S → RawPlace) (shape : Shape) where
  -- one seat asked, at a drive that is closed now
  pub asks-one : (search : Search S) (d : Drive) (what : SeatView (PoolView S) → SeatView (PoolView S) → Type 0) (old new : Hand S) → is_closed search d ≡ true
      → AtPool shape d what old new → ((before after : SeatView (PoolView S)) → what before after → Asks place_of before after) → AsksClosed place_of shape search old new
  asks-one search d what old new closed at asks e of = elim (cases_Bool (same_drive e d)) [
    | inl this ↦
        let here : AtSeat shape d (Asks place_of) old new
        = record { before = at.before; after = at.after; before_is = at.before_is; after_is = at.after_is; done = asks at.before at.after at.done } in
        let there : (is_closed search d ≡ true) × AtSeat shape d (Asks place_of) old new = (closed, here) in
        inr (subst (λ x. (is_closed search x ≡ true) × AtSeat shape x (Asks place_of) old new) (sym (same_drive-eq e d this)) there)
    | inr other ↦ inl (at.others e of other)
  ]

  -- a step after others makes no turn at drives that were closed
  pub asks-then : (was now : Search S) (start mid new : Hand S) → AsksClosed place_of shape was start mid
      → ((e : Drive) → is_of shape e ≡ true → is_closed was e ≡ true → (is_closed now e ≡ true) × (seat_on shape new e ≡ seat_on shape mid e))
      → AsksClosed place_of shape now mid new → AsksClosed place_of shape now start new
  asks-then was now start mid new first rests second e of = elim (first e of) [
    | inl same ↦ elim (second e of) [
      | inl still ↦ inl (still ∙ same)
      | inr asked ↦
          let at = asked.1 in
          inr (asked.0, record { before = at.before; after = at.after; before_is = sym same ∙ at.before_is; after_is = at.after_is; done = at.done })
    ]
    | inr asked ↦
        let rest = rests e of asked.0 in
        inr (rest.0, seat-stays place_of shape e (Asks place_of) start mid new rest.1 asked.1)
  ]

  -- no seat at a pool makes a turn
  pub asks-still : (was now : Search S) (start mid new : Hand S) → AsksClosed place_of shape was start mid
      → ((e : Drive) → is_of shape e ≡ true → is_closed was e ≡ true → is_closed now e ≡ true)
      → ((e : Drive) → is_of shape e ≡ true → seat_on shape new e ≡ seat_on shape mid e) → AsksClosed place_of shape now start new
  asks-still was now start mid new first closed rests =
      asks-then was now start mid new first (λ e of before. (closed e of before, rests e of)) (λ e of. inl (rests e of))

  -- the seats ask, and then return
  pub tries-once : (search : Search S) (start mid new : Hand S) → AsksClosed place_of shape search start mid → ReturnsOnce place_of shape mid new
      → TriesOnce place_of shape start new
  tries-once search start mid new asks returns = record {
    between = mid;
    asked = λ d of. elim (asks d of) [
      | inl same ↦ inl same
      | inr asked ↦ inr asked.1
    ];
    returned = returns;
  }

  pub tries-none : (hand : Hand S) → TriesOnce place_of shape hand hand
  tries-none hand = record { between = hand; asked = λ d of. inl refl; returned = λ d of. inl refl }
