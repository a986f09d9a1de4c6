-- What a hand did stays told while its seats at these drives make no turn.
use Rattle.std.proofs.Common.{◌≡◌, ℕ, true, List, [], ◌∷◌, ◌++◌, refl, sym, ap, subst, ◌∙◌}
use Rattle.std.specs.Prelude.{None, Option, Some}
use Rattle.std.specs.List.{All}
use Rattle.domains.specs.Shape.{Shape, is_of}
use Rattle.domains.specs.Drive.{Drive, is_in}
use Rattle.domains.specs.Place.{IsPlaceOf, Place}
use Rattle.flex_io.specs.declared.raw_place.RawPlace.{RawPlace}
use Rattle.held_slots.specs.Slots.{drive_of, place_from, places_from}
use Rattle.fabric.specs.PoolTurns.{Gives, Takes}
use Rattle.fabric.specs.YardTurns.{Retires}
use Rattle.slot_yard.specs.Yards.{YardView}
use Rattle.turn_cell.specs.Seats.{SeatView, seat_view}
use Rattle.fabric.specs.Views.{seat_on}
use Rattle.fabric.specs.declared.hand.Hand.{Hand}
use Rattle.slot_search.specs.HandSeats.{AtSeat, FoundEmpty, WentBack, drives_at, drives_of_all}
use Rattle.placement.specs.PlacedGroups.{AreWritten, FailedAndRetired, HasFailed, IsWritten, RetiresEach, drives_in}
use Rattle.slot_search.specs.declared.empty_at.EmptyAt.{EmptyAt}
use Rattle.domains.proofs.DriveLemmas.{is_in-at}
use Rattle.slot_search.proofs.TriedDrives.{seat-stays}

abbrev seen_or : {A : Type 0} → Option A → A → A
seen_or None other = other
seen_or (Some a) other = a

same_seen : {A : Type 0} (a b : A) → Some a ≡ Some b → a ≡ b
same_seen a b same = ap (λ o. seen_or o a) same

-- the drive of a slot is told by its place
pub drive_of-place : {S : Type 0} (place_of : S → RawPlace) (a b : S) → place_of a ≡ place_of b → drive_of place_of a ≡ drive_of place_of b
drive_of-place place_of a b same = ap (λ p. (place_from p).drive) same

module _ {S : Type 0} (place_of : S → RawPlace) where
  -- the drives of the places of slots are the drives of the slots
  pub drives_in-places : (slots : List S) → drives_in (places_from place_of slots) ≡ drives_of_all place_of slots
  drives_in-places [] = refl
  drives_in-places (x ∷ xs) = ap (λ ds. drive_of place_of x ∷ ds) (drives_in-places xs)

  -- a slot more is retired
  pub RetiresEach-push : (slots : List S) (slot : S) (old mid new : SeatView (YardView S)) → RetiresEach place_of slots old mid → Retires place_of slot mid new
      → RetiresEach place_of (slots ++ slot ∷ []) old new
  RetiresEach-push [] slot old mid new none one = (new, subst (λ v. Retires place_of slot v new) none one, refl)
  RetiresEach-push (x ∷ xs) slot old mid new more one = (more.0, more.1, RetiresEach-push xs slot more.0 mid new more.2 one)

  -- a seat that took a slot gives it back
  pub takes-gives : (shape : Shape) (start mid new : Hand S) (drawn held : S) → place_of held ≡ place_of drawn
      → AtSeat shape (drive_of place_of drawn) (Takes place_of drawn) start mid → AtSeat shape (drive_of place_of held) (Gives place_of held) mid new
      → WentBack place_of shape start new held
  takes-gives shape start mid new drawn held same took gave =
      let drive : drive_of place_of drawn ≡ drive_of place_of held = sym (drive_of-place place_of held drawn same) in
      let took_there = subst (λ d. AtSeat shape d (Takes place_of drawn) start mid) drive took in
      let seat : took_there.after ≡ gave.before = same_seen took_there.after gave.before (sym took_there.after_is ∙ gave.before_is) in
      record {
        drawn = drawn;
        place = same;
        turns = record {
          before = took_there.before;
          after = gave.after;
          before_is = took_there.before_is;
          after_is = gave.after_is;
          done = record { between = gave.before; takes = subst (Takes place_of drawn took_there.before) seat took_there.done; gives = gave.done };
        };
      }

module _ {S : Type 0} (place_of : S → RawPlace) (shape : Shape) (start old new : Hand S) where
  -- the seats at these drives made no turn
  abbrev pub Rests : List Drive → Type 0
  Rests drives = (d : Drive) → is_of shape d ≡ true → is_in drives d ≡ true → seat_on shape new d ≡ seat_on shape old d

  pub waiting-stays : (slots : List S) → All (λ held. IsPlaceOf shape (place_from (place_of held))) slots → Rests (drives_of_all place_of slots)
      → All (λ held. AtSeat shape (drive_of place_of held) (Takes place_of held) start old) slots
      → All (λ held. AtSeat shape (drive_of place_of held) (Takes place_of held) start new) slots
  waiting-stays slots places rests all k default within =
      seat-stays place_of shape _ _ start old new (rests _ (places k default within).drive (is_in-at (drive_of place_of) slots k default within)) (all k default within)

  pub empty-rests : (found : List EmptyAt) → ((d : Drive) → is_in (drives_at found) d ≡ true → is_of shape d ≡ true) → Rests (drives_at found)
      → FoundEmpty place_of shape found start old → FoundEmpty place_of shape found start new
  empty-rests found of rests all k default within =
      let there = is_in-at (λ (e : EmptyAt). e.drive) found k default within in
      seat-stays place_of shape _ _ start old new (rests _ (of _ there) there) (all k default within)

  module _ (faults : S → ℕ) where
    failed-stays : (slot : S) → (is_of shape (drive_of place_of slot) ≡ true → seat_on shape new (drive_of place_of slot) ≡ seat_on shape old (drive_of place_of slot))
        → HasFailed place_of faults shape start old slot → HasFailed place_of faults shape start new slot
    failed-stays slot rests has = record {
      drawn = has.drawn;
      place = has.place;
      of_shape = has.of_shape;
      taken = seat-stays place_of shape _ _ start old new
          (subst (λ d. seat_on shape new d ≡ seat_on shape old d) (drive_of-place place_of slot has.drawn has.place) (rests has.of_shape.drive)) has.taken;
      rose = has.rose;
    }

    pub all-failed-stay : (slots : List S) → Rests (drives_of_all place_of slots) → All (HasFailed place_of faults shape start old) slots
        → All (HasFailed place_of faults shape start new) slots
    all-failed-stay slots rests all k default within =
        failed-stays _ (λ of. rests _ of (is_in-at (drive_of place_of) slots k default within)) (all k default within)

    pub failures-stay : (failed : List Place) → Rests (drives_in failed) → seat_view new.yard ≡ seat_view old.yard → FailedAndRetired place_of faults shape failed start old
        → FailedAndRetired place_of faults shape failed start new
    failures-stay failed rests yard has = record {
      slots = has.slots;
      places_are = has.places_are;
      each = all-failed-stay has.slots
          (subst Rests (ap drives_in (sym has.places_are) ∙ drives_in-places place_of has.slots) rests) has.each;
      retired = subst (RetiresEach place_of has.slots (seat_view start.yard)) (sym yard) has.retired;
    }

  module _ (content : S → Option (List ℕ)) (len_of : S → ℕ) where
    written-stays : (unit : List ℕ) (slot : S) → (is_of shape (drive_of place_of slot) ≡ true → seat_on shape new (drive_of place_of slot) ≡ seat_on shape old (drive_of place_of slot))
        → IsWritten place_of content len_of shape unit start old slot → IsWritten place_of content len_of shape unit start new slot
    written-stays unit slot rests is = record {
      drawn = is.drawn;
      place = is.place;
      of_shape = is.of_shape;
      taken = seat-stays place_of shape _ _ start old new
          (subst (λ d. seat_on shape new d ≡ seat_on shape old d) (drive_of-place place_of slot is.drawn is.place) (rests is.of_shape.drive)) is.taken;
      holds = is.holds;
      told = is.told;
      len = is.len;
    }

    pub all-written-stay : (units : List (List ℕ)) (slots : List S) → Rests (drives_of_all place_of slots)
        → AreWritten place_of content len_of shape units start old slots → AreWritten place_of content len_of shape units start new slots
    all-written-stay units slots rests all k default within =
        written-stays _ _ (λ of. rests _ of (is_in-at (drive_of place_of) slots k default within)) (all k default within)
