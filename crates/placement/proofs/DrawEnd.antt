-- What a draw tells once its search has ended.
use Rattle.std.proofs.Common.{◌≡◌, ◌+◌, ◌<◌, ◌≤◌, Bool, true, false, List, [], get_or, length, take, refl, sym, ap, subst, ◌∙◌, arith}
use Rattle.std.specs.List.{All}
use Rattle.std.proofs.lemmas.Bool.{both_ways, false_from_ne_true}
use Rattle.std.proofs.lemmas.List.{length-map}
use Rattle.domains.specs.Shape.{is_of}
use Rattle.domains.specs.Drive.{Drive, is_in}
use Rattle.domains.specs.DriveSet.{has}
use Rattle.flex_io.specs.declared.raw_place.RawPlace.{RawPlace}
use Rattle.held_slots.specs.Slots.{count_on, drive_of}
use Rattle.fabric.specs.Accounts.{Holds}
use Rattle.fabric.specs.Cells.{FabricView}
use Rattle.fabric.specs.PoolTurns.{Gives}
use Rattle.fabric.specs.Views.{seat_on}
use Rattle.fabric.specs.declared.hand.Hand.{Hand}
use Rattle.slot_search.specs.HandSeats.{AtSeat, Drew, FoundEmpty, WentBack, drives_at, drives_of_all}
use Rattle.placement_order.specs.OrderLaws.{MayBeTried}
use Rattle.placement_order.specs.Order.{order_of, visits_of}
use Rattle.placement_order.specs.PassedDrives.{passed_of}
use Rattle.slot_search.specs.Searches.{GivesAllBack, IsBefore, IsNew, KeepsSearch, request_of}
use Rattle.slot_search.specs.declared.empty_at.EmptyAt.{EmptyAt}
use Rattle.slot_search.specs.declared.search.Search.{Search}
use Rattle.slot_search.specs.declared.request.Request.{Request}
use Rattle.domains.proofs.DriveLemmas.{is_in-at}
use Rattle.placement_order.proofs.RoomFilled.{order-fills}
use Rattle.slot_search.proofs.TriedDrives.{seat-stays}
use Rattle.turn_cell.specs.Seats.{seat_view}
use Rattle.slot_search.proofs.SearchEnd.{drew as drew_in_search, not_found as not_found_in_search, passed as passed_in_search, prefix as prefix_in_search, take-short}
use Rattle.placement.proofs.OtherSeats.{takes-gives}
use Rattle.placement.specs.Draws.{Draws, FindsNoRoom}
use Rattle.placement.specs.declared.refusal.NoRoom.{NoRoom}

module _ {S : Type 0} (place_of : S → RawPlace) (f : FabricView) (t : Request) (first last : Search S) (start mid : Hand S) (barred : (d : Drive) → has t.barred d ≡ false)
    (is_new : IsNew place_of t first) (keeps : KeepsSearch place_of f t first last start mid)
    (order : (before : List Drive) → IsBefore place_of t before (visits_of (request_of t)) first → IsBefore place_of t before [] last) where
  abbrev drawn : List Drive
  drawn = drives_of_all place_of last.slots.items

  abbrev spent : Drive → Bool
  spent = is_in (drives_at last.empty.items)

  drew : Drew place_of t.shape last.slots.items last.empty.items start mid
  drew = drew_in_search place_of f t first last start mid barred is_new keeps order

  prefix : take t.count (order_of (request_of t) spent) ≡ drawn
  prefix = prefix_in_search place_of f t first last start mid barred is_new keeps order

  passed : drives_at last.empty.items ≡ passed_of (request_of t) spent t.count
  passed = passed_in_search place_of f t first last start mid barred is_new keeps order

  not_found : (d : Drive) → is_in drawn d ≡ true → spent d ≡ false
  not_found = not_found_in_search place_of f t first last start mid barred is_new keeps order

  pub draws : t.count ≤ length last.slots.items → Draws place_of (request_of t) t.count last.slots.items start mid
  draws enough = record {
    found = last.empty.items;
    many = let few = keeps.search.few in omega (arith, few, enough);
    order = sym prefix;
    passed = passed;
    tried = keeps.search.tried;
    drew = drew;
  }

  module _ (short : length last.slots.items < t.count) (shape : f.shape ≡ t.shape) (next : Hand S)
      (others : (e : Drive) → is_of f.shape e ≡ true → is_in drawn e ≡ false → seat_on f.shape next e ≡ seat_on f.shape mid e)
      (yard : seat_view next.yard ≡ seat_view mid.yard) (back : GivesAllBack place_of f.shape last.slots.items mid next)
      (e : NoRoom) (need : e.need ≡ t.count) (got : e.got ≡ length last.slots.items) (empty : e.empty ≡ last.empty.items) (failed : e.failed ≡ []) where
    whole : order_of (request_of t) (is_in (drives_at e.empty)) ≡ drawn
    whole =
        let long = length-map last.slots.items (drive_of place_of) in
        ap (λ xs. order_of (request_of t) (is_in (drives_at xs))) empty
        ∙ take-short t.count (order_of (request_of t) spent) drawn prefix (omega (arith, long, short))

    untouched : (d : Drive) → is_of t.shape d ≡ true → is_in drawn d ≡ false → seat_on t.shape next d ≡ seat_on t.shape mid d
    untouched d of out =
        subst (λ s. seat_on s next d ≡ seat_on s mid d) shape (others d (subst (λ s. is_of s d ≡ true) (sym shape) of) out)

    still_empty : FoundEmpty place_of t.shape last.empty.items start next
    still_empty k default within =
        let d = is_in-at (λ (x : EmptyAt). x.drive) last.empty.items k default within in
        seat-stays place_of t.shape _ _ start mid next
        (untouched _ (keeps.search.tried.of_shape _ d) (false_from_ne_true _ (λ there. both_ways _ (not_found _ there) d)))
        (drew.empty k default within)

    went_back : All (WentBack place_of t.shape start next) last.slots.items
    went_back k default within =
        takes-gives place_of t.shape start mid next _ _ refl (drew.taken k default within)
        (subst (λ s. AtSeat s (drive_of place_of (get_or last.slots.items k default)) (Gives place_of (get_or last.slots.items k default)) mid next) shape (back.each k default within))

    pub no_room : FindsNoRoom place_of (request_of t) t.count e start next
    no_room = record {
      slots = last.slots.items;
      need = need;
      got =
          let long = length-map last.slots.items (drive_of place_of) in
          got ∙ sym long ∙ ap length (sym whole) ∙ order-fills (request_of t) (is_in (drives_at e.empty));
      short = subst (λ n. n < t.count) (sym got) short;
      order = sym whole;
      passed = subst (λ xs. drives_at xs ≡ passed_of (request_of t) (is_in (drives_at xs)) t.count) (sym empty) passed;
      went_back = went_back;
      tried = subst (λ xs. MayBeTried (request_of t) (drives_at xs)) (sym empty) keeps.search.tried;
      found = subst (λ xs. FoundEmpty place_of t.shape xs start next) (sym empty) still_empty;
      others = λ d of out unfound. untouched d of out ∙ drew.others d of out (ap (λ xs. is_in (drives_at xs) d) (sym empty) ∙ unfound);
      yard = yard ∙ drew.yard;
      none_failed = failed;
      same = λ d many of holds.
          subst (λ s. Holds s d many next) shape
          (back.account d many (subst (λ s. is_of s d ≡ true) (sym shape) of)
          (subst (λ s. Holds s d (many + count_on place_of d last.slots.items) mid) (sym shape) (drew.account d many of holds)));
    }
