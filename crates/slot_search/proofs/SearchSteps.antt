-- How the steps of a search are joined, and what a visit leaves to be drawn.
use Rattle.std.proofs.Common.{◌≡◌, ℕ, ◌<◌, ◌≤◌, inl, Bool, true, false, cond, List, [], ◌∷◌, ◌++◌, length, take, Option, None, nat_le, append-nil, append_assoc, refl, sym, ap, subst, ◌∙◌, arith}
use Rattle.std.proofs.lemmas.Bool.{le-leb, lt-leb}
use Rattle.std.proofs.lemmas.List.{length-map}
use Rattle.domains.specs.Drive.{Drive}
use Rattle.domains.specs.DriveSet.{has}
use Rattle.domains.specs.Room.{drives_on}
use Rattle.flex_io.specs.declared.raw_place.RawPlace.{RawPlace}
use Rattle.held_slots.specs.Slots.{drive_of}
use Rattle.fabric.specs.Cells.{FabricView}
use Rattle.fabric.specs.Views.{IsHandOf}
use Rattle.fabric.specs.declared.hand.Hand.{Hand}
use Rattle.slot_search.specs.HandSeats.{drives_at, drives_of_all}
use Rattle.placement_order.specs.Order.{DrawRequest, drawn_in, drives_of, first_open, units_on, with_drive}
use Rattle.placement_order.specs.PassedDrives.{passed_in, passed_on}
use Rattle.slot_search.specs.Searches.{DrawsFirst, IsBefore, IsSearch, KeepsSearch, without_barred}
use Rattle.slot_search.specs.declared.search.Search.{Search}
use Rattle.slot_search.specs.declared.request.Request.{Request}
use Rattle.slot_search.proofs.SeatTurns.{asks-then}
use Rattle.placement_order.proofs.PassedVisits.{passed_in-enough, passed_in-next}
use Rattle.placement_order.proofs.VisitsLeft.{take-drawn}

module _ {S : Type 0} (place_of : S → RawPlace) (f : FabricView) (t : Request) where
  pub Keeps-none : (search : Search S) (hand : Hand S) → IsSearch place_of t search → IsHandOf f hand → KeepsSearch place_of f t search search hand hand
  Keeps-none search hand is of = record {
    hand = of;
    number = refl;
    board = refl;
    search = is;
    yard = refl;
    came = λ marked closed start came. came;
    account = λ e many of holds. holds;
    asked = λ e of. inl refl;
    counted = omega arith;
    found = ([], sym (append-nil search.empty.items));
    same = λ e of closed. (closed, refl);
  }

  pub Keeps-trans : (a b c : Search S) (x y z : Hand S) → KeepsSearch place_of f t a b x y → KeepsSearch place_of f t b c y z → KeepsSearch place_of f t a c x z
  Keeps-trans a b c x y z first second = record {
    hand = second.hand;
    number = second.number ∙ first.number;
    board = second.board ∙ first.board;
    search = second.search;
    yard = second.yard ∙ first.yard;
    came = λ marked closed start came.
        second.came marked (λ e of there. (first.same e of (closed e of there)).0) start (first.came marked closed start came);
    account = λ e many of holds. second.account e many of (first.account e many of holds);
    asked = asks-then place_of t.shape b c x y z first.asked second.same second.asked;
    counted = let one = first.counted in let two = second.counted in omega (arith, one, two);
    found = (first.found.0 ++ second.found.0, second.found.1 ∙ ap (λ xs. xs ++ second.found.0) first.found.1 ∙ append_assoc a.empty.items first.found.0 second.found.0);
    same = λ e of closed.
        let one = first.same e of closed in
        let two = second.same e of one.0 in
        (two.0, two.1 ∙ one.1);
  }

  module _ (round node : ℕ) (before : List Drive) (rest : List (ℕ × ℕ)) (old : Search S) (search : IsSearch place_of t old) where
    -- a visit once as many are drawn as wanted
    pub IsBefore-enough : t.count ≤ length old.slots.items → IsBefore place_of t before ((round, node) ∷ rest) old → IsBefore place_of t before rest old
    IsBefore-enough enough far spent may =
        let few = search.few in
        let drawn : List Drive = drives_of_all place_of old.slots.items in
        let many : length drawn ≡ t.count = length-map old.slots.items (drive_of place_of) ∙ omega (arith, few, enough) in
        let passed : List Drive = drives_at old.empty.items in
        let came = far spent may in (
          came.0 ∙ take-drawn t.count ((round, node) ∷ rest) (without_barred t) spent drawn many ∙ sym (take-drawn t.count rest (without_barred t) spent drawn many),
          came.1 ∙ passed_in-enough ((round, node) ∷ rest) (without_barred t) spent t.count drawn passed (omega (arith, many))
              ∙ sym (passed_in-enough rest (without_barred t) spent t.count drawn passed (omega (arith, many))),
        )

    abbrev given_if : Bool → Option Drive → Option Drive
    given_if full first = cond full None first

    abbrev passed_if : List Drive → Bool → List Drive → List Drive
    passed_if passed full tried = cond full passed tried

    module _ (wanted : length old.slots.items < t.count) where
      few_drawn : length (drives_of_all place_of old.slots.items) < t.count
      few_drawn = let long = length-map old.slots.items (drive_of place_of) in omega (arith, long, wanted)

      -- a visit of a node with as many units as the number of the round
      pub IsBefore-full : 1 ≤ node → node ≤ t.shape.nodes → round ≤ drives_on t.shape.drives node (has old.taken)
          → IsBefore place_of t before ((round, node) ∷ rest) old → IsBefore place_of t before rest old
      IsBefore-full some within full far spent may =
          let s : DrawRequest = without_barred t in
          let drawn : List Drive = drives_of_all place_of old.slots.items in
          let passed : List Drive = drives_at old.empty.items in
          let test : nat_le round (units_on s drawn node) ≡ true = le-leb round _ (subst (λ n. round ≤ n) (search.units node some within) full) in
          let came = far spent may in (
            came.0 ∙ ap (λ b. take t.count (drawn_in rest s spent (with_drive drawn (given_if b (first_open s spent drawn (drives_of s node)))))) test,
            came.1 ∙ passed_in-next (round, node) rest s spent t.count drawn passed few_drawn
                ∙ ap (λ b. passed_in rest s spent t.count (with_drive drawn (given_if b (first_open s spent drawn (drives_of s node)))) (passed_if passed b (passed_on s spent drawn (drives_of s node) passed))) test,
          )

      -- a visit of a node with fewer
      pub IsBefore-first : (new : Search S) → 1 ≤ node → node ≤ t.shape.nodes → drives_on t.shape.drives node (has old.taken) < round
          → DrawsFirst place_of t node old new → IsBefore place_of t before ((round, node) ∷ rest) old → IsBefore place_of t before rest new
      IsBefore-first new some within low first far spent may =
          let s : DrawRequest = without_barred t in
          let drawn : List Drive = drives_of_all place_of old.slots.items in
          let passed : List Drive = drives_at old.empty.items in
          let test : nat_le round (units_on s drawn node) ≡ false = lt-leb round _ (subst (λ n. n < round) (search.units node some within) low) in
          let draws = first spent may in
          let came = far spent draws.0 in (
            came.0
                ∙ ap (λ b. take t.count (drawn_in rest s spent (with_drive drawn (given_if b (first_open s spent drawn (drives_of s node)))))) test
                ∙ ap (λ xs. take t.count (drawn_in rest s spent xs)) (sym draws.1),
            came.1 ∙ passed_in-next (round, node) rest s spent t.count drawn passed few_drawn
                ∙ ap (λ b. passed_in rest s spent t.count (with_drive drawn (given_if b (first_open s spent drawn (drives_of s node)))) (passed_if passed b (passed_on s spent drawn (drives_of s node) passed))) test
                ∙ ap (λ xs. passed_in rest s spent t.count xs (passed_on s spent drawn (drives_of s node) passed)) (sym draws.1)
                ∙ ap (passed_in rest s spent t.count (drives_of_all place_of new.slots.items)) (sym draws.2),
          )
