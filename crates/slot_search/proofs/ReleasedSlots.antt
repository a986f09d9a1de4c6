-- Slots are given back one by one, from the last.
use Rattle.std.proofs.Common.{◌≡◌, ℕ, ◌+◌, inl, inr, Bool, true, false, List, [], ◌∷◌, ◌++◌, Some, append-nil, append_assoc, refl, sym, ap, subst, ◌∙◌, arith}
use Rattle.std.specs.List.{All}
use Rattle.std.proofs.lemmas.Bool.{both_ways, cases_Bool, or_parts, or_right}
use Rattle.std.proofs.lemmas.List.{map-append}
use Rattle.std.proofs.lemmas.List.Elements.{All-cons, All-nil, All-pop}
use Rattle.domains.specs.Counts.{one_if}
use Rattle.domains.specs.Drive.{AreApart, Drive, is_in, same_drive}
use Rattle.domains.specs.Shape.{is_of}
use Rattle.domains.proofs.DriveLemmas.{is_in-append, is_in-at, is_in-first, is_in-none, same_drive-eq, same_drive-sym}
use Rattle.flex_io.specs.declared.raw_place.RawPlace.{RawPlace}
use Rattle.held_slots.specs.Slots.{count_on, drive_of, place_from}
use Rattle.held_slots.proofs.SlotCounts.{count_on-cons}
use Rattle.domains.specs.Place.{IsPlaceOf}
use Rattle.turn_cell.specs.Seats.{seat_view}
use Rattle.fabric.specs.Accounts.{Holds}
use Rattle.fabric.specs.Cells.{FabricView}
use Rattle.fabric.specs.PoolTurns.{Gives}
use Rattle.fabric.specs.Views.{IsHandOf, seat_on}
use Rattle.fabric.specs.declared.hand.Hand.{Hand}
use Rattle.placement_order.proofs.ApartDrives.{apart-without}
use Rattle.slot_search.specs.HandSeats.{AreOfCluster, AtSeat, Returns, ReturnsOnce, drives_of_all}
use Rattle.slot_search.specs.Searches.{GivesAllBack, GivesBack, KeepsHand, ReleasesOne}
use Rattle.slot_search.proofs.SeatTurns.{keeps-twice}
use Rattle.slot_search.proofs.TriedDrives.{count_on-one, is_other, seat-stays}

module _ {S : Type 0} (place_of : S → RawPlace) (f : FabricView) (all : List S) (start : Hand S) where
  -- of all slots these are left, and the others went back, but for those that are lost, of which there is none if `went` is true
  pub record HasReleased (left : List S) (went : Bool) (now : Hand S) : Type 0 where
    pub gone : List S
    pub lost : List S
    pub split : all ≡ left ++ gone
    pub keeps : KeepsHand f start now
    pub yard : seat_view now.yard ≡ seat_view start.yard
    pub places : AreOfCluster place_of f.shape left
    pub others : (e : Drive) → is_of f.shape e ≡ true → is_in (drives_of_all place_of gone) e ≡ false → seat_on f.shape now e ≡ seat_on f.shape start e
    pub once : ReturnsOnce place_of f.shape start now
    pub gone_places : AreOfCluster place_of f.shape gone
    pub gave : went ≡ true → All (λ held. AtSeat f.shape (drive_of place_of held) (Gives place_of held) start now) gone
    pub lost_places : AreOfCluster place_of f.shape lost
    pub none_lost : went ≡ true → lost ≡ []
    pub account : (e : Drive) (many : ℕ) → is_of f.shape e ≡ true → Holds f.shape e (many + count_on place_of e all) start
        → Holds f.shape e (many + (count_on place_of e left + count_on place_of e lost)) now

  pub HasReleased-none : IsHandOf f start → AreOfCluster place_of f.shape all → HasReleased all true start
  HasReleased-none hand places = record {
    gone = [];
    lost = [];
    split = sym (append-nil all);
    keeps = record { hand = hand; number = refl; board = refl };
    yard = refl;
    places = places;
    others = λ e of out. refl;
    once = λ e of. inl refl;
    gone_places = All-nil (λ x. IsPlaceOf f.shape (place_from (place_of x)));
    gave = λ yes. All-nil (λ held. AtSeat f.shape (drive_of place_of held) (Gives place_of held) start start);
    lost_places = All-nil (λ x. IsPlaceOf f.shape (place_from (place_of x)));
    none_lost = λ yes. refl;
    account = λ e many of holds.
        let sum : many + count_on place_of e all ≡ many + (count_on place_of e all + count_on place_of e []) = omega arith in
        subst (λ n. Holds f.shape e n start) sum holds;
  }

  module _ (apart : AreApart (drives_of_all place_of all)) (left rest : List S) (held : S) (was : Bool) (now next : Hand S) (is : left ≡ rest ++ held ∷ [])
      (before : HasReleased left was now) where
    split_now : all ≡ rest ++ held ∷ before.gone
    split_now = before.split ∙ ap (λ xs. xs ++ before.gone) is ∙ append_assoc rest (held ∷ []) before.gone

    -- the slot's drive is none of the others
    alone : is_in (drives_of_all place_of before.gone) (drive_of place_of held) ≡ false
    alone =
        let drives = ap (drives_of_all place_of) split_now ∙ map-append (drive_of place_of) rest (held ∷ before.gone) in
        let out = (apart-without (drives_of_all place_of rest) (drives_of_all place_of before.gone) (drive_of place_of held) (subst AreApart drives apart)).0 in
        (or_parts (is_in (drives_of_all place_of rest) (drive_of place_of held)) _ (sym (is_in-append (drives_of_all place_of rest) (drives_of_all place_of before.gone) _) ∙ out)).1

    pub place : IsPlaceOf f.shape (place_from (place_of held))
    place = (All-pop (λ x. IsPlaceOf f.shape (place_from (place_of x))) left rest (Some held) is before.places).1

    gone_rests : ((e : Drive) → is_of f.shape e ≡ true → same_drive e (drive_of place_of held) ≡ false → seat_on f.shape next e ≡ seat_on f.shape now e)
        → All (λ x. AtSeat f.shape (drive_of place_of x) (Gives place_of x) start now) before.gone
        → All (λ x. AtSeat f.shape (drive_of place_of x) (Gives place_of x) start next) before.gone
    gone_rests others each k default within =
        let there = is_in-at (drive_of place_of) before.gone k default within in
        seat-stays place_of f.shape _ _ start now next
        (others _ (before.gone_places k default within).drive (is_other (drives_of_all place_of before.gone) _ (drive_of place_of held) there alone)) (each k default within)

    -- its drive is one of all
    pub of_all : is_in (drives_of_all place_of all) (drive_of place_of held) ≡ true
    of_all =
        ap (λ xs. is_in xs (drive_of place_of held)) (ap (drives_of_all place_of) split_now ∙ map-append (drive_of place_of) rest (held ∷ before.gone))
        ∙ is_in-append (drives_of_all place_of rest) (drive_of place_of held ∷ drives_of_all place_of before.gone) (drive_of place_of held)
        ∙ or_right (is_in (drives_of_all place_of rest) (drive_of place_of held)) _ (is_in-first (drive_of place_of held) (drives_of_all place_of before.gone))

    returned : AtSeat f.shape (drive_of place_of held) (Returns place_of) now next
        → ((e : Drive) → is_of f.shape e ≡ true → same_drive e (drive_of place_of held) ≡ false → seat_on f.shape next e ≡ seat_on f.shape now e)
        → ReturnsOnce place_of f.shape start next
    returned at others e of = elim (cases_Bool (same_drive e (drive_of place_of held))) [
      | inl this ↦
          let here : AtSeat f.shape (drive_of place_of held) (Returns place_of) start next = record {
            before = at.before;
            after = at.after;
            before_is = sym (before.others (drive_of place_of held) place.drive alone) ∙ at.before_is;
            after_is = at.after_is;
            done = at.done;
          } in
          inr (subst (λ x. AtSeat f.shape x (Returns place_of) start next) (sym (same_drive-eq e (drive_of place_of held) this)) here)
      | inr other ↦ elim (before.once e of) [
        | inl same ↦ inl (others e of other ∙ same)
        | inr then ↦ inr (seat-stays place_of f.shape e (Returns place_of) start now next (others e of other) then)
      ]
    ]

    -- what is left and what went, once these are lost
    next-with : (back will : Bool) → ReleasesOne place_of f held back now next → (lost : List S) → AreOfCluster place_of f.shape lost → (will ≡ true → lost ≡ [])
        → (will ≡ true → All (λ x. AtSeat f.shape (drive_of place_of x) (Gives place_of x) start next) (held ∷ before.gone))
        → ((e : Drive) (many : ℕ) → is_of f.shape e ≡ true → Holds f.shape e (many + (count_on place_of e left + count_on place_of e before.lost)) now
        → Holds f.shape e (many + (count_on place_of e rest + count_on place_of e lost)) next)
        → HasReleased rest will next
    next-with back will step lost lost_places none_lost gave account = record {
      gone = held ∷ before.gone;
      lost = lost;
      split = split_now;
      keeps = keeps-twice f start now next before.keeps step.keeps;
      yard = step.yard ∙ before.yard;
      places = (All-pop (λ x. IsPlaceOf f.shape (place_from (place_of x))) left rest (Some held) is before.places).0;
      others = λ e of out.
          let parts = is_in-none (drive_of place_of held) (drives_of_all place_of before.gone) e out in
          step.others e of (same_drive-sym e (drive_of place_of held) ∙ parts.0) ∙ before.others e of parts.1;
      once = returned step.once step.others;
      gone_places = All-cons (λ x. IsPlaceOf f.shape (place_from (place_of x))) held before.gone place before.gone_places;
      gave = gave;
      lost_places = lost_places;
      none_lost = none_lost;
      account = λ e many of holds. account e many of (before.account e many of holds);
    }

    pub HasReleased-next : (back will : Bool) → ((will ≡ true) → (was ≡ true) × (back ≡ true)) → ReleasesOne place_of f held back now next
        → HasReleased rest will next
    HasReleased-next true will both step =
        next-with true will step before.lost before.lost_places (λ went. before.none_lost (both went).0)
        (λ went.
        let at = step.gives refl in
        All-cons (λ x. AtSeat f.shape (drive_of place_of x) (Gives place_of x) start next) held before.gone
        (record {
          before = at.before;
          after = at.after;
          before_is = sym (before.others (drive_of place_of held) place.drive alone) ∙ at.before_is;
          after_is = at.after_is;
          done = at.done;
        })
        (gone_rests step.others (before.gave (both went).0)))
        (λ e many of holds.
        let all_of = ap (count_on place_of e) is in
        let count = count_on-one place_of e rest held in
        let sum : many + (count_on place_of e left + count_on place_of e before.lost) ≡ (many + (count_on place_of e rest + count_on place_of e before.lost)) + one_if (same_drive e (drive_of place_of held))
        = omega (arith, all_of, count) in
        step.less refl e (many + (count_on place_of e rest + count_on place_of e before.lost)) of (subst (λ n. Holds f.shape e n now) sum holds))
    HasReleased-next false will both step =
        next-with false will step (held ∷ before.lost) (All-cons (λ x. IsPlaceOf f.shape (place_from (place_of x))) held before.lost place before.lost_places)
        (λ went. absurd (both_ways false refl (both went).1)) (λ went. absurd (both_ways false refl (both went).1))
        (λ e many of holds.
        let all_of = ap (count_on place_of e) is in
        let count = count_on-one place_of e rest held in
        let more = count_on-cons place_of e held before.lost in
        let turned = ap one_if (same_drive-sym e (drive_of place_of held)) in
        let sum : many + (count_on place_of e left + count_on place_of e before.lost) ≡ many + (count_on place_of e rest + count_on place_of e (held ∷ before.lost))
        = omega (arith, all_of, count, more, turned) in
        step.same refl e (many + (count_on place_of e rest + count_on place_of e (held ∷ before.lost))) of (subst (λ n. Holds f.shape e n now) sum holds))

  -- none is left
  module _ (went : Bool) (now : Hand S) (done : HasReleased [] went now) where
    pub gives-back : GivesBack place_of f.shape all start now
    gives-back = record {
      lost = done.lost;
      places = done.lost_places;
      account = λ e many of holds.
          let sum : many + (count_on place_of e [] + count_on place_of e done.lost) ≡ many + count_on place_of e done.lost = omega arith in
          subst (λ n. Holds f.shape e n now) sum (done.account e many of holds);
    }

    pub gives-all_back : went ≡ true → GivesAllBack place_of f.shape all start now
    gives-all_back all_went = record {
      each = subst (All (λ x. AtSeat f.shape (drive_of place_of x) (Gives place_of x) start now)) (sym done.split) (done.gave all_went);
      account = λ e many of holds.
          let none : count_on place_of e done.lost ≡ 0 = ap (count_on place_of e) (done.none_lost all_went) in
          let sum : many + (count_on place_of e [] + count_on place_of e done.lost) ≡ many = omega (arith, none) in
          subst (λ n. Holds f.shape e n now) sum (done.account e many of holds);
    }
