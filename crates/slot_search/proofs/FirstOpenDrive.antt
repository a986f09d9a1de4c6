-- The first open drive of a node, and the spent ones before it, for any drives that may be spent in the end.
use Rattle.std.proofs.Common.{◌≡◌, ℕ, ◌+◌, ◌/◌, ◌%◌, ◌<◌, ◌≤◌, Bool, true, false, not, ◌&&◌, ◌||◌, List, [], ◌∷◌, ◌++◌, mod-lt, inl, inr, refl, sym, ap, ◌∙◌, arith}
use Rattle.std.proofs.lemmas.Bool.{and_cases, and_from, and_left, and_right, not-false, not_from_false, or_left, or_parts, or_right, or_cases}
use Rattle.domains.specs.Shape.{is_of}
use Rattle.domains.specs.Drive.{Drive, same_drive, is_in}
use Rattle.domains.specs.DriveSet.{has}
use Rattle.flex_io.specs.declared.raw_place.RawPlace.{RawPlace}
use Rattle.slot_search.specs.HandSeats.{drives_at, drives_of_all}
use Rattle.placement_order.specs.Order.{drives_of, first_open, is_open, with_drive}
use Rattle.placement_order.specs.PassedDrives.{passed_on}
use Rattle.slot_search.specs.Searches.{DrawsFirst, GivesSlot, IsSearch, IsSpentNow, MayBeSpent, is_closed, request_of, without_barred}
use Rattle.slot_search.specs.declared.search.Search.{Search}
use Rattle.slot_search.specs.declared.request.Request.{Request}
use Rattle.placement_order.proofs.MarkedDrives.{is_of-at}
use Rattle.placement_order.proofs.PassedVisits.{passed_on-given, passed_on-shut, passed_on-spent}
use Rattle.domains.proofs.DriveLemmas.{is_in-push, same_drive-self}
use Rattle.placement_order.proofs.VisitsLeft.{drive_at, drives_left, drives_left-all, drives_left-end, drives_left-next, first_open-is, first_open-next, open_from, shut_from, shut_unusable}

module _ {S : Type 0} (place_of : S → RawPlace) (t : Request) (node : ℕ) (old : Search S) where
  -- the drives of the slots at the start
  abbrev drawn : List Drive
  drawn = drives_of_all place_of old.slots.items

  -- the node's first drives, as far as the search has come, are not open, and the spent ones among them are passed over
  pub record HasPassed (step : ℕ) (now : Search S) : Type 0 where
    pub slots : now.slots.items ≡ old.slots.items
    pub first : (spent : Drive → Bool) → MayBeSpent place_of t now spent → MayBeSpent place_of t old spent
        × (first_open (without_barred t) spent drawn (drives_of (without_barred t) node) ≡ first_open (without_barred t) spent drawn (drives_left (without_barred t) node step))
    pub passed : (spent : Drive → Bool) → MayBeSpent place_of t now spent
        → passed_on (without_barred t) spent drawn (drives_of (without_barred t) node) (drives_at old.empty.items)
        ≡ passed_on (without_barred t) spent drawn (drives_left (without_barred t) node step) (drives_at now.empty.items)

  pub HasPassed-none : HasPassed 0 old
  HasPassed-none = record {
    slots = refl;
    first = λ spent may. (may, ap (first_open (without_barred t) spent drawn) (sym (drives_left-all (without_barred t) node)));
    passed = λ spent may. ap (λ ds. passed_on (without_barred t) spent drawn ds (drives_at old.empty.items)) (sym (drives_left-all (without_barred t) node));
  }

  -- one more drive is passed, where it is not open
  one_more : (step : ℕ) (now next : Search S) → step < t.shape.drives → next.slots.items ≡ now.slots.items
      → ((spent : Drive → Bool) → MayBeSpent place_of t next spent → MayBeSpent place_of t now spent × (is_open (without_barred t) spent drawn (drive_at (without_barred t) node step) ≡ false))
      → ((spent : Drive → Bool) → MayBeSpent place_of t next spent
      → passed_on (without_barred t) spent drawn (drive_at (without_barred t) node step ∷ drives_left (without_barred t) node (step + 1)) (drives_at now.empty.items)
      ≡ passed_on (without_barred t) spent drawn (drives_left (without_barred t) node (step + 1)) (drives_at next.empty.items))
      → HasPassed step now → HasPassed (step + 1) next
  one_more step now next within same shut on passed = record {
    slots = same ∙ passed.slots;
    first = λ spent may.
        let here = shut spent may in
        let before = passed.first spent here.0 in (
          before.0,
          before.1 ∙ ap (first_open (without_barred t) spent drawn) (drives_left-next (without_barred t) node step within)
              ∙ first_open-next (without_barred t) spent drawn (drive_at (without_barred t) node step) (drives_left (without_barred t) node (step + 1)) here.1,
        );
    passed = λ spent may.
        passed.passed spent (shut spent may).0
        ∙ ap (λ ds. passed_on (without_barred t) spent drawn ds (drives_at now.empty.items)) (drives_left-next (without_barred t) node step within)
        ∙ on spent may;
  }

  module _ (some : 1 ≤ node) (within : node ≤ t.shape.nodes) (step : ℕ) (now : Search S) (search : IsSearch place_of t now) (low : step < t.shape.drives) where
    pub drive_at-of : is_of t.shape (drive_at (request_of t) node step) ≡ true
    drive_at-of =
        let below = mod-lt (t.spin / t.shape.nodes + step) {m = t.shape.drives} (omega (arith, low)) in
        is_of-at t.shape node (1 + (t.spin / t.shape.nodes + step) % t.shape.drives) some within (omega arith) (omega (arith, below))

    abbrev at : Drive
    at = drive_at (without_barred t) node step

    -- if the drive is spent now, it is barred or spent in the end
    abbrev StaysSpent : (Drive → Bool) → Type 0
    StaysSpent spent = has now.spent at ≡ true → (has t.barred at || spent at) ≡ true

    -- what is spent now is what was barred or passed over
    known : has now.spent at ≡ (has t.barred at || is_in (drives_at now.empty.items) at)
    known = search.spent at drive_at-of

    shut_unbarred : (spent : Drive → Bool) → ((request_of t).usable at && not (has t.barred at)) ≡ false → is_open (without_barred t) spent drawn at ≡ false
    shut_unbarred spent unusable = shut_unusable ((without_barred t).usable at) (has t.used at) (spent at) (is_in drawn at) unusable

    shut_closed : (spent : Drive → Bool) → now.slots.items ≡ old.slots.items → StaysSpent spent → is_closed now at ≡ true → is_open (without_barred t) spent drawn at ≡ false
    shut_closed spent same stays closed = elim (or_cases (has now.taken at) (has now.spent at) closed) [
      | inl taken ↦
          shut_from ((without_barred t).usable at) (has t.used at) (spent at) (is_in drawn at)
          (or_left (has t.used at || is_in drawn at) (spent at)
          (ap (λ xs. has t.used at || is_in (drives_of_all place_of xs) at) (sym same) ∙ sym (search.taken at drive_at-of) ∙ taken))
      | inr gone ↦ elim (or_cases (has t.barred at) (spent at) (stays gone)) [
        | inl barred ↦ shut_unbarred spent (and_right ((request_of t).usable at) (not (has t.barred at)) (ap not barred))
        | inr spent_too ↦
            shut_from ((without_barred t).usable at) (has t.used at) (spent at) (is_in drawn at) (or_right (has t.used at || is_in drawn at) (spent at) spent_too)
      ]
    ]

    shut : (spent : Drive → Bool) → now.slots.items ≡ old.slots.items → StaysSpent spent → ((request_of t).usable at && not (is_closed now at)) ≡ false
        → is_open (without_barred t) spent drawn at ≡ false
    shut spent same stays test = elim (and_cases ((request_of t).usable at) (not (is_closed now at)) test) [
      | inl unusable ↦ shut_unbarred spent (and_left ((request_of t).usable at) (not (has t.barred at)) unusable)
      | inr closed ↦ shut_closed spent same stays (not-false (is_closed now at) closed)
    ]

    -- a drive that the search may not try
    pub HasPassed-shut : ((request_of t).usable (drive_at (request_of t) node step) && not (is_closed now (drive_at (request_of t) node step))) ≡ false
        → HasPassed step now → HasPassed (step + 1) now
    HasPassed-shut test passed =
        one_more step now now low refl (λ spent may. (may, shut spent passed.slots (λ gone. or_right (has t.barred at) (spent at) (may.closed at drive_at-of gone)) test))
        (λ spent may.
        passed_on-shut (without_barred t) spent drawn at (drives_left (without_barred t) node (step + 1)) (drives_at now.empty.items)
        (shut (is_in (drives_at now.empty.items)) passed.slots (λ gone. sym known ∙ gone) test))
        passed

    -- a drive that the search may try
    module _ (usable : (request_of t).usable (drive_at (request_of t) node step) ≡ true) (not_closed : is_closed now (drive_at (request_of t) node step) ≡ false)
        (passed : HasPassed step now) where
      untried : (has t.used (drive_at (request_of t) node step) ≡ false) × (is_in drawn (drive_at (request_of t) node step) ≡ false)
      untried =
          let d : Drive = drive_at (without_barred t) node step in
          or_parts (has t.used d) (is_in drawn d)
          (ap (λ xs. has t.used d || is_in (drives_of_all place_of xs) d) (sym passed.slots) ∙ sym (search.taken d drive_at-of) ∙ (or_parts (has now.taken d) (has now.spent d) not_closed).0)

      unspent : (has t.barred at ≡ false) × (is_in (drives_at now.empty.items) at ≡ false)
      unspent = or_parts (has t.barred at) (is_in (drives_at now.empty.items) at) (sym known ∙ (or_parts (has now.taken at) (has now.spent at) not_closed).1)

      opens : (spent : Drive → Bool) → spent at ≡ false → is_open (without_barred t) spent drawn at ≡ true
      opens spent left =
          open_from ((without_barred t).usable at) (has t.used at) (spent at) (is_in drawn at)
          (and_from ((request_of t).usable at) (not (has t.barred at)) usable (not_from_false (has t.barred at) unspent.0)) untried.0 left untried.1

      opens_as_known : is_open (without_barred t) (is_in (drives_at now.empty.items)) drawn at ≡ true
      opens_as_known = opens (is_in (drives_at now.empty.items)) unspent.1

      -- it is found empty
      pub HasPassed-spent : (next : Search S) → IsSpentNow t.shape (drive_at (without_barred t) node step) now next → HasPassed (step + 1) next
      HasPassed-spent next is =
          let d : Drive = drive_at (without_barred t) node step in
          let gone : (spent : Drive → Bool) → MayBeSpent place_of t next spent → spent d ≡ true
          = λ spent may. may.closed d drive_at-of (is.spent d drive_at-of ∙ or_left (same_drive d d) (has now.spent d) (same_drive-self d)) in
          one_more step now next low is.slots
          (λ spent may. (
            record {
              closed = λ e of gone. may.closed e of (is.spent e of ∙ or_right (same_drive e d) (has now.spent e) gone);
              drawn = λ e there. may.drawn e (ap (λ xs. is_in (drives_of_all place_of xs) e) is.slots ∙ there);
            },
            shut_from ((without_barred t).usable d) (has t.used d) (spent d) (is_in drawn d) (or_right (has t.used d || is_in drawn d) (spent d) (gone spent may)),
          ))
          (λ spent may.
          passed_on-spent (without_barred t) spent drawn d (drives_left (without_barred t) node (step + 1)) (drives_at now.empty.items) opens_as_known (gone spent may)
          ∙ ap (passed_on (without_barred t) spent drawn (drives_left (without_barred t) node (step + 1))) (sym is.empty))
          passed

      -- it gives a slot, and is the first open one
      pub DrawsFirst-gave : (next : Search S) → GivesSlot place_of (drive_at (request_of t) node step) now next → DrawsFirst place_of t node old next
      DrawsFirst-gave next gives spent may =
          let d : Drive = drive_at (without_barred t) node step in
          let drives = gives.drives ∙ ap (λ xs. drives_of_all place_of xs ++ d ∷ []) passed.slots in
          let was : MayBeSpent place_of t now spent = record {
            closed = λ e of gone. may.closed e of (ap (λ x. has x e) gives.spent ∙ gone);
            drawn = λ e there. may.drawn e
                (ap (λ xs. is_in xs e) gives.drives ∙ is_in-push (drives_of_all place_of now.slots.items) d e ∙ or_left (is_in (drives_of_all place_of now.slots.items) e) (same_drive d e) there);
          } in
          let before = passed.first spent was in
          let last : is_in (drives_of_all place_of next.slots.items) d ≡ true =
          ap (λ xs. is_in xs d) drives ∙ is_in-push drawn d d ∙ or_right (is_in drawn d) (same_drive d d) (same_drive-self d) in
          let left = may.drawn d last in (
            before.0,
            drives ∙ ap (with_drive drawn) (sym (before.1 ∙ ap (first_open (without_barred t) spent drawn) (drives_left-next (without_barred t) node step low)
                ∙ first_open-is (without_barred t) spent drawn d (drives_left (without_barred t) node (step + 1)) (opens spent left))),
            ap (λ (x : _). drives_at x.items) gives.empty
                ∙ sym (passed.passed spent was
                ∙ ap (λ ds. passed_on (without_barred t) spent drawn ds (drives_at now.empty.items)) (drives_left-next (without_barred t) node step low)
                ∙ passed_on-given (without_barred t) spent drawn d (drives_left (without_barred t) node (step + 1)) (drives_at now.empty.items) opens_as_known left),
          )

  -- no drive of the node is open
  pub DrawsFirst-none : (step : ℕ) (now : Search S) → t.shape.drives ≤ step → HasPassed step now → DrawsFirst place_of t node old now
  DrawsFirst-none step now past passed spent may =
      let before = passed.first spent may in (
        before.0,
        ap (drives_of_all place_of) passed.slots ∙ ap (with_drive drawn) (sym (before.1 ∙ ap (first_open (without_barred t) spent drawn) (drives_left-end (without_barred t) node step past))),
        sym (passed.passed spent may ∙ ap (λ ds. passed_on (without_barred t) spent drawn ds (drives_at now.empty.items)) (drives_left-end (without_barred t) node step past)),
      )
