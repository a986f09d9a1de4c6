-- Slots are released one by one, in their order.
use Rattle.std.proofs.Common.{◌≡◌, ◌≤◌, ℕ, suc, ◌+◌, Bool, true, false, List, [], ◌∷◌, ◌++◌, length, reverse, inl, inr, refl, sym, ap, subst, ◌∙◌, arith}
use Rattle.std.specs.List.{All}
use Rattle.std.proofs.lemmas.Bool.{both_ways, cases_Bool}
use Rattle.std.proofs.lemmas.List.{reverse-append, reverse-reverse}
use Rattle.std.proofs.lemmas.List.Elements.{All-append, All-cons, All-nil, All-pop}
use Rattle.board.specs.declared.board_view.View.{View}
use Rattle.domains.specs.DriveSet.{has}
use Rattle.domains.specs.Place.{IsPlaceOf}
use Rattle.domains.specs.Shape.{Shape}
use Rattle.flex_io.specs.declared.raw_place.RawPlace.{RawPlace}
use Rattle.held_slots.specs.Slots.{drive_of, place_from}
use Rattle.turn_cell.specs.Seats.{seat_view}
use Rattle.fabric.specs.Cells.{FabricView}
use Rattle.fabric.specs.HandTurns.{Refuses, Releases}
use Rattle.fabric.specs.declared.hand.Hand.{Hand}
use Rattle.fabric.specs.Views.{IsHandOf}
use Rattle.slot_search.specs.HandSeats.{AreOfCluster}
use Rattle.slot_search.specs.Searches.{KeepsHand}
use Rattle.striped_groups.specs.StoredGroups.{GroupSlots}
use Rattle.write_path.specs.Releases.{IsReleased, ReleasesEach, slots_in}

all_front : {A : Type 0} (P : A → Type 0) (x : A) (xs : List A) → All P (x ∷ xs) → P x
all_front P x xs all = all 0 x (omega arith)

all_rest : {A : Type 0} (P : A → Type 0) (x : A) (xs : List A) → All P (x ∷ xs) → All P xs
all_rest P x xs all k d l = all (suc k) d (omega (arith, l))

pub all_reverse : {A : Type 0} (P : A → Type 0) (xs : List A) → All P xs → All P (reverse xs)
all_reverse P [] all = All-nil P
all_reverse P (x ∷ xs) all =
    subst (All P) (sym (reverse-append (x ∷ []) xs))
    (All-append P (reverse xs) (x ∷ []) (all_reverse P xs (all_rest P x xs all)) (All-cons P x [] (all_front P x xs all) (All-nil P)))

pub all_behind : {A : Type 0} (P : A → Type 0) (xs ys : List A) → All P (xs ++ ys) → All P ys
all_behind P [] ys all = all
all_behind P (x ∷ xs) ys all = all_behind P xs ys (all_rest P x (xs ++ ys) all)

pub all_before : {A : Type 0} (P : A → Type 0) (xs ys : List A) → All P (xs ++ ys) → All P xs
all_before P [] ys all = All-nil P
all_before P (x ∷ xs) ys all = All-cons P x xs (all_front P x (xs ++ ys) all) (all_before P xs ys (all_rest P x (xs ++ ys) all))

module _ {S : Type 0} (place_of : S → RawPlace) where
  -- the seat at the board makes no turn
  pub board_released : (shape : Shape) (view : View) (held : S) (old new : Hand S) → Releases place_of shape view held old new
      → seat_view new.board ≡ seat_view old.board
  board_released shape view held old new went = elim (cases_Bool (has view.up (drive_of place_of held))) [
    | inl up ↦ (went.up up).board
    | inr not_up ↦ elim (cases_Bool (has view.gone (drive_of place_of held))) [
      | inl gone ↦ (went.gone not_up gone).board
      | inr not_gone ↦ (went.down not_up not_gone).board
    ]
  ]

  pub board_refused : (shape : Shape) (view : View) (held : S) (old new : Hand S) → Refuses place_of shape view (drive_of place_of held) old new
      → seat_view new.board ≡ seat_view old.board
  board_refused shape view held old new refused = elim (cases_Bool (has view.up (drive_of place_of held))) [
    | inl up ↦ (refused.up up).board
    | inr not_up ↦ (refused.other not_up).board
  ]

  -- lists of slots released one after the other
  pub releases_both : (xs ys : List S) (shape : Shape) (view : View) (old between new : Hand S) → ReleasesEach place_of xs shape view old between
      → ReleasesEach place_of ys shape view between new → ReleasesEach place_of (xs ++ ys) shape view old new
  releases_both [] ys shape view old between new first second = subst (λ h. ReleasesEach place_of ys shape view h new) first second
  releases_both (x ∷ xs) ys shape view old between new first second =
      (first.0, first.1, releases_both xs ys shape view first.0 between new first.2 second)

module _ {S : Type 0} (f : FabricView) where
  pub keeps_hand : (old between new : Hand S) → KeepsHand f old between → KeepsHand f between new → KeepsHand f old new
  keeps_hand old between new first second = record { hand = second.hand; number = second.number ∙ first.number; board = second.board ∙ first.board }

  pub keeps_same : (hand : Hand S) → IsHandOf f hand → KeepsHand f hand hand
  keeps_same hand is = record { hand = is; number = refl; board = refl }

module _ {S : Type 0} (place_of : S → RawPlace) (f : FabricView) (view : View) (whole : List S) (start : Hand S) where
  -- these are left, in this order; the others were released, if `all` is true
  pub record ReleasedSoFar (left : List S) (all : Bool) (now : Hand S) : Type 0 where
    pub keeps : KeepsHand f start now
    pub places : AreOfCluster place_of f.shape left
    pub goes_on : all ≡ true → (target : Hand S) → ReleasesEach place_of left f.shape view now target → ReleasesEach place_of whole f.shape view start target

  pub released_none : IsHandOf f start → AreOfCluster place_of f.shape whole → ReleasedSoFar whole true start
  released_none hand places = record { keeps = keeps_same f start hand; places = places; goes_on = λ went target each. each }

  -- the first ones of those that are left are released too
  pub released_more : (these left : List S) (was went is : Bool) (now next : Hand S) → ReleasedSoFar (these ++ left) was now → KeepsHand f now next
      → AreOfCluster place_of f.shape left → (went ≡ true → ReleasesEach place_of these f.shape view now next) → (is ≡ true → (was ≡ true) × (went ≡ true))
      → ReleasedSoFar left is next
  released_more these left was went is now next before keeps places released both = record {
    keeps = keeps_hand f start now next before.keeps keeps;
    places = places;
    goes_on = λ went target each.
        before.goes_on (both went).0 target (releases_both place_of these left f.shape view now next target (released (both went).1) each);
  }

  pub released_all : (all : Bool) (now : Hand S) → ReleasedSoFar [] all now → all ≡ true → ReleasesEach place_of whole f.shape view start now
  released_all all now so_far all_went = so_far.goes_on all_went now refl

  -- the last slot is released
  pub released_next : (items rest : List S) (held : S) (was went is : Bool) (now next : Hand S) → items ≡ rest ++ held ∷ [] → ReleasedSoFar (reverse items) was now
      → KeepsHand f now next → (went ≡ true → IsReleased place_of f.shape view held now next) → (is ≡ true → (was ≡ true) × (went ≡ true)) → ReleasedSoFar (reverse rest) is next
  released_next items rest held was went is now next split before keeps released both =
      let so_far = subst (λ l. ReleasedSoFar l was now) (ap reverse split ∙ reverse-append rest (held ∷ [])) before in
      released_more (held ∷ []) (reverse rest) was went is now next so_far keeps
      (all_rest (λ x. IsPlaceOf f.shape (place_from (place_of x))) held (reverse rest) so_far.places) (λ went_now. (next, released went_now, refl)) both

  -- the place of the last slot
  pub next_place : (items rest : List S) (held : S) (was : Bool) (now : Hand S) → items ≡ rest ++ held ∷ [] → ReleasedSoFar (reverse items) was now
      → IsPlaceOf f.shape (place_from (place_of held))
  next_place items rest held was now split before =
      let so_far = subst (λ l. ReleasedSoFar l was now) (ap reverse split ∙ reverse-append rest (held ∷ [])) before in
      all_front (λ x. IsPlaceOf f.shape (place_from (place_of x))) held (reverse rest) so_far.places

  -- the slots of the last group are released
  pub released_group : (items rest : List (GroupSlots S)) (group : GroupSlots S) (was went is : Bool) (now next : Hand S) → items ≡ rest ++ group ∷ []
      → ReleasedSoFar (slots_in (reverse items)) was now → KeepsHand f now next → (went ≡ true → ReleasesEach place_of group.slots f.shape view now next)
      → (is ≡ true → (was ≡ true) × (went ≡ true)) → ReleasedSoFar (slots_in (reverse rest)) is next
  released_group items rest group was went is now next split before keeps released both =
      let so_far = subst (λ l. ReleasedSoFar (slots_in l) was now) (ap reverse split ∙ reverse-append rest (group ∷ [])) before in
      released_more group.slots (slots_in (reverse rest)) was went is now next so_far keeps
      (all_behind (λ x. IsPlaceOf f.shape (place_from (place_of x))) group.slots (slots_in (reverse rest)) so_far.places) released both

  pub group_places : (items rest : List (GroupSlots S)) (group : GroupSlots S) (was : Bool) (now : Hand S) → items ≡ rest ++ group ∷ []
      → ReleasedSoFar (slots_in (reverse items)) was now → AreOfCluster place_of f.shape group.slots
  group_places items rest group was now split before =
      let so_far = subst (λ l. ReleasedSoFar (slots_in l) was now) (ap reverse split ∙ reverse-append rest (group ∷ [])) before in
      all_before (λ x. IsPlaceOf f.shape (place_from (place_of x))) group.slots (slots_in (reverse rest)) so_far.places
