-- What is known of slots that were taken from the free ones.
use Rattle.std.proofs.Common.{◌≡◌, ◌≢◌, ℕ, ◌+◌, ◌≤◌, Bool, true, false, not, List, length, count_by, Option, Some, None, IsSome, is_none, refl, sym, ap, subst, ◌∙◌, arith}
use Rattle.std.proofs.lemmas.Bool.{ne_eqb, and_left}
use Rattle.flex_io.specs.declared.raw_place.RawPlace.{RawPlace}
use Rattle.domains.specs.Drive.{Drive, IsDrive, same_drive}
use Rattle.domains.proofs.DriveLemmas.{same_drive-eq}
use Rattle.domains.specs.Place.{Place, is_place_of}
use Rattle.domains.specs.Shape.{Shape}
use Rattle.domains.specs.DriveSet.{has}
use Rattle.domains.specs.declared.drive_set.DriveSet.{DriveSet}
use Rattle.board_history.specs.Board.{up_after}
use Rattle.board_history.specs.declared.entry.BoardEntry.{BoardEntry}
use Rattle.domains.specs.Counts.{one_if}
use Rattle.held_slots.specs.Slots.{place_from, count_at}
use Rattle.plain_file.specs.Slots.{AreOf, Tell}
use Rattle.plain_file.specs.FreeOrder.{is_under, StandInOrder, HasLowerNumber}
use Rattle.plain_file.specs.Mirrors.{SamePlaces, TellStill, AreCopies}
use Rattle.plain_file.specs.Draws.{Draws}
use Rattle.plain_file.specs.Drives.{IsUpElsewhere}
use Rattle.plain_file.specs.declared.pair.Pair.{Pair}

-- what is on one drive is on no drive of another node
pub other_drive : (a b s : Drive) → same_drive a s ≡ true → b.node ≢ a.node → same_drive b s ≡ false
other_drive a b s on apart =
    let e : a ≡ s = same_drive-eq a s on in
    and_left _ _ (ne_eqb b.node s.node (λ h. apart (h ∙ sym (ap (λ (d : Drive). d.node) e))))

none_left : (b : Bool) (before after : ℕ) → before ≡ 0 → before ≡ after + one_if (not b) → (b ≡ true) × (after ≡ 0)
none_left true before after none moved = (refl, omega arith)
none_left false before after none moved = absurd (omega arith)

some_told : (o : Option (List ℕ)) (before after : ℕ) → before ≡ 0 → before ≡ after + one_if (is_none o) → IsSome o × (after ≡ 0)
some_told None before after none moved = absurd (omega arith)
some_told (Some bytes) before after none moved = (refl, omega arith)

module _ {S : Type 0} (place_of : S → RawPlace) (content : S → Option (List ℕ)) where
  -- the slot is gone from the list, and all others are there still
  abbrev pub Leaves : List S → List S → S → Type 0
  Leaves before after x = (p : S → Bool) → count_by p before ≡ count_by p after + one_if (p x)

  pub left_of : (shape : Shape) (before after : List S) (x : S) → Leaves before after x → AreOf place_of shape before
      → (is_place_of shape (place_from (place_of x)) ≡ true) × AreOf place_of shape after
  left_of shape before after x moved all =
      none_left (is_place_of shape (place_from (place_of x))) _ _ all (moved (λ y. not (is_place_of shape (place_from (place_of y)))))

  pub left_told : (before after : List S) (x : S) → Leaves before after x → Tell content before → IsSome (content x) × Tell content after
  left_told before after x moved all = some_told (content x) _ _ all (moved (λ y. is_none (content y)))

  -- a slot that has a lower number than some has one than those that are left of them
  lower_left : (before after : List S) (y x : S) → Leaves before after y → HasLowerNumber place_of before x → HasLowerNumber place_of after x
  lower_left before after y x moved lower =
      let m = moved (λ z. is_under (place_from (place_of z)) (place_from (place_of x))) in
      omega (arith, m, lower)

  -- and so has another slot at its place
  lower_same : (slots : List S) (x y : S) → place_of y ≡ place_of x → HasLowerNumber place_of slots x → HasLowerNumber place_of slots y
  lower_same slots x y same = subst (λ (r : RawPlace). count_at place_of (λ s. is_under s (place_from r)) slots ≡ 0) (sym same)

  -- the two slots were drawn as a mirror
  pub draws : (shape : Shape) (board : List BoardEntry) (up : DriveSet) (free between after retired : List S) (room more spare : ℕ)
      (one two : Drive) (x y : S) (pair : Pair S) (bytes : List ℕ)
      → ((d : Drive) → IsDrive d → has up d ≡ up_after shape board (length board) d) → AreOf place_of shape free
      → IsUpElsewhere shape (has up) 0 one → IsUpElsewhere shape (has up) one.node two
      → same_drive one (place_from (place_of x)).drive ≡ true → same_drive two (place_from (place_of y)).drive ≡ true
      → Leaves free between x → Leaves between after y
      → SamePlaces place_of (record { first = x; second = y }) pair → TellStill content (record { first = x; second = y }) pair
      → AreCopies content pair bytes → more ≡ room + 2
      → (StandInOrder place_of free → StandInOrder place_of between) → (StandInOrder place_of between → StandInOrder place_of after)
      → (StandInOrder place_of free → HasLowerNumber place_of between x) → (StandInOrder place_of between → HasLowerNumber place_of after y)
      → Draws place_of content (record { shape = shape; board = board; free = free; retired = retired; room = room; spare = spare })
      (record { shape = shape; board = board; free = after; retired = retired; room = more; spare = spare }) bytes pair
  draws shape board up free between after retired room more spare one two x y pair bytes up_set all up_one up_two on_one on_two moved moved_too same still copies rooms order order_too lower lower_too =
      let place_x : place_from (place_of pair.first) ≡ place_from (place_of x) = ap place_from same.first in
      let place_y : place_from (place_of pair.second) ≡ place_from (place_of y) = ap place_from same.second in
      let is_one : one ≡ (place_from (place_of x)).drive = same_drive-eq one _ on_one in
      let is_two : two ≡ (place_from (place_of y)).drive = same_drive-eq two _ on_two in
      let of_x = left_of shape free between x moved all in
      let of_y = left_of shape between after y moved_too of_x.1 in
      record {
        mirror = record {
          first = ap (is_place_of shape) place_x ∙ of_x.0;
          second = ap (is_place_of shape) place_y ∙ of_y.0;
          apart = λ h. up_two.apart (ap (λ (d : Drive). d.node) is_two ∙ sym (ap (λ (r : RawPlace). r.node) same.second)
              ∙ sym h ∙ ap (λ (r : RawPlace). r.node) same.first ∙ sym (ap (λ (d : Drive). d.node) is_one));
        };
        first_up =
            ap (λ (s : Place). up_after shape board (length board) s.drive) place_x
            ∙ sym (ap (up_after shape board (length board)) is_one) ∙ sym (up_set one up_one.is) ∙ up_one.up_there;
        second_up =
            ap (λ (s : Place). up_after shape board (length board) s.drive) place_y
            ∙ sym (ap (up_after shape board (length board)) is_two) ∙ sym (up_set two up_two.is) ∙ up_two.up_there;
        copies = copies;
        moved = λ p.
            let px : one_if (p (place_from (place_of pair.first))) ≡ one_if (p (place_from (place_of x))) = ap (λ s. one_if (p s)) place_x in
            let py : one_if (p (place_from (place_of pair.second))) ≡ one_if (p (place_from (place_of y))) = ap (λ s. one_if (p s)) place_y in
            let mx = moved (λ z. p (place_from (place_of z))) in
            let my = moved_too (λ z. p (place_from (place_of z))) in
            omega (arith, px, py, mx, my);
        tell = λ told.
            let told_x = left_told free between x moved told in
            let told_y = left_told between after y moved_too told_x.1 in
            (told_y.1, still.first told_x.0, still.second told_y.0);
        room = rooms;
        ordered = λ h. order_too (order h);
        first_lower = λ h. lower_left between after y pair.first moved_too (lower_same between x pair.first same.first (lower h));
        second_lower = λ h. lower_same after y pair.second same.second (lower_too (order h));
      }

  -- a drive of another node has the free slots that it had
  pub second_there : (free between : List S) (one two : Drive) (x : S) → Leaves free between x
      → same_drive one (place_from (place_of x)).drive ≡ true → two.node ≢ one.node
      → 1 ≤ count_at place_of (λ s. same_drive two s.drive) free → 1 ≤ count_at place_of (λ s. same_drive two s.drive) between
  second_there free between one two x moved on apart there =
      let m = moved (λ y. same_drive two (place_from (place_of y)).drive) in
      let off : one_if (same_drive two (place_from (place_of x)).drive) ≡ 0 =
      ap one_if (other_drive one two (place_from (place_of x)).drive on apart) in
      omega (arith, m, off, there)

  -- two slots that were taken and put back stand among the free ones as before
  pub restored : (free between after put : List S) (x y : S) (pair : Pair S) → Leaves free between x → Leaves between after y
      → SamePlaces place_of (record { first = x; second = y }) pair
      → ((p : S → Bool) → count_by p put ≡ count_by p after + (one_if (p pair.first) + one_if (p pair.second)))
      → (p : Place → Bool) → count_at place_of p put ≡ count_at place_of p free
  restored free between after put x y pair moved moved_too same back p =
      let q : S → Bool = λ z. p (place_from (place_of z)) in
      let px : one_if (q pair.first) ≡ one_if (q x) = ap (λ (r : RawPlace). one_if (p (place_from r))) same.first in
      let py : one_if (q pair.second) ≡ one_if (q y) = ap (λ (r : RawPlace). one_if (p (place_from r))) same.second in
      let mx = moved q in
      let my = moved_too q in
      let mb = back q in
      omega (arith, px, py, mx, my, mb)
