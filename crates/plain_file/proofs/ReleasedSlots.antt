-- Where slots go that come back, and what is known of a slot that failed.
use Rattle.std.proofs.Common.{◌≡◌, ℕ, ◌+◌, ◌≤◌, Bool, true, false, List, [], ◌∷◌, ◌++◌, length, count_by, Option, refl, sym, ap, subst, ◌∙◌, inl, inr, arith}
use Rattle.std.proofs.lemmas.List.Sums.{sum_by-append}
use Rattle.std.proofs.lemmas.Bool.{and_left, true≢false}
use Rattle.flex_io.specs.declared.raw_place.RawPlace.{RawPlace}
use Rattle.domains.specs.Drive.{Drive, same_drive}
use Rattle.domains.specs.Place.{Place, same_place, is_place_of}
use Rattle.domains.specs.Shape.{Shape}
use Rattle.board_history.specs.Board.{up_after}
use Rattle.board_history.specs.declared.entry.BoardEntry.{BoardEntry}
use Rattle.domains.specs.Counts.{one_if}
use Rattle.held_slots.specs.Slots.{place_from, count_at}
use Rattle.plain_file.specs.Slots.{AreOf}
use Rattle.plain_file.specs.Plain.{StockView, SortsSlots, HasFailed}
use Rattle.plain_file.specs.Mirrors.{SamePlaces, PairFails}
use Rattle.plain_file.specs.Draws.{Draws, SameFree}
use Rattle.plain_file.specs.declared.pair.Pair.{Pair}
use Rattle.domains.proofs.DriveLemmas.{same_drive-eq, same_place-self}
use Rattle.plain_file.proofs.DrawnSlots.{Leaves, left_of}

-- a drive that is up is not one that is lost
apart_by_up : (up : Drive → Bool) (d e : Drive) → up d ≡ false → up e ≡ true → same_drive d e ≡ false
apart_by_up up d e off on =
    elim (same_drive d e) as (λ x. same_drive d e ≡ x → x ≡ false) [
      | true ↦ λ same. absurd (true≢false (sym on ∙ ap up (sym (same_drive-eq d e same)) ∙ off))
      | false ↦ λ same. refl
    ] refl

-- no place of a drive that is lost is one of a drive that is up
not_at : (up : Drive → Bool) (s t : Place) → up s.drive ≡ false → up t.drive ≡ true → one_if (same_place s t) ≡ 0
not_at up s t off on = ap one_if (and_left _ _ (apart_by_up up s.drive t.drive off on))

not_at_lost : (up : Drive → Bool) (s t : Place) → up s.drive ≡ true → up t.drive ≡ false → one_if (same_place s t) ≡ 0
not_at_lost up s t on off =
    ap one_if (and_left _ _ (elim (same_drive s.drive t.drive) as (λ x. same_drive s.drive t.drive ≡ x → x ≡ false) [
      | true ↦ λ same. absurd (true≢false (sym on ∙ ap up (same_drive-eq s.drive t.drive same) ∙ off))
      | false ↦ λ same. refl
    ] refl))

pub at_itself : (s : Place) → one_if (same_place s s) ≡ 1
at_itself s = ap one_if (same_place-self s)

module _ {S : Type 0} (place_of : S → RawPlace) where
  -- a slot on a drive that is up went to the free ones
  pub put_sorted : (shape : Shape) (board : List BoardEntry) (free put retired : List S) (room spare more less : ℕ) (x : S)
      → up_after shape board (length board) (place_from (place_of x)).drive ≡ true
      → ((p : S → Bool) → count_by p put ≡ count_by p free + one_if (p x))
      → SortsSlots place_of (record { shape = shape; board = board; free = free; retired = retired; room = room; spare = spare })
      (record { shape = shape; board = board; free = put; retired = retired; room = more; spare = less })
  put_sorted shape board free put retired room spare more less x on added = record {
    lost = λ s off.
        let none = not_at (up_after shape board (length board)) s (place_from (place_of x)) off on in
        let here = added (λ y. same_place s (place_from (place_of y))) in
        omega (arith, none, here);
    up = λ s is. refl;
  }

  -- a slot on a drive that is lost was retired
  pub retired_sorted : (shape : Shape) (board : List BoardEntry) (free old new : List S) (room spare more less : ℕ) (x : S)
      → up_after shape board (length board) (place_from (place_of x)).drive ≡ false
      → new ≡ old ++ x ∷ []
      → SortsSlots place_of (record { shape = shape; board = board; free = free; retired = old; room = room; spare = spare })
      (record { shape = shape; board = board; free = free; retired = new; room = more; spare = less })
  retired_sorted shape board free old new room spare more less x off grown = record {
    lost = λ s is. refl;
    up = λ s on.
        let none = not_at_lost (up_after shape board (length board)) s (place_from (place_of x)) on off in
        let q : S → Bool = λ y. same_place s (place_from (place_of y)) in
        let more : count_by q new ≡ count_by q (old ++ x ∷ []) = ap (count_by q) grown in
        let pushed = count_push q old x in
        omega (arith, none, more, pushed);
  }
    where
      count_push : (q : S → Bool) (xs : List S) (y : S) → count_by q (xs ++ y ∷ []) ≡ count_by q xs + one_if (q y)
      count_push q xs y = grind (arith, sum_by-append (λ z. one_if (q z)) xs (y ∷ []))

  -- one after the other
  pub sorted_then : (old mid new : StockView S) → mid.shape ≡ old.shape → mid.board ≡ old.board
      → SortsSlots place_of old mid → SortsSlots place_of mid new → SortsSlots place_of old new
  sorted_then old mid new shape board first second = record {
    lost = λ s off. second.lost s (moved s ∙ off) ∙ first.lost s off;
    up = λ s on. second.up s (moved s ∙ on) ∙ first.up s on;
  }
    where
      moved : (s : Place) → up_after mid.shape mid.board (length mid.board) s.drive ≡ up_after old.shape old.board (length old.board) s.drive
      moved s =
          ap (λ (c : Shape). up_after c mid.board (length mid.board) s.drive) shape
          ∙ ap (λ (b : List BoardEntry). up_after old.shape b (length b) s.drive) board

  -- slots that stand where they stood
  pub same_sorted : (old new : StockView S) → SameFree place_of old new → new.retired ≡ old.retired → SortsSlots place_of old new
  same_sorted old new same retired = record {
    lost = λ s off. same (same_place s);
    up = λ s on. ap (count_at place_of (same_place s)) retired;
  }

  -- slots that were drawn are on drives that are up
  pub drawn_sorted : (content : S → Option (List ℕ)) (old new : StockView S) (bytes : List ℕ) (pair : Pair S) → Draws place_of content old new bytes pair
      → new.retired ≡ old.retired → SortsSlots place_of old new
  drawn_sorted content old new bytes pair draws retired = record {
    lost = λ s off.
        let moved = draws.moved (same_place s) in
        let up : Drive → Bool = up_after old.shape old.board (length old.board) in
        let first = not_at up s (place_from (place_of pair.first)) off draws.first_up in
        let second = not_at up s (place_from (place_of pair.second)) off draws.second_up in
        omega (arith, moved, first, second);
    up = λ s on. ap (count_at place_of (same_place s)) retired;
  }

  -- one of two slots that were taken from the free ones failed
  pub draw_failed : (faults : S → ℕ) (stock : StockView S) (between after : List S) (x y : S) (pair : Pair S)
      → Leaves place_of (λ z. Option.None) stock.free between x → Leaves place_of (λ z. Option.None) between after y
      → SamePlaces place_of (record { first = x; second = y }) pair → PairFails faults (record { first = x; second = y }) pair
      → AreOf place_of stock.shape stock.free → HasFailed place_of faults stock
  draw_failed faults stock between after x y pair moved moved_too same fails all =
      let of_first = left_of place_of (λ z. Option.None) stock.shape stock.free between x moved all in
      elim fails [
        | inl first ↦ record {
          before = x;
          after = pair.first;
          of_cluster = of_first.0;
          free = let here = at_itself (place_from (place_of x)) in
              let m = moved (λ z. same_place (place_from (place_of x)) (place_from (place_of z))) in
              omega (arith, here, m);
          place = same.first;
          rose = first;
        }
        | inr second ↦ record {
          before = y;
          after = pair.second;
          of_cluster = (left_of place_of (λ z. Option.None) stock.shape between after y moved_too of_first.1).0;
          free = let here = at_itself (place_from (place_of y)) in
              let m = moved (λ z. same_place (place_from (place_of y)) (place_from (place_of z))) in
              let n = moved_too (λ z. same_place (place_from (place_of y)) (place_from (place_of z))) in
              omega (arith, here, m, n);
          place = same.second;
          rose = second;
        }
      ]

  -- a slot that was free after a draw was free before it
  pub failed_after_draw : (content : S → Option (List ℕ)) (faults : S → ℕ) (old new : StockView S) (bytes : List ℕ) (pair : Pair S)
      → Draws place_of content old new bytes pair → new.shape ≡ old.shape → HasFailed place_of faults new → HasFailed place_of faults old
  failed_after_draw content faults old new bytes pair draws shape failed = record {
    before = failed.before;
    after = failed.after;
    of_cluster = subst (λ (c : Shape). is_place_of c (place_from (place_of failed.before)) ≡ true) shape failed.of_cluster;
    free = let m = draws.moved (same_place (place_from (place_of failed.before))) in
        let there = failed.free in
        omega (arith, m, there);
    place = failed.place;
    rose = failed.rose;
  }

  -- the same slots are free
  pub failed_same : (faults : S → ℕ) (old new : StockView S) → new.free ≡ old.free → new.shape ≡ old.shape → HasFailed place_of faults new → HasFailed place_of faults old
  failed_same faults old new same shape failed = record {
    before = failed.before;
    after = failed.after;
    of_cluster = subst (λ (c : Shape). is_place_of c (place_from (place_of failed.before)) ≡ true) shape failed.of_cluster;
    free = subst (λ (free : List S). 1 ≤ count_at place_of (same_place (place_from (place_of failed.before))) free) same failed.free;
    place = failed.place;
    rose = failed.rose;
  }
