-- Lists of seats, in the order of their numbers: new ones, idle ones, and the value of their closed cell.
use Rattle.std.proofs.Common.{◌≡◌, ℕ, zero, suc, ◌+◌, List, [], ◌∷◌, ◌++◌, length, Some, refl, sym, ap, ◌∙◌, subst, arith, add-zero}
use Rattle.std.specs.List.{All}
use Rattle.std.specs.Prelude.{slice_get}
use Rattle.turn_cell.specs.declared.chronicle.Note.{Note}
use Rattle.turn_cell.specs.declared.seat.Seat.{Seat}
use Rattle.turn_cell.specs.Histories.{Follows}
use Rattle.turn_cell.specs.Seats.{AreIdleFrom, AreNewFrom, CellView, FollowsEach, IsIdleOf, new_seat, seat_view}
use Rattle.turn_cell.proofs.NoteLemmas.{All-cons}

module _ {S E F : Type 0} (turns_of : S → ℕ) (notes_of : S → List (Note E)) (tally_of : S → ℕ → List ℕ) (fixed_of : S → F) where
  -- the value of a closed cell follows the last state of the seat at this place
  pub FollowsEach-at : (state : S) (number : ℕ) (seats : List (Seat S)) (place : ℕ) (seat : Seat S) → FollowsEach turns_of notes_of tally_of fixed_of state number seats → slice_get seats place ≡ Some seat
      → Follows turns_of notes_of tally_of fixed_of (number + place) (seat_view seat).last state
  FollowsEach-at state number [] place seat each at = absurd (cc)
  FollowsEach-at state number (x ∷ xs) zero seat each at =
      let same : x ≡ seat = cc in
      subst (λ (z : ℕ × Seat S). Follows turns_of notes_of tally_of fixed_of z.0 (seat_view z.1).last state) (λ i. (sym (add-zero number) i, same i)) each.0
  FollowsEach-at state number (x ∷ xs) (suc place) seat each at =
      let count : suc number + place ≡ number + suc place = omega arith in
      subst (λ (k : ℕ). Follows turns_of notes_of tally_of fixed_of k (seat_view seat).last state) count (FollowsEach-at state (suc number) xs place seat each.1 at)

module _ {S : Type 0} where
  -- one more seat, put back at the end
  pub AreIdleFrom-push : (cell : CellView) (number : ℕ) (seats : List (Seat S)) (seat : Seat S) → AreIdleFrom cell number seats → IsIdleOf cell (seat_view seat) → (seat_view seat).number ≡ number + length seats → AreIdleFrom cell number (seats ++ seat ∷ [])
  AreIdleFrom-push cell number [] seat idle own is = (own, is ∙ add-zero number, tt)
  AreIdleFrom-push cell number (x ∷ xs) seat idle own is =
      let count : number + suc (length xs) ≡ suc number + length xs = omega arith in
      (idle.0, idle.1, AreIdleFrom-push cell (suc number) xs seat idle.2 own (is ∙ count))

  -- each is a seat of the cell, in no turn
  pub AreIdleFrom-all : (cell : CellView) (number : ℕ) (seats : List (Seat S)) → AreIdleFrom cell number seats → All (λ seat. IsIdleOf cell (seat_view seat)) seats
  AreIdleFrom-all cell number [] idle = λ k d l. absurd (omega arith)
  AreIdleFrom-all cell number (x ∷ xs) idle = All-cons (λ seat. IsIdleOf cell (seat_view seat)) x xs idle.0 (AreIdleFrom-all cell (suc number) xs idle.2)

  -- seats that replace those of the cell one by one, each in no turn and under the same number
  pub AreIdleFrom-mapped : (cell : CellView) (number : ℕ) (olds news : List (Seat S)) → AreIdleFrom cell number olds → length news ≡ length olds
      → ((place : ℕ) (old new : Seat S) → slice_get olds place ≡ Some old → slice_get news place ≡ Some new → IsIdleOf cell (seat_view new) × ((seat_view new).number ≡ (seat_view old).number))
      → AreIdleFrom cell number news
  AreIdleFrom-mapped cell number [] [] idle count each = tt
  AreIdleFrom-mapped cell number [] (y ∷ ys) idle count each = absurd (omega arith)
  AreIdleFrom-mapped cell number (x ∷ xs) [] idle count each = absurd (omega arith)
  AreIdleFrom-mapped cell number (x ∷ xs) (y ∷ ys) idle count each =
      let here = each 0 x y refl refl in
      (here.0, here.1 ∙ idle.1, AreIdleFrom-mapped cell (suc number) xs ys idle.2 (omega arith) (λ place old new was is. each (suc place) old new was is))

  -- new seats are in no turn
  pub AreNewFrom-idle : (cell : CellView) (state : S) (number : ℕ) (seats : List (Seat S)) → AreNewFrom cell state number seats → AreIdleFrom cell number seats
  AreNewFrom-idle cell state number [] made = tt
  AreNewFrom-idle cell state number (x ∷ xs) made = ((ap (λ v. v.cell) made.0, ap (λ v. v.idle) made.0), ap (λ v. v.number) made.0, AreNewFrom-idle cell state (suc number) xs made.1)

  -- the new seat at this place
  pub AreNewFrom-at : (cell : CellView) (state : S) (number : ℕ) (seats : List (Seat S)) (place : ℕ) (seat : Seat S) → AreNewFrom cell state number seats → slice_get seats place ≡ Some seat → seat_view seat ≡ new_seat cell state (number + place)
  AreNewFrom-at cell state number [] place seat made at = absurd (cc)
  AreNewFrom-at cell state number (x ∷ xs) zero seat made at =
      let same : x ≡ seat = cc in
      ap seat_view (sym same) ∙ (made.0 ∙ ap (new_seat cell state) (sym (add-zero number)))
  AreNewFrom-at cell state number (x ∷ xs) (suc place) seat made at =
      let count : suc number + place ≡ number + suc place = omega arith in
      AreNewFrom-at cell state (suc number) xs place seat made.1 at ∙ ap (new_seat cell state) count

  -- one more new seat, at the end
  pub AreNewFrom-push : (cell : CellView) (state : S) (number : ℕ) (seats : List (Seat S)) (seat : Seat S) → AreNewFrom cell state number seats → seat_view seat ≡ new_seat cell state (number + length seats) → AreNewFrom cell state number (seats ++ seat ∷ [])
  AreNewFrom-push cell state number [] seat made is = (is ∙ ap (λ (k : ℕ). new_seat cell state k) (add-zero number), tt)
  AreNewFrom-push cell state number (x ∷ xs) seat made is =
      let count : number + suc (length xs) ≡ suc number + length xs = omega arith in
      (made.0, AreNewFrom-push cell state (suc number) xs seat made.1 (is ∙ ap (λ (k : ℕ). new_seat cell state k) count))
