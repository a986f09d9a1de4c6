-- The seats that a cell is closed with, in the order of their numbers.
use Rattle.std.proofs.Common.{◌≡◌, ℕ, suc, ◌<◌, ◌≤◌, List, [], ◌∷◌, ◌++◌, length, get_or, sym, ap, ◌∙◌, subst, arith, append_assoc}
use Rattle.std.specs.List.{remove}
use Rattle.turn_cell.specs.declared.chronicle.Note.{Note}
use Rattle.turn_cell.specs.declared.seat.Seat.{Seat}
use Rattle.turn_cell.specs.Histories.{Follows}
use Rattle.turn_cell.specs.Notes.{AreBelow}
use Rattle.turn_cell.specs.Seats.{CellView, AreIdleFrom, AreSeatsOf, Closes, IsIdle, IsIdleOf, FollowsEach, last_states, seat_view, known}
use Rattle.turn_cell.proofs.CellEnd.{AreNumbered, Ends, FollowsAll}
use Rattle.turn_cell.proofs.SeatViewLemmas.{free_and, number_is}

removed_first : {A : Type 0} (xs : List A) (x : A) → 0 < length xs → x ≡ get_or xs 0 x → xs ≡ x ∷ remove xs 0
removed_first [] x some e = absurd (omega arith)
removed_first (y ∷ ys) x some e = λ i. sym e i ∷ ys

-- the first of the seats, and the others
pub whole_of : {A : Type 0} (count : ℕ) (all rest : List A) (first : A) → length all ≡ count → 1 ≤ count → first ≡ get_or all 0 first → rest ≡ remove all 0 → all ≡ first ∷ rest
whole_of count all rest first size some is others = removed_first all first (omega arith) is ∙ ap (λ l. first ∷ l) (sym others)

module _ {S : Type 0} where
  pub idle_in : (cell : CellView) (number : ℕ) (xs : List (Seat S)) (seat : Seat S) (ys : List (Seat S)) → AreIdleFrom cell number (xs ++ seat ∷ ys) → IsIdleOf cell (seat_view seat)
  idle_in cell number [] seat ys idle = idle.0
  idle_in cell number (x ∷ xs) seat ys idle = idle_in cell (suc number) xs seat ys idle.2

  pub front : (cell : CellView) (all : List (Seat S)) (first : Seat S) (rest : List (Seat S)) → AreIdleFrom cell 0 all → all ≡ first ∷ rest → AreIdleFrom cell 0 (first ∷ rest)
  front cell all first rest idle whole = subst (AreIdleFrom cell 0) whole idle

  -- a seat that is taken off the end of those that are left
  pub next_idle : (cell : CellView) (rest xs gone ys : List (Seat S)) (seat : Seat S) → AreIdleFrom cell 1 rest → rest ≡ xs ++ gone → xs ≡ ys ++ seat ∷ [] → IsIdleOf cell (seat_view seat)
  next_idle cell rest xs gone ys seat idle parts last =
      let e : rest ≡ ys ++ seat ∷ gone = parts ∙ (ap (λ l. l ++ gone) last ∙ append_assoc ys (seat ∷ []) gone) in
      idle_in cell 1 ys seat gone (subst (AreIdleFrom cell 1) e idle)

  pub is_idle : (cell : CellView) (seat : Seat S) → IsIdleOf cell (seat_view seat) → IsIdle seat
  is_idle cell seat idle = free_and (known seat).hold seat.token.me.1 idle.1

  pub numbers : (cell : CellView) (number : ℕ) (seats : List (Seat S)) → AreIdleFrom cell number seats → AreNumbered number (last_states seats)
  numbers cell number [] idle = tt
  numbers cell number (seat ∷ seats) idle = (sym (seat.numbered ∙ number_is seat.token.me.0 seat.active) ∙ idle.1, numbers cell (suc number) seats idle.2)

module _ {S E F : Type 0} (turns_of : S → ℕ) (notes_of : S → List (Note E)) (tally_of : S → ℕ → List ℕ) (fixed_of : S → F) where
  pub follows_each : (cell : CellView) (now : S) (number : ℕ) (seats : List (Seat S)) → AreIdleFrom cell number seats → FollowsAll turns_of notes_of tally_of fixed_of now (last_states seats) → FollowsEach turns_of notes_of tally_of fixed_of now number seats
  follows_each cell now number [] idle follows = tt
  follows_each cell now number (seat ∷ seats) idle follows = (
    subst (λ (k : ℕ). Follows turns_of notes_of tally_of fixed_of k (seat_view seat).last now) (sym (seat.numbered ∙ number_is seat.token.me.0 seat.active) ∙ idle.1) follows.0,
    follows_each cell now (suc number) seats idle.2 follows.1,
  )

  pub closes : (cell : CellView) (all rest : List (Seat S)) (first : Seat S) (x : S) → AreSeatsOf cell all → all ≡ first ∷ rest → Ends turns_of notes_of tally_of fixed_of cell.seats (known first).last (last_states rest) x
      → Closes turns_of notes_of tally_of fixed_of all x
  closes cell all rest first x seats whole ends =
      let idle = front cell all first rest seats.1 whole in
      let count : length (first ∷ rest) ≡ cell.seats = sym (ap length whole) ∙ seats.0 in
      subst (λ (l : List (Seat S)). Closes turns_of notes_of tally_of fixed_of l x) (sym whole) record {
        follows = (ends.first, follows_each cell x 1 rest idle.2 ends.rest);
        below = subst (λ (n : ℕ). AreBelow n (notes_of x)) (sym count) ends.below;
        zeros = λ number le. ends.zeros number (omega arith);
        lone = λ seat e. let one : length (first ∷ rest) ≡ 1 = ap length e in ends.lone (sym count ∙ one) ∙ ap (λ (seat : Seat S). (seat_view seat).last) (first_is first seat rest e);
      }
    where
      first_is : (a b : Seat S) (xs : List (Seat S)) → a ∷ xs ≡ b ∷ [] → a ≡ b
      first_is a b xs e = cc
