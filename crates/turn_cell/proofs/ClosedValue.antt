-- The value of a closed cell.
use Rattle.std.proofs.Common.{◌≡◌, ℕ, suc, ◌+◌, List, [], ◌∷◌, ◌++◌, length, Option, Some, refl, sym, ap, ◌∙◌, subst, arith}
use mathlib.Core.Option as maybe
use lib.ListN.{get_elem?}
use Rattle.std.specs.Option.{IsSome}
use Rattle.atomic_table.specs.Table.{State, Final, Seen}
use Rattle.turn_cell.specs.declared.chronicle.Note.{Note}
use Rattle.turn_cell.specs.declared.seat.Seat.{Seat}
use Rattle.turn_cell.specs.declared.view.Known.{Known}
use Rattle.turn_cell.specs.declared.view.View.{View}
use Rattle.turn_cell.specs.declared.view.View.TheVariants.{Active}
use Rattle.turn_cell.specs.Seats.{CellView, AreSeatsOf, Closes, last_states, known}
use Rattle.turn_cell.proofs.CellEnd.{ends}
use Rattle.turn_cell.proofs.SeatStep.{Rule}
use Rattle.turn_cell.proofs.ClosedSeats.{closes, front, is_idle, numbers}
use Rattle.turn_cell.proofs.SeatViewLemmas.{number_is}

empty_is : {A : Type 0} (xs : List A) → length xs ≡ 0 → xs ≡ []
empty_is [] e = refl
empty_is (x ∷ xs) e = absurd (omega arith)

length-states : {S : Type 0} (seats : List (Seat S)) → length (last_states seats) ≡ length seats
length-states [] = refl
length-states (seat ∷ seats) = ap suc (length-states seats)

some_slot : {S : Type 0} (x y : Option S) → maybe.some x ≡ maybe.some y → x ≡ y
some_slot x y e = cc

some_value : {S : Type 0} (x y : S) → Some x ≡ Some y → x ≡ y
some_value x y e = cc

module _ {S E F : Type 0} (turns_of : S → ℕ) (notes_of : S → List (Note E)) (tally_of : S → ℕ → List ℕ) (fixed_of : S → F) where
  abbrev R : ℕ → S → State (Option S) (View S) → Type 0
  R = Rule turns_of notes_of tally_of fixed_of

  -- all seats but the first were taken in by it
  pub record Gathered (cell : CellView) (state : S) (id : ℕ) (all rest left gone : List (Seat S)) (first : Seat S) (me : View S) (ws : List ℕ) (xs : List (Option S)) : Type 0 where
    pub seats : AreSeatsOf cell all
    pub whole : all ≡ first ∷ rest
    pub parts : rest ≡ left ++ gone
    pub none : length left ≡ 0
    pub knows : me ≡ Active (record (known first) { joined = last_states gone ++ (known first).joined })
    pub final : Final (Seen (R cell.seats state) id me) ws xs

  pub value_in : (cell : CellView) (state : S) (id : ℕ) (all rest left gone : List (Seat S)) (first : Seat S) (me : View S) (ws : List ℕ) (xs : List (Option S)) → Gathered cell state id all rest left gone first me ws xs
      → (x : S) × (get_elem? xs 0 ≡ maybe.some (Some x)) × Closes turns_of notes_of tally_of fixed_of all x
  value_in cell state id all rest left gone first me ws xs h =
      let same : rest ≡ gone = h.parts ∙ ap (λ l. l ++ gone) (empty_is left h.none) in
      let idle = front cell all first rest h.seats.1 h.whole in
      let free = is_idle cell first idle.0 in
      let me_is = h.knows ∙ ap (λ (l : List (Seat S)). let v : Known S = record (known first) { joined = last_states l ++ (known first).joined } in let w : View S = Active v in w) (sym same) in
      let number = sym (first.numbered ∙ number_is first.token.me.0 first.active) ∙ idle.1 in
      let size : length (first ∷ rest) ≡ cell.seats = sym (ap length h.whole) ∙ h.seats.0 in
      let count : length (last_states rest) + 1 ≡ cell.seats = omega (arith, length-states rest) in
      let e = ends turns_of notes_of tally_of fixed_of cell.seats state id me (known first) (last_states rest) ws xs me_is free.0 number (numbers cell 1 rest idle.2) count h.final in
      (e.0, e.1, closes turns_of notes_of tally_of fixed_of cell all rest first e.0 h.seats h.whole e.2)

  pub there_is : (cell : CellView) (state : S) (id : ℕ) (all rest left gone : List (Seat S)) (first : Seat S) (me : View S) (ws : List ℕ) (xs : List (Option S)) (slot : Option S) → Gathered cell state id all rest left gone first me ws xs
      → get_elem? xs 0 ≡ maybe.some slot → IsSome slot
  there_is cell state id all rest left gone first me ws xs slot h at =
      let v = value_in cell state id all rest left gone first me ws xs h in
      subst (λ (x : Option S). IsSome x) (some_slot (Some v.0) slot (sym v.1 ∙ at)) refl

  pub closed_with : (cell : CellView) (state : S) (id : ℕ) (all rest left gone : List (Seat S)) (first : Seat S) (me : View S) (ws : List ℕ) (xs : List (Option S)) (slot : Option S) (x : S) → Gathered cell state id all rest left gone first me ws xs
      → get_elem? xs 0 ≡ maybe.some slot → slot ≡ Some x → Closes turns_of notes_of tally_of fixed_of all x
  closed_with cell state id all rest left gone first me ws xs slot x h at is =
      let v = value_in cell state id all rest left gone first me ws xs h in
      subst (Closes turns_of notes_of tally_of fixed_of all) (some_value v.0 x (some_slot (Some v.0) slot (sym v.1 ∙ at) ∙ is)) v.2
