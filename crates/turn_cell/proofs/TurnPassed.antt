-- A turn passes, and the rule holds again.
use Rattle.std.proofs.Common.{◌≡◌, ◌≢◌, ℕ, ◌+◌, ◌<◌, List, [], ◌∷◌, length, set, Option, Some, refl, sym, ap, ◌∙◌, subst, ⊎_elim, inl, arith}
use mathlib.Core.Option as maybe
use Rattle.atomic_table.specs.Table.{State, Me, step, gives, Allows}
use Rattle.turn_cell.specs.declared.chronicle.Note.{Note}
use Rattle.turn_cell.specs.declared.view.Hold.{Hold}
use Rattle.turn_cell.specs.declared.view.Hold.TheVariants.{Free, Waits, Has}
use Rattle.turn_cell.specs.declared.view.Known.{Known}
use Rattle.turn_cell.specs.declared.view.View.{View}
use Rattle.turn_cell.specs.declared.view.View.TheVariants.{Active}
use Rattle.turn_cell.specs.Histories.{Leaves}
use Rattle.turn_cell.specs.Notes.{AreBelow}
use Rattle.turn_cell.specs.StepOutcomes.{advanced}
use Rattle.turn_cell.specs.CellRule.{HoldFits, IsOwned, IsValuePlaced}
use Rattle.turn_cell.specs.Views.{ticket_of, ticket_in, after_turn}
use Rattle.turn_cell.proofs.HistoryLemmas.{Follows-refl, leaves_follow}
use Rattle.turn_cell.proofs.SeatStep.{Rule, moves}
use Rattle.turn_cell.proofs.NoteLemmas.{below_own, below_append}
use Rattle.turn_cell.proofs.ViewLemmas.{inside, same_known}
use Rattle.turn_cell.proofs.ValueTaken.{held_or, some_is}

module _ {S E F : Type 0} (turns_of : S → ℕ) (notes_of : S → List (Note E)) (tally_of : S → ℕ → List ℕ) (fixed_of : S → F) where
  abbrev R : ℕ → S → State (Option S) (View S) → Type 0
  R = Rule turns_of notes_of tally_of fixed_of

  abbrev Held : S → ℕ → Hold S → Type 0
  Held = HoldFits turns_of notes_of tally_of fixed_of

  -- a ticket that is not the one served is held still once the next is served
  held_next : (now y : S) (ticket t : ℕ) (h : Hold S) → turns_of now ≡ t → turns_of y ≡ t + 1 → ticket_of h ≢ Some t → Held now ticket h → Held y ticket h
  held_next now y ticket t Free was is other held = tt
  held_next now y ticket t (Waits u) was is other held =
      let ne : u ≢ t = λ e. other (ap (λ (n : ℕ). Some n) e) in
      let a = held.0 in
      (omega arith, held.1)
  held_next now y ticket t (Has u x) was is other held = absurd (other (ap (λ (n : ℕ). Some n) (held.0 ∙ was)))

  given_back : (now : S) (homes : List (maybe.Option (Option S))) (views : List (View S)) (z : maybe.Option (Option S)) → IsValuePlaced turns_of notes_of tally_of fixed_of now homes views → set homes 0 z ≡ z ∷ []
  given_back now homes views z placed = ⊎_elim (λ home. ap (λ hs. set hs 0 z) home) (λ out. ap (λ hs. set hs 0 z) out.0) placed

  owned_after : (first now y : S) (count id : ℕ) → id < count → Leaves turns_of notes_of tally_of fixed_of id now y → IsOwned turns_of notes_of tally_of fixed_of first now count → IsOwned turns_of notes_of tally_of fixed_of first y count
  owned_after first now y count id lt turn owned = record {
    notes = subst (AreBelow count) (sym turn.notes) (below_append count (notes_of now) turn.more owned.notes (below_own (turns_of now) id count turn.more lt turn.own));
    tallies = λ number le. turn.others number (λ e. omega arith) ∙ owned.tallies number le;
    fixed = turn.fixed ∙ owned.fixed;
  }

  tells : (n t : ℕ) (v : Known S) (x y : S) → v.hold ≡ Has t x → advanced (step 0 1 n 0 maybe.none) (Active v, (0, Some y) ∷ []) n (Active (after_turn v t y), [])
  tells n t v x y has v' t' x' y' e h c =
      let same : v ≡ v' = same_known v v' e in
      let both : Has t x ≡ Has t' x' = sym has ∙ (ap (λ (z : Known S). z.hold) same ∙ h) in
      let ticket : t ≡ t' = cc in
      let value : y ≡ y' = some_is y y' (ap (held_or (Some y)) c) in
      λ i. (Active (after_turn (same i) (ticket i) (value i)), [])

  pub leaves_it : (seats : ℕ) (first : S) (slots id : ℕ) (v : Known S) (t : ℕ) (x y : S) → v.hold ≡ Has t x → Leaves turns_of notes_of tally_of fixed_of v.number x y
      → Allows (R seats first) slots id (Active v, (0, Some y) ∷ []) 1 (λ _. t + 1) (λ _. advanced (step slots 1 (t + 1) 0 maybe.none) (Active v, (0, Some y) ∷ []) (t + 1))
  leaves_it seats first slots id v t x y has turn s r wide at _ =
      let f = r.fits id v at in
      let held = subst (λ (h : Hold S). Held r.now r.ticket h) has f.held in
      let served : turns_of r.now ≡ t = sym held.0 in
      let mine : ticket_in (Active v) ≡ Some t = ap ticket_of has in
      let turn' = subst (λ (z : ℕ × S). Leaves turns_of notes_of tally_of fixed_of z.0 z.1 y) (λ i. (f.numbered i, held.2 i)) turn in
      let next : turns_of y ≡ t + 1 = turn'.turns ∙ ap (λ (k : ℕ). k + 1) served in
      let w : Known S = after_turn v t y in
      let drawn = held.1 in (
        Active w,
        gives,
        tt,
        moves turns_of notes_of tally_of fixed_of seats first s r id v at (set s.words 1 (t + 1)) (set s.homes 0 (maybe.some (Some y))) y r.ticket (t + 1) y Free
            (ap (λ (ws : List ℕ). set ws 1 (t + 1)) r.words ∙ ap (λ (k : ℕ). r.ticket ∷ k ∷ []) (sym next))
            (omega arith)
            (inl (given_back r.now s.homes s.views (maybe.some (Some y)) r.placed))
            (λ k u other e. held_next r.now y r.ticket t u.hold served next (λ theirs. other (r.apart k id t (Active u) (Active v) e at theirs mine)) (r.fits k u e).held)
            (λ k z other e. leaves_follow turns_of notes_of tally_of fixed_of id k z r.now y other turn' e)
            (omega arith)
            (Follows-refl turns_of notes_of tally_of fixed_of id y)
            (omega arith)
            tt
            (λ _. refl)
            (λ t' e k u other e' theirs. absurd (cc))
            (owned_after first r.now y (length s.views) id (inside s.views id (Active v) at) turn' r.owned),
        tells (t + 1) t v x y has,
      )

  pub leaves_as : (seats : ℕ) (first : S) (slots id : ℕ) (m : Me (Option S) (View S)) (v : Known S) (t : ℕ) (x y : S) → m ≡ (Active v, (0, Some y) ∷ []) → v.hold ≡ Has t x → Leaves turns_of notes_of tally_of fixed_of v.number x y
      → Allows (R seats first) slots id m 1 (λ _. t + 1) (λ _. advanced (step slots 1 (t + 1) 0 maybe.none) m (t + 1))
  leaves_as seats first slots id m v t x y is has turn =
      subst (λ (m : Me (Option S) (View S)). Allows (R seats first) slots id m 1 (λ _. t + 1) (λ _. advanced (step slots 1 (t + 1) 0 maybe.none) m (t + 1))) (sym is) (leaves_it seats first slots id v t x y has turn)
