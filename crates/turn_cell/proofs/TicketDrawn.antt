-- A seat draws a ticket, or looks how many turns have passed, and the rule holds again.
use Rattle.std.proofs.Common.{◌≡◌, ◌≢◌, ℕ, ◌+◌, ◌≤◌, eqb, List, [], ◌∷◌, set, get_or, Option, Some, None, refl, sym, ap, ◌∙◌, subst, ⊎_elim, inl, inr, arith}
use mathlib.Core.Logic.{dite}
use mathlib.Core.Option as maybe
use native.Mathlib.Decide.{ℕ_discrete}
use lib.ListN.{get_elem?}
use prog.Atomic.{either}
use Rattle.atomic_table.specs.Table.{State, Me, step, keeps, Allows}
use Rattle.atomic_table.proofs.Lists.{exchanged, set_else}
use Rattle.turn_cell.specs.declared.chronicle.Note.{Note}
use Rattle.turn_cell.specs.declared.view.Hold.TheVariants.{Free, Waits, Has}
use Rattle.turn_cell.specs.declared.view.Known.{Known}
use Rattle.turn_cell.specs.declared.view.View.{View}
use Rattle.turn_cell.specs.declared.view.View.TheVariants.{Active}
use Rattle.turn_cell.specs.StepOutcomes.{drew, looked}
use Rattle.turn_cell.specs.CellRule.{IsValuePlaced}
use Rattle.turn_cell.specs.Views.{IsActive, number_in, ticket_of, with_hold, with_turns}
use Rattle.turn_cell.proofs.SeatStep.{Rule, Goes, stays, between, moves}
use Rattle.turn_cell.proofs.ViewLemmas.{held_more, same_known, some_known, me_keeps}

module _ {S E F : Type 0} (turns_of : S → ℕ) (notes_of : S → List (Note E)) (tally_of : S → ℕ → List ℕ) (fixed_of : S → F) where
  abbrev R : ℕ → S → State (Option S) (View S) → Type 0
  R = Rule turns_of notes_of tally_of fixed_of

  -- a step of a seat that does not have the value leaves it where it is
  placed_set : (now : S) (homes : List (maybe.Option (Option S))) (views : List (View S)) (id : ℕ) (v w : Known S) → get_elem? views id ≡ maybe.some (Active v) → ((t : ℕ) (x : S) → v.hold ≢ Has t x)
      → IsValuePlaced turns_of notes_of tally_of fixed_of now homes views → IsValuePlaced turns_of notes_of tally_of fixed_of now homes (set views id (Active w))
  placed_set now homes views id v w at none placed = ⊎_elim
      (λ home. inl home)
      (λ out. let k : ℕ = out.1.0 in let u : Known S = out.1.1 in
      let other : k ≢ id = λ e. let there = subst (λ (j : ℕ). get_elem? views j ≡ maybe.some (Active u)) e out.1.2 in none (turns_of now) now (ap (λ (z : Known S). z.hold) (some_known v u (sym at ∙ there)) ∙ out.1.3) in
      inr (out.0, (k, u, set_else views id k (Active w) other ∙ out.1.2, out.1.3)))
      placed

  pub draws : (seats : ℕ) (first : S) (slots id : ℕ) (v : Known S) (old : ℕ) → v.hold ≡ Free
      → Allows (R seats first) slots id (Active v, []) 0 (λ n. either (eqb n old) (old + 1) n) (drew (step slots 0 old (old + 1) maybe.none) (Active v, []))
  draws seats first slots id v old free s r wide at _ =
      let n : ℕ = get_or s.words 0 0 in
      let told = drew (step slots 0 old (old + 1) maybe.none) (Active v, []) in
      let f = r.fits id v at in
      let is : n ≡ r.ticket = ap (λ (ws : List ℕ). get_or ws 0 0) r.words in
      exchanged n old (old + 1) (Goes turns_of notes_of tally_of fixed_of seats first s 0 id (Active v, []) told)
      (λ hit. (
        Active (with_hold v (Waits old)),
        keeps,
        tt,
        moves turns_of notes_of tally_of fixed_of seats first s r id v at (set s.words 0 (old + 1)) s.homes r.now (old + 1) v.turns v.last (Waits old)
            (ap (λ (ws : List ℕ). set ws 0 (old + 1)) r.words)
            (let due = r.due in omega arith)
            (placed_set r.now s.homes s.views id v (with_hold v (Waits old)) at (λ t x e. let both : Free ≡ Has t x = sym free ∙ e in absurd (cc)) r.placed)
            (λ k u other e. held_more turns_of notes_of tally_of fixed_of r.now r.ticket (old + 1) u.hold (omega arith) (r.fits k u e).held)
            (λ k x other e. e)
            (omega arith)
            f.follows
            f.looked
            (let due = r.due in (omega arith, omega arith))
            f.lone
            (λ t e k u other e' held. let b = between turns_of notes_of tally_of fixed_of seats first s r k u t e' held in let same : old ≡ t = cc in let c = b.1 in absurd (omega arith))
            r.owned,
        λ v' e h c. ((λ _. ap (λ (u : Known S). let m : Me (Option S) (View S) = (Active (with_hold u (Waits old)), []) in m) (same_known v v' e)), (λ miss. absurd (miss hit))),
      ))
      (λ miss. (
        Active v,
        keeps,
        tt,
        stays turns_of notes_of tally_of fixed_of seats first s r 0 id [] (Active v) at,
        λ v' e h c. ((λ hit. absurd (miss hit)), (λ _. refl)),
      ))

  pub looks : (seats : ℕ) (first : S) (slots id : ℕ) (v : Known S) → v.hold ≡ Free
      → Allows (R seats first) slots id (Active v, []) 1 (λ n. n) (looked (step slots 1 0 0 maybe.none) (Active v, []))
  looks seats first slots id v free s r wide at _ =
      let n : ℕ = get_or s.words 1 0 in
      let f = r.fits id v at in
      let is : n ≡ turns_of r.now = ap (λ (ws : List ℕ). get_or ws 1 0) r.words in
      let seen = f.looked in (
        Active (with_turns v n),
        keeps,
        tt,
        moves turns_of notes_of tally_of fixed_of seats first s r id v at (set s.words 1 n) s.homes r.now r.ticket n v.last v.hold
            (ap (λ (ws : List ℕ). set ws 1 n) r.words ∙ ap (λ (k : ℕ). r.ticket ∷ k ∷ []) is)
            r.due
            (placed_set r.now s.homes s.views id v (with_turns v n) at (λ t x e. let both : Free ≡ Has t x = sym free ∙ e in absurd (cc)) r.placed)
            (λ k u other e. (r.fits k u e).held)
            (λ k x other e. e)
            (omega arith)
            f.follows
            (omega arith)
            f.held
            f.lone
            (λ t e k u other e' held. let both : None ≡ Some t = ap ticket_of (sym free) ∙ e in absurd (cc))
            r.owned,
        λ v' e h c. let same = same_known v v' e in (
          ap (λ (u : Known S). let m : Me (Option S) (View S) = (Active (with_turns u n), []) in m) same,
          subst (λ (u : Known S). u.turns ≤ n) same (omega arith),
        ),
      )

  pub draws_as : (seats : ℕ) (first : S) (slots id : ℕ) (m : Me (Option S) (View S)) (v : Known S) (old : ℕ) → m ≡ (Active v, []) → v.hold ≡ Free
      → Allows (R seats first) slots id m 0 (λ n. either (eqb n old) (old + 1) n) (drew (step slots 0 old (old + 1) maybe.none) m)
  draws_as seats first slots id m v old is free =
      subst (λ (m : Me (Option S) (View S)). Allows (R seats first) slots id m 0 (λ n. either (eqb n old) (old + 1) n) (drew (step slots 0 old (old + 1) maybe.none) m)) (sym is) (draws seats first slots id v old free)

  pub looks_as : (seats : ℕ) (first : S) (slots id : ℕ) (m : Me (Option S) (View S)) (v : Known S) → m ≡ (Active v, []) → v.hold ≡ Free
      → Allows (R seats first) slots id m 1 (λ n. n) (looked (step slots 1 0 0 maybe.none) m)
  looks_as seats first slots id m v is free =
      subst (λ (m : Me (Option S) (View S)). Allows (R seats first) slots id m 1 (λ n. n) (looked (step slots 1 0 0 maybe.none) m)) (sym is) (looks seats first slots id v free)

module _ {S : Type 0} where
  -- what a draw tells a seat that knows v
  pub drawn : (old : ℕ) (m : Me (Option S) (View S)) (v : Known S) (r : ℕ) (m' : Me (Option S) (View S)) → m ≡ (Active v, []) → v.hold ≡ Free → drew (step 0 0 old 0 maybe.none) m r m'
      → (r ≡ old → m' ≡ (Active (with_hold v (Waits old)), [])) × (r ≢ old → m' ≡ (Active v, []))
  drawn old m v r m' is free told =
      let t = told v (ap (λ (m : Me (Option S) (View S)). m.0) is) free (ap (λ (m : Me (Option S) (View S)). m.1) is) in
      (t.0, λ miss. t.1 miss ∙ is)

  -- after a draw the seat is active, under its number
  pub drawn_keeps : (old : ℕ) (number : ℕ) (m : Me (Option S) (View S)) (v : Known S) (r : ℕ) (m' : Me (Option S) (View S)) → number ≡ number_in m.0 → m ≡ (Active v, []) → v.hold ≡ Free → drew (step 0 0 old 0 maybe.none) m r m'
      → IsActive m'.0 × (number ≡ number_in m'.0)
  drawn_keeps old number m v r m' numbered is free told =
      let t = drawn old m v r m' is free told in
      dite (ℕ_discrete r old)
      (λ hit. me_keeps number m m' v (with_hold v (Waits old)) [] [] numbered is (t.0 hit) refl)
      (λ miss. me_keeps number m m' v v [] [] numbered is (t.1 miss) refl)
