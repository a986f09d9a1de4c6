-- A seat takes in another, and the rule holds again.
use Rattle.std.proofs.Common.{◌≡◌, ◌≢◌, ℕ, List, ◌∷◌, length, set, Option, Some, None, sym, ap, ◌∙◌, subst, ⊎_elim, inl, inr, arith, length-set}
use mathlib.Core.Option as maybe
use lib.ListN.{get_elem?}
use Rattle.atomic_table.specs.Table.{State, Joins}
use Rattle.atomic_table.proofs.Lists.{at_set, set_else, set_here}
use Rattle.turn_cell.specs.declared.chronicle.Note.{Note}
use Rattle.turn_cell.specs.declared.view.Hold.TheVariants.{Free, Has}
use Rattle.turn_cell.specs.declared.view.Known.{Known}
use Rattle.turn_cell.specs.declared.view.View.{View}
use Rattle.turn_cell.specs.declared.view.View.TheVariants.{Active, Spent}
use Rattle.turn_cell.specs.Histories.{Follows}
use Rattle.turn_cell.specs.CellRule.{IsOwned, taken_in}
use Rattle.turn_cell.specs.Views.{ticket_in}
use Rattle.turn_cell.proofs.SeatMade.{apart_from}
use Rattle.turn_cell.proofs.SeatStep.{Rule, Fit}
use Rattle.turn_cell.proofs.ViewLemmas.{inside, same_known, some_known, spent_active, spent_stays, taken_moves}

module _ {S E F : Type 0} (turns_of : S → ℕ) (notes_of : S → List (Note E)) (tally_of : S → ℕ → List ℕ) (fixed_of : S → F) where
  abbrev R : ℕ → S → State (Option S) (View S) → Type 0
  R = Rule turns_of notes_of tally_of fixed_of

  pub joins : (seats : ℕ) (first : S) (id other : ℕ) (v w : Known S) → v.hold ≡ Free → w.hold ≡ Free → Joins (R seats first) id (Active v) other (Active w) (taken_in (Active v) (Active w)) Spent
  joins seats first id other v w free free' s r at apart at' =
      let y : Known S = record v { joined = (w.number, w.last) ∷ v.joined } in
      let views : List (View S) = set s.views id (Active y) in
      let views' : List (View S) = set views other Spent in
      let size : length views' ≡ length s.views = length-set views other Spent ∙ length-set s.views id (Active y) in
      let there : get_elem? s.views other ≡ maybe.some (Active w) = sym (set_else s.views id other (Active y) apart) ∙ at' in
      let f = r.fits id v at in
      let o = r.fits other w there in
      let gone : get_elem? views' other ≡ maybe.some Spent = set_here views other Spent (inside views other (Active w) at') in
      let stays = λ (j : ℕ) (spent : get_elem? s.views j ≡ maybe.some Spent). set_else views other j Spent (spent_active w s.views j other spent there) ∙ spent_stays v (Active y) s.views id at j spent in
      let took = taken_moves turns_of notes_of tally_of fixed_of r.now r.now s.views views' stays (λ j x _ h. h) in
      let Fit' : ℕ → Known S → Type 0 = Fit turns_of notes_of tally_of fixed_of seats r.now r.ticket views' in
      record {
        now = r.now;
        ticket = r.ticket;
        words = r.words;
        due = r.due;
        placed = ⊎_elim
            (λ home. inl home)
            (λ out. let k : ℕ = out.1.0 in let u : Known S = out.1.1 in
            let not_id : k ≢ id = λ e.
            let same = subst (λ (j : ℕ). get_elem? s.views j ≡ maybe.some (Active u)) e out.1.2 in
            let both : Free ≡ Has (turns_of r.now) r.now = sym free ∙ (ap (λ (q : Known S). q.hold) (some_known v u (sym at ∙ same)) ∙ out.1.3) in
            absurd (cc) in
            let not_other : k ≢ other = λ e.
            let same = subst (λ (j : ℕ). get_elem? s.views j ≡ maybe.some (Active u)) e out.1.2 in
            let both : Free ≡ Has (turns_of r.now) r.now = sym free' ∙ (ap (λ (q : Known S). q.hold) (some_known w u (sym there ∙ same)) ∙ out.1.3) in
            absurd (cc) in
            inr (out.0, (k, u, set_else views other k Spent not_other ∙ (set_else s.views id k (Active y) not_id ∙ out.1.2), out.1.3)))
            r.placed;
        fits = λ k u e. ⊎_elim
            (λ (x : (k ≡ other) × (Spent ≡ Active u)). let no : Spent ≡ Active u = x.1 in absurd (cc))
            (λ (x : (k ≢ other) × (get_elem? views k ≡ maybe.some (Active u))). ⊎_elim
            (λ (h : (k ≡ id) × (Active y ≡ Active u)). subst (λ (q : ℕ × Known S). Fit' q.0 q.1) (λ i. (sym h.0 i, same_known y u h.1 i)) record {
              numbered = f.numbered;
              within = f.within;
              sized = f.sized;
              follows = f.follows;
              looked = f.looked;
              held = f.held;
              lone = f.lone;
              counted = λ z. f.counted z ∙ sym size;
              took_in = (
                subst (λ (j : ℕ). get_elem? views' j ≡ maybe.some Spent) (sym o.numbered) gone,
                subst (λ (j : ℕ). Follows turns_of notes_of tally_of fixed_of j w.last r.now) (sym o.numbered) o.follows,
                took v.joined f.took_in,
              );
            })
            (λ (h : (k ≢ id) × (get_elem? s.views k ≡ maybe.some (Active u))). let g = r.fits k u h.1 in record {
              numbered = g.numbered;
              within = g.within;
              sized = g.sized;
              follows = g.follows;
              looked = g.looked;
              held = g.held;
              lone = g.lone;
              counted = λ z. g.counted z ∙ sym size;
              took_in = took u.joined g.took_in;
            })
            (at_set s.views id k (Active y) (Active u) x.1))
            (at_set views other k Spent (Active u) e);
        apart = apart_from s.views views'
            (λ k t u e has. ⊎_elim
            (λ (x : (k ≡ other) × (Spent ≡ u)). let none : None ≡ Some t = ap ticket_in x.1 ∙ has in absurd (cc))
            (λ (x : (k ≢ other) × (get_elem? views k ≡ maybe.some u)). ⊎_elim
            (λ (h : (k ≡ id) × (Active y ≡ u)). (Active v, subst (λ (j : ℕ). get_elem? s.views j ≡ maybe.some (Active v)) (sym h.0) at, ap ticket_in h.1 ∙ has))
            (λ (h : (k ≢ id) × (get_elem? s.views k ≡ maybe.some u)). (u, h.1, has))
            (at_set s.views id k (Active y) u x.1))
            (at_set views other k Spent u e))
            r.apart;
        roomy = let small = r.roomy in omega arith;
        owned = subst (λ (n : ℕ). IsOwned turns_of notes_of tally_of fixed_of first r.now n) (sym size) r.owned;
        fresh = r.fresh;
      }

  pub joins_as : (seats : ℕ) (first : S) (id other : ℕ) (a b : View S) (v w : Known S) → a ≡ Active v → b ≡ Active w → v.hold ≡ Free → w.hold ≡ Free → Joins (R seats first) id a other b (taken_in a b) Spent
  joins_as seats first id other a b v w is is' free free' = subst (λ (z : View S × View S). Joins (R seats first) id z.0 other z.1 (taken_in z.0 z.1) Spent) (λ i. (sym is i, sym is' i)) (joins seats first id other v w free free')
