-- Seat 0 makes another seat, and the rule holds again.
use Rattle.std.proofs.Common.{◌≡◌, ◌≢◌, ◌⊎◌, ℕ, zero, suc, ◌+◌, ◌<◌, ◌≤◌, List, [], ◌∷◌, ◌++◌, length, set, Option, Some, None, refl, sym, ap, ◌∙◌, subst, ⊎_elim, inl, inr, arith, length-set, length-append}
use mathlib.Core.Option as maybe
use lib.ListN.{get_elem?}
use Rattle.atomic_table.specs.Table.{State, Me, Splits}
use Rattle.atomic_table.proofs.Lists.{at_set, set_else, at_longer}
use Rattle.turn_cell.specs.declared.chronicle.Note.{Note}
use Rattle.turn_cell.specs.declared.view.Hold.TheVariants.{Free, Has}
use Rattle.turn_cell.specs.declared.view.Known.{Known}
use Rattle.turn_cell.specs.declared.view.View.{View}
use Rattle.turn_cell.specs.declared.view.View.TheVariants.{Active, Spent}
use Rattle.turn_cell.specs.Histories.{Follows, IsFresh}
use Rattle.turn_cell.specs.Notes.{notes_by}
use Rattle.turn_cell.specs.CellRule.{AreTicketsApart, IsOwned, dealer, dealing, new_view, newcomer}
use Rattle.turn_cell.specs.Views.{ticket_in}
use Rattle.turn_cell.proofs.SeatStep.{Rule, Fit}
use Rattle.turn_cell.proofs.NoteLemmas.{below_more, none_above}
use Rattle.turn_cell.proofs.ViewLemmas.{inside, same_known, some_known, spent_stays, taken_moves}

pub at_end : {A : Type 0} (l : List A) (a b : A) (j : ℕ) → get_elem? (l ++ a ∷ []) j ≡ maybe.some b → (get_elem? l j ≡ maybe.some b) ⊎ ((j ≡ length l) × (a ≡ b))
at_end [] a b zero e = inr (refl, maybe.some-injective a b e)
at_end [] a b (suc j) e = absurd (cc)
at_end (x ∷ xs) a b zero e = inl e
at_end (x ∷ xs) a b (suc j) e = ⊎_elim (λ h. inl h) (λ h. let k = h.0 in inr (omega arith, h.1)) (at_end xs a b j e)

module _ {S : Type 0} where
  -- the tickets in these views are in those
  pub apart_from : (views views' : List (View S)) → ((k t : ℕ) (u : View S) → get_elem? views' k ≡ maybe.some u → ticket_in u ≡ Some t → (u' : View S) × (get_elem? views k ≡ maybe.some u') × (ticket_in u' ≡ Some t)) → AreTicketsApart views → AreTicketsApart views'
  apart_from views views' from apart i j t a b ai aj ta tb =
      let x = from i t a ai ta in
      let y = from j t b aj tb in
      apart i j t x.0 y.0 x.1 y.1 x.2 y.2

module _ {S E F : Type 0} (turns_of : S → ℕ) (notes_of : S → List (Note E)) (tally_of : S → ℕ → List ℕ) (fixed_of : S → F) where
  abbrev R : ℕ → S → State (Option S) (View S) → Type 0
  R = Rule turns_of notes_of tally_of fixed_of

  -- the value follows the first state for a number that no seat has had
  new_follows : (first now : S) (count number : ℕ) → count ≤ number → IsFresh turns_of notes_of tally_of first → IsOwned turns_of notes_of tally_of fixed_of first now count → Follows turns_of notes_of tally_of fixed_of number first now
  new_follows first now count number le fresh owned = let a = fresh.turns in record {
    later = omega arith;
    seen = (notes_of now, ap (λ l. l ++ notes_of now) fresh.notes);
    mine = none_above count number (notes_of now) le owned.notes ∙ ap (notes_by number) (sym fresh.notes);
    tally = owned.tallies number le;
    fixed = owned.fixed;
  }

  pub owned_more : (first now : S) (m n : ℕ) → m ≤ n → IsOwned turns_of notes_of tally_of fixed_of first now m → IsOwned turns_of notes_of tally_of fixed_of first now n
  owned_more first now m n le owned = record {
    notes = below_more m n (notes_of now) le owned.notes;
    tallies = λ number h. owned.tallies number (omega arith);
    fixed = owned.fixed;
  }

  pub deals : (seats : ℕ) (first : S) (id n : ℕ) → n < seats → Splits (R seats first) id (dealing n seats first) (dealing (n + 1) seats first) (new_view n seats first)
  deals seats first id n room s r at =
      let v : Known S = record { number = 0; seats = seats; dealt = n; turns = 0; last = first; hold = Free; joined = [] } in
      let w : Known S = record { number = 0; seats = seats; dealt = n + 1; turns = 0; last = first; hold = Free; joined = [] } in
      let z : Known S = record { number = n; seats = seats; dealt = 1; turns = 0; last = first; hold = Free; joined = [] } in
      let f = r.fits id v at in
      let zero_id = f.numbered in
      let count : n ≡ length s.views = f.counted (sym zero_id) in
      let here = inside s.views id (Active v) at in
      let some_views : 0 < length s.views = omega arith in
      let views : List (View S) = set s.views id (Active w) in
      let size : length views ≡ length s.views = length-set s.views id (Active w) in
      let size' : length (views ++ Active z ∷ []) ≡ length s.views + 1 = length-append views (Active z ∷ []) ∙ ap (λ (k : ℕ). k + 1) size in
      let took = taken_moves turns_of notes_of tally_of fixed_of r.now r.now s.views (views ++ Active z ∷ []) (λ j spent. at_longer views (Active z ∷ []) j Spent (spent_stays v (Active w) s.views id at j spent)) (λ j x _ h. h) in
      let Fit' : ℕ → Known S → Type 0 = Fit turns_of notes_of tally_of fixed_of seats r.now r.ticket (views ++ Active z ∷ []) in
      record {
        now = r.now;
        ticket = r.ticket;
        words = r.words;
        due = r.due;
        placed = ⊎_elim
            (λ home. inl home)
            (λ out. let k : ℕ = out.1.0 in let u : Known S = out.1.1 in
            let other : k ≢ id = λ e.
            let there = subst (λ (j : ℕ). get_elem? s.views j ≡ maybe.some (Active u)) e out.1.2 in
            let both : Free ≡ Has (turns_of r.now) r.now = ap (λ (q : Known S). q.hold) (some_known v u (sym at ∙ there)) ∙ out.1.3 in
            absurd (cc) in
            inr (out.0, (k, u, at_longer views (Active z ∷ []) k (Active u) (set_else s.views id k (Active w) other ∙ out.1.2), out.1.3)))
            r.placed;
        fits = λ k u e. ⊎_elim
            (λ (h : get_elem? views k ≡ maybe.some (Active u)). ⊎_elim
            (λ (x : (k ≡ id) × (Active w ≡ Active u)). subst (λ (q : ℕ × Known S). Fit' q.0 q.1) (λ i. (sym x.0 i, same_known w u x.1 i)) record {
              numbered = f.numbered;
              within = f.within;
              sized = refl;
              follows = f.follows;
              looked = f.looked;
              held = tt;
              lone = f.lone;
              counted = λ _. omega arith;
              took_in = tt;
            })
            (λ (x : (k ≢ id) × (get_elem? s.views k ≡ maybe.some (Active u))). let o = r.fits k u x.1 in record {
              numbered = o.numbered;
              within = o.within;
              sized = o.sized;
              follows = o.follows;
              looked = o.looked;
              held = o.held;
              lone = o.lone;
              counted = λ none. absurd (x.0 (none ∙ zero_id));
              took_in = took u.joined o.took_in;
            })
            (at_set s.views id k (Active w) (Active u) h))
            (λ (h : (k ≡ length views) × (Active z ≡ Active u)). let place = h.0 in subst (λ (q : Known S). Fit' k q) (same_known z u h.1) record {
              numbered = omega arith;
              within = omega arith;
              sized = refl;
              follows = new_follows first r.now (length s.views) k (omega arith) r.fresh r.owned;
              looked = omega arith;
              held = tt;
              lone = λ one. absurd (omega arith);
              counted = λ none. absurd (omega arith);
              took_in = tt;
            })
            (at_end views (Active z) (Active u) k e);
        apart = apart_from s.views (views ++ Active z ∷ [])
            (λ k t u e has. ⊎_elim
            (λ (h : get_elem? views k ≡ maybe.some u). ⊎_elim
            (λ (x : (k ≡ id) × (Active w ≡ u)). let none : None ≡ Some t = ap ticket_in x.1 ∙ has in absurd (cc))
            (λ (x : (k ≢ id) × (get_elem? s.views k ≡ maybe.some u)). (u, x.1, has))
            (at_set s.views id k (Active w) u h))
            (λ (h : (k ≡ length views) × (Active z ≡ u)). let none : None ≡ Some t = ap ticket_in h.1 ∙ has in absurd (cc))
            (at_end views (Active z) u k e))
            r.apart;
        roomy = omega arith;
        owned = owned_more first r.now (length s.views) (length (views ++ Active z ∷ [])) (omega arith) r.owned;
        fresh = r.fresh;
      }

  pub deals_as : (seats : ℕ) (first : S) (id n : ℕ) (m : Me (Option S) (View S)) → n < seats → m ≡ (dealing n seats first, []) → Splits (R seats first) id m.0 (dealer m.0) (newcomer m.0)
  deals_as seats first id n m room is = subst (λ (m : Me (Option S) (View S)). Splits (R seats first) id m.0 (dealer m.0) (newcomer m.0)) (sym is) (deals seats first id n room)
