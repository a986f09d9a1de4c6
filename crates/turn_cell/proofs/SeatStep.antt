-- A step of one seat keeps the rule, where it keeps what the other seats know.
use Rattle.std.proofs.Common.{◌≡◌, ◌≢◌, ℕ, ◌<◌, ◌≤◌, List, [], ◌∷◌, length, set, get_or, Option, Some, sym, ap, ◌∙◌, subst, ⊎_elim, arith, length-set}
use mathlib.Core.Option as maybe
use lib.ListN.{get_elem?}
use lib.Seq.{set-get_or}
use Rattle.atomic_table.specs.Table.{State, Me, Act, keeps, carried_after, Valid, stepped}
use Rattle.atomic_table.proofs.Lists.{at_set, set_again}
use Rattle.turn_cell.specs.declared.chronicle.Note.{Note}
use Rattle.turn_cell.specs.declared.view.Hold.{Hold}
use Rattle.turn_cell.specs.declared.view.Known.{Known}
use Rattle.turn_cell.specs.declared.view.View.{View}
use Rattle.turn_cell.specs.declared.view.View.TheVariants.{Active, Spent}
use Rattle.turn_cell.specs.Histories.{Follows}
use Rattle.turn_cell.specs.CellRule.{HoldFits, SeatFits, IsValuePlaced, AreTicketsApart, IsOwned, MeetsRule}
use Rattle.turn_cell.specs.Views.{ticket_of, ticket_in}
use Rattle.turn_cell.proofs.ViewLemmas.{held_between, spent_stays, taken_moves, some_known}

module _ {S E F : Type 0} (turns_of : S → ℕ) (notes_of : S → List (Note E)) (tally_of : S → ℕ → List ℕ) (fixed_of : S → F) where
  abbrev pub V : Type 0
  V = View S

  abbrev pub St : Type 0
  St = State (Option S) V

  abbrev pub Rule : ℕ → S → St → Type 0
  Rule = MeetsRule turns_of notes_of tally_of fixed_of

  abbrev pub Fit : ℕ → S → ℕ → List V → ℕ → Known S → Type 0
  Fit = SeatFits turns_of notes_of tally_of fixed_of

  abbrev pub Follow : ℕ → S → S → Type 0
  Follow = Follows turns_of notes_of tally_of fixed_of

  abbrev pub Held : S → ℕ → Hold S → Type 0
  Held = HoldFits turns_of notes_of tally_of fixed_of

  -- what a step that makes the word n owes
  abbrev pub Goes : ℕ → S → St → ℕ → ℕ → Me (Option S) V → (ℕ → Me (Option S) V → Type 0) → ℕ → Type 0
  Goes seats first s i id me then n = (w : V) × (a : Act (Option S)) × Valid s.homes me.1 a × Rule seats first (stepped s i n id me.1 w a) × then (get_or s.words i 0) (w, carried_after me.1 a)

  -- a step that changes nothing
  pub stays : (seats : ℕ) (first : S) (s : St) → Rule seats first s → (i id : ℕ) (c : List (ℕ × Option S)) (v : V) → get_elem? s.views id ≡ maybe.some v → Rule seats first (stepped s i (get_or s.words i 0) id c v keeps)
  stays seats first s r i id c v at =
      subst (λ (z : List ℕ × List V). Rule seats first (record { words = z.0; homes = s.homes; views = z.1 })) (λ k. (sym (set-get_or s.words i 0) k, sym (set_again s.views id v at) k)) r

  -- the tickets in the views lie between the one that is served and the next to be drawn
  pub between : (seats : ℕ) (first : S) (s : St) (r : Rule seats first s) (k : ℕ) (u : V) (t : ℕ) → get_elem? s.views k ≡ maybe.some u → ticket_in u ≡ Some t → (turns_of r.now ≤ t) × (t < r.ticket)
  between seats first s r k (Active u) t at e = held_between turns_of notes_of tally_of fixed_of r.now r.ticket u.hold t (r.fits k u at).held e
  between seats first s r k Spent t at e = absurd (cc)

  -- what the seat knows, with this hold, these turns and this last state
  abbrev pub moved : Known S → ℕ → S → Hold S → Known S
  moved v turns last hold = record v { turns = turns; last = last; hold = hold }

  module _ (seats : ℕ) (first : S) (s : St) (r : Rule seats first s) (id : ℕ) (v : Known S) (at : get_elem? s.views id ≡ maybe.some (Active v)) where
    pub apart_set : (w : V) → ((t : ℕ) → ticket_in w ≡ Some t → (k : ℕ) (u : V) → k ≢ id → get_elem? s.views k ≡ maybe.some u → ticket_in u ≢ Some t) → AreTicketsApart (set s.views id w)
    apart_set w alone i j t a b ai aj ta tb = ⊎_elim
        (λ (x : (i ≡ id) × (w ≡ a)). ⊎_elim
        (λ (y : (j ≡ id) × (w ≡ b)). x.0 ∙ sym y.0)
        (λ (y : (j ≢ id) × (get_elem? s.views j ≡ maybe.some b)). absurd (alone t (ap ticket_in x.1 ∙ ta) j b y.0 y.1 tb))
        (at_set s.views id j w b aj))
        (λ (x : (i ≢ id) × (get_elem? s.views i ≡ maybe.some a)). ⊎_elim
        (λ (y : (j ≡ id) × (w ≡ b)). absurd (alone t (ap ticket_in y.1 ∙ tb) i a x.0 x.1 ta))
        (λ (y : (j ≢ id) × (get_elem? s.views j ≡ maybe.some b)). r.apart i j t a b x.1 y.1 ta tb)
        (at_set s.views id j w b aj))
        (at_set s.views id i w a ai)

    -- the seat id knows w now, and the value is now'
    pub moves : (words' : List ℕ) (homes' : List (maybe.Option (Option S))) (now' : S) (ticket' turns : ℕ) (last : S) (hold : Hold S)
        → words' ≡ ticket' ∷ turns_of now' ∷ [] → turns_of now' ≤ ticket'
        → IsValuePlaced turns_of notes_of tally_of fixed_of now' homes' (set s.views id (Active (moved v turns last hold)))
        → ((k : ℕ) (u : Known S) → k ≢ id → get_elem? s.views k ≡ maybe.some (Active u) → Held now' ticket' u.hold)
        → ((k : ℕ) (x : S) → k ≢ id → Follow k x r.now → Follow k x now') → turns_of r.now ≤ turns_of now'
        → Follow id last now' → turns ≤ turns_of now' → Held now' ticket' hold → (seats ≡ 1 → last ≡ now')
        → ((t : ℕ) → ticket_of hold ≡ Some t → (k : ℕ) (u : V) → k ≢ id → get_elem? s.views k ≡ maybe.some u → ticket_in u ≢ Some t)
        → IsOwned turns_of notes_of tally_of fixed_of first now' (length s.views)
        → Rule seats first (record { words = words'; homes = homes'; views = set s.views id (Active (moved v turns last hold)) })
    moves words' homes' now' ticket' turns last hold words due placed holds follows later mine looked held lone alone owned =
        let w : V = Active (moved v turns last hold) in
        let old = r.fits id v at in
        let size : length (set s.views id w) ≡ length s.views = length-set s.views id w in
        let spent = spent_stays v w s.views id at in
        let not_me : (j : ℕ) → get_elem? s.views j ≡ maybe.some Spent → j ≢ id = λ j e. Rattle.turn_cell.proofs.ViewLemmas.spent_active v s.views j id e at in
        let others = λ (j : ℕ) (x : S) (e : get_elem? s.views j ≡ maybe.some Spent) (f : Follow j x r.now). follows j x (not_me j e) f in
        let took = taken_moves turns_of notes_of tally_of fixed_of r.now now' s.views (set s.views id w) spent others in
        record {
          now = now';
          ticket = ticket';
          words = words;
          due = due;
          placed = placed;
          fits = λ k u e. ⊎_elim
              (λ (x : (k ≡ id) × (w ≡ Active u)). subst (λ (z : ℕ × Known S). Fit seats now' ticket' (set s.views id w) z.0 z.1) (λ i. (sym x.0 i, Rattle.turn_cell.proofs.ViewLemmas.same_known (moved v turns last hold) u x.1 i)) record {
                numbered = old.numbered;
                within = old.within;
                sized = old.sized;
                follows = mine;
                looked = looked;
                held = held;
                lone = lone;
                counted = λ z. old.counted z ∙ sym size;
                took_in = took v.joined old.took_in;
              })
              (λ (x : (k ≢ id) × (get_elem? s.views k ≡ maybe.some (Active u))). let f = r.fits k u x.1 in let seen = f.looked in record {
                numbered = f.numbered;
                within = f.within;
                sized = f.sized;
                follows = follows k u.last x.0 f.follows;
                looked = omega arith;
                held = holds k u x.0 x.1;
                lone = λ one. let here = f.within in let there = old.within in let same : k ≡ id = omega arith in absurd (x.0 same);
                counted = λ z. f.counted z ∙ sym size;
                took_in = took u.joined f.took_in;
              })
              (at_set s.views id k w (Active u) e);
          apart = apart_set w alone;
          roomy = let small = r.roomy in omega arith;
          owned = subst (λ (n : ℕ). IsOwned turns_of notes_of tally_of fixed_of first now' n) (sym size) owned;
          fresh = r.fresh;
        }
