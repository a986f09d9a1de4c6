-- Views of seats: whether they are active, and the tickets in them.
use Rattle.std.proofs.Common.{◌≡◌, ◌≢◌, ℕ, zero, suc, length, ◌<◌, ◌≤◌, List, [], ◌∷◌, set, Option, Some, refl, sym, ap, ◌∙◌, subst, arith}
use mathlib.Core.Option as maybe
use lib.ListN.{get_elem?}
use Rattle.atomic_table.specs.Table.{Me}
use Rattle.atomic_table.proofs.Lists.{set_else}
use Rattle.turn_cell.specs.declared.chronicle.Note.{Note}
use Rattle.turn_cell.specs.declared.view.Hold.{Hold}
use Rattle.turn_cell.specs.declared.view.Hold.TheVariants.{Free, Waits, Has}
use Rattle.turn_cell.specs.declared.view.Known.{Known}
use Rattle.turn_cell.specs.declared.view.View.{View}
use Rattle.turn_cell.specs.declared.view.View.TheVariants.{Active, Spent}
use Rattle.turn_cell.specs.Histories.{Follows}
use Rattle.turn_cell.specs.CellRule.{HoldFits, AreTakenIn}
use Rattle.turn_cell.specs.Views.{IsActive, known_in, number_in, ticket_of}

pub inside : {A : Type 0} (l : List A) (i : ℕ) (a : A) → get_elem? l i ≡ maybe.some a → i < length l
inside [] i a e = absurd (cc)
inside (x ∷ xs) zero a e = omega arith
inside (x ∷ xs) (suc i) a e = let h = inside xs i a e in omega arith

module _ {S : Type 0} where
  -- an active view is what its seat knows
  pub active_is : (w : View S) (h : IsActive w) → w ≡ Active (known_in w h)
  active_is (Active v) h = refl
  active_is Spent h = absurd h

  pub known_is : (w : View S) (h : IsActive w) (v : Known S) → w ≡ Active v → known_in w h ≡ v
  known_is (Active u) h v e = cc
  known_is Spent h v e = absurd h

  pub same_known : (u v : Known S) → Active u ≡ Active v → u ≡ v
  same_known u v e = cc

  pub some_known : (u v : Known S) → maybe.some (Active u) ≡ maybe.some (Active v) → u ≡ v
  some_known u v e = cc

  pub spent_active : (v : Known S) (views : List (View S)) (i j : ℕ) → get_elem? views i ≡ maybe.some Spent → get_elem? views j ≡ maybe.some (Active v) → i ≢ j
  spent_active v views i j spent active e =
      let there : get_elem? views j ≡ maybe.some Spent = subst (λ (k : ℕ). get_elem? views k ≡ maybe.some Spent) e spent in
      let both : maybe.some Spent ≡ maybe.some (Active v) = sym there ∙ active in
      absurd (cc)

  -- a spent view stays spent when an active one changes
  pub spent_stays : (v : Known S) (w : View S) (views : List (View S)) (id : ℕ) → get_elem? views id ≡ maybe.some (Active v) → (j : ℕ) → get_elem? views j ≡ maybe.some Spent → get_elem? (set views id w) j ≡ maybe.some Spent
  spent_stays v w views id at j spent = set_else views id j w (spent_active v views j id spent at) ∙ spent

  -- the view and the slots of an active seat
  pub me_is : (me : Me (Option S) (View S)) (h : IsActive me.0) (c : List (ℕ × Option S)) → me.1 ≡ c → me ≡ (Active (known_in me.0 h), c)
  me_is me h c e = λ i. (active_is me.0 h i, e i)

  pub me_known : (me : Me (Option S) (View S)) (h : IsActive me.0) (v : Known S) (c : List (ℕ × Option S)) → me ≡ (Active v, c) → known_in me.0 h ≡ v
  me_known me h v c e = known_is me.0 h v (ap (λ (m : Me (Option S) (View S)). m.0) e)

  -- the fields of a seat after a step that keeps its number
  pub me_keeps : (number : ℕ) (old new : Me (Option S) (View S)) (v u : Known S) (c d : List (ℕ × Option S)) → number ≡ number_in old.0 → old ≡ (Active v, c) → new ≡ (Active u, d) → u.number ≡ v.number
      → IsActive new.0 × (number ≡ number_in new.0)
  me_keeps number old new v u c d numbered was is same = (
    subst (λ (m : Me (Option S) (View S)). IsActive m.0) (sym is) tt,
    numbered ∙ (ap (λ (m : Me (Option S) (View S)). number_in m.0) was ∙ (sym same ∙ sym (ap (λ (m : Me (Option S) (View S)). number_in m.0) is))),
  )

module _ {S E F : Type 0} (turns_of : S → ℕ) (notes_of : S → List (Note E)) (tally_of : S → ℕ → List ℕ) (fixed_of : S → F) where
  -- a ticket that is held is not below the one that is served, and was drawn
  pub held_between : (now : S) (ticket : ℕ) (h : Hold S) (t : ℕ) → HoldFits turns_of notes_of tally_of fixed_of now ticket h → ticket_of h ≡ Some t → (turns_of now ≤ t) × (t < ticket)
  held_between now ticket Free t held e = absurd (cc)
  held_between now ticket (Waits u) t held e = let same : u ≡ t = cc in let a = held.0 in let b = held.1 in (omega arith, omega arith)
  held_between now ticket (Has u x) t held e = let same : u ≡ t = cc in let a = held.0 in let b = held.1 in (omega arith, omega arith)

  pub held_more : (now : S) (ticket ticket' : ℕ) (h : Hold S) → ticket ≤ ticket' → HoldFits turns_of notes_of tally_of fixed_of now ticket h → HoldFits turns_of notes_of tally_of fixed_of now ticket' h
  held_more now ticket ticket' Free le held = tt
  held_more now ticket ticket' (Waits u) le held = let b = held.1 in (held.0, omega arith)
  held_more now ticket ticket' (Has u x) le held = let b = held.1 in (held.0, omega arith, held.2)

  -- what is known of the seats that were taken in, after a step of others
  pub taken_moves : (now now' : S) (views views' : List (View S)) → ((j : ℕ) → get_elem? views j ≡ maybe.some Spent → get_elem? views' j ≡ maybe.some Spent)
      → ((j : ℕ) (x : S) → get_elem? views j ≡ maybe.some Spent → Follows turns_of notes_of tally_of fixed_of j x now → Follows turns_of notes_of tally_of fixed_of j x now')
      → (ps : List (ℕ × S)) → AreTakenIn turns_of notes_of tally_of fixed_of now views ps → AreTakenIn turns_of notes_of tally_of fixed_of now' views' ps
  taken_moves now now' views views' spent follows [] h = tt
  taken_moves now now' views views' spent follows (p ∷ ps) h = (spent p.0 h.0, follows p.0 p.1 h.0 h.1, taken_moves now now' views views' spent follows ps h.2)
