-- A seat takes the value at its ticket, and the rule holds again.
use Rattle.std.proofs.Common.{◌≡◌, ◌≢◌, ℕ, List, [], ◌∷◌, length, set, get_or, Option, Some, None, refl, sym, ap, ◌∙◌, subst, ⊎_elim, inr, arith}
use mathlib.Core.Logic.{dite}
use mathlib.Core.Option as maybe
use native.Mathlib.Decide.{ℕ_discrete}
use lib.ListN.{get_elem?}
use Rattle.atomic_table.specs.Table.{State, Me, step, keeps, takes, rest, Allows}
use Rattle.atomic_table.proofs.Lists.{set_here}
use Rattle.turn_cell.specs.declared.chronicle.Note.{Note}
use Rattle.turn_cell.specs.declared.view.Hold.{Hold}
use Rattle.turn_cell.specs.declared.view.Hold.TheVariants.{Waits, Has}
use Rattle.turn_cell.specs.declared.view.Known.{Known}
use Rattle.turn_cell.specs.declared.view.View.{View}
use Rattle.turn_cell.specs.declared.view.View.TheVariants.{Active}
use Rattle.turn_cell.specs.Histories.{Follows}
use Rattle.turn_cell.specs.StepOutcomes.{took, Finds}
use Rattle.turn_cell.specs.Views.{ticket_of, ticket_in, with_hold}
use Rattle.turn_cell.proofs.SeatStep.{Rule, stays, moves}
use Rattle.turn_cell.proofs.NoteLemmas.{below_more}
use Rattle.turn_cell.proofs.ViewLemmas.{inside, same_known, some_known}

module _ {S : Type 0} where
  abbrev pub held_or : Option S → List (ℕ × Option S) → Option S
  held_or d [] = d
  held_or d (p ∷ ps) = p.1

  -- the value is exchanged for another
  pub swapped : (m m' : Me (Option S) (View S)) (w : Known S) (x result new : Option S) → m ≡ (Active w, (0, x) ∷ []) → m.1 ≡ (0, result) ∷ rest m.1 → m' ≡ (m.0, (0, new) ∷ rest m.1)
      → (m' ≡ (Active w, (0, new) ∷ [])) × (result ≡ x)
  swapped m m' w x result new is found after = (
    after ∙ ap (λ (m : Me (Option S) (View S)). let n : Me (Option S) (View S) = (m.0, (0, new) ∷ rest m.1) in n) is,
    sym (ap (held_or x) (sym (ap (λ (m : Me (Option S) (View S)). m.1) is) ∙ found)),
  )

  pub some_is : (x y : S) → Some x ≡ Some y → x ≡ y
  some_is x y e = cc

module _ {S E F : Type 0} (turns_of : S → ℕ) (notes_of : S → List (Note E)) (tally_of : S → ℕ → List ℕ) (fixed_of : S → F) where
  abbrev R : ℕ → S → State (Option S) (View S) → Type 0
  R = Rule turns_of notes_of tally_of fixed_of

  -- if a seat waits for the ticket that is served, the value is in its slot
  at_home : (seats : ℕ) (first : S) (s : State (Option S) (View S)) (r : R seats first s) (id : ℕ) (v : Known S) (t : ℕ) → get_elem? s.views id ≡ maybe.some (Active v) → v.hold ≡ Waits t → turns_of r.now ≡ t
      → s.homes ≡ maybe.some (Some r.now) ∷ []
  at_home seats first s r id v t at waits served = ⊎_elim
      (λ home. home)
      (λ out. let k : ℕ = out.1.0 in let u : Known S = out.1.1 in
      let same : k ≡ id = r.apart k id t (Active u) (Active v) out.1.2 at (ap ticket_of out.1.3 ∙ ap (λ (n : ℕ). Some n) served) (ap ticket_of waits) in
      let there = subst (λ (j : ℕ). get_elem? s.views j ≡ maybe.some (Active u)) same out.1.2 in
      let both : Waits t ≡ Has (turns_of r.now) r.now = sym waits ∙ (ap (λ (z : Known S). z.hold) (some_known v u (sym at ∙ there)) ∙ out.1.3) in
      absurd (cc))
      r.placed

  -- what a take tells a seat that knows v, at its ticket
  abbrev TellsTake : Known S → ℕ → Me (Option S) (View S) → ℕ → Me (Option S) (View S) → Type 0
  TellsTake v t m n m' = (n ≡ t → (x : S) × (m' ≡ (Active (with_hold v (Has t x)), (0, Some x) ∷ [])) × Finds turns_of notes_of tally_of fixed_of v t x) × (n ≢ t → m' ≡ m)

  tells : (slots n : ℕ) (v : Known S) (t : ℕ) (m' : Me (Option S) (View S)) → v.hold ≡ Waits t → TellsTake v t (Active v, []) n m' → took turns_of notes_of tally_of fixed_of (step slots 1 0 0 maybe.none) (Active v, []) n m'
  tells slots n v t m' waits told v' t' e h c =
      let same : v ≡ v' = same_known v v' e in
      let both : Waits t ≡ Waits t' = sym waits ∙ (ap (λ (z : Known S). z.hold) same ∙ h) in
      let ticket : t ≡ t' = cc in
      subst (λ (z : Known S × ℕ). TellsTake z.0 z.1 (Active v, []) n m') (λ i. (same i, ticket i)) told

  pub takes_it : (seats : ℕ) (first : S) (slots id : ℕ) (v : Known S) (t : ℕ) → v.hold ≡ Waits t
      → Allows (R seats first) slots id (Active v, []) 1 (λ n. n) (took turns_of notes_of tally_of fixed_of (step slots 1 0 0 maybe.none) (Active v, []))
  takes_it seats first slots id v t waits s r wide at _ =
      let n : ℕ = get_or s.words 1 0 in
      let f = r.fits id v at in
      let is : n ≡ turns_of r.now = ap (λ (ws : List ℕ). get_or ws 1 0) r.words in
      let mine : ticket_in (Active v) ≡ Some t = ap ticket_of waits in
      dite (ℕ_discrete n t)
      (λ hit.
      let served : turns_of r.now ≡ t = sym is ∙ hit in
      let home = at_home seats first s r id v t at waits served in
      let w : Known S = with_hold v (Has t r.now) in
      let due = (subst (λ (h : Hold S). Rattle.turn_cell.specs.CellRule.HoldFits turns_of notes_of tally_of fixed_of r.now r.ticket h) waits f.held).1 in (
        Active w,
        takes 0 (Some r.now),
        ap (λ hs. get_elem? hs 0) home,
        moves turns_of notes_of tally_of fixed_of seats first s r id v at (set s.words 1 n) (set s.homes 0 maybe.none) r.now r.ticket v.turns v.last (Has t r.now)
            (ap (λ (ws : List ℕ). set ws 1 n) r.words ∙ ap (λ (k : ℕ). r.ticket ∷ k ∷ []) is)
            r.due
            (inr (ap (λ hs. set hs 0 maybe.none) home, (id, w, set_here s.views id (Active w) (inside s.views id (Active v) at), ap (λ (k : ℕ). Has k r.now) (sym served))))
            (λ k u other e. (r.fits k u e).held)
            (λ k x other e. e)
            (omega arith)
            f.follows
            f.looked
            (sym served, due, refl)
            f.lone
            (λ t' e k u other e' held. let same : t ≡ t' = cc in absurd (other (r.apart k id t' u (Active v) e' at held (mine ∙ ap (λ (n : ℕ). Some n) same))))
            r.owned,
        tells slots n v t (Active w, (0, Some r.now) ∷ []) waits (
          (λ _. (
            r.now,
            refl,
            record {
              served = served;
              within = let here = f.numbered in let there = f.within in let size = f.sized in omega arith;
              passed = f.looked;
              follows = subst (λ (k : ℕ). Follows turns_of notes_of tally_of fixed_of k v.last r.now) (sym f.numbered) f.follows;
              below = below_more (length s.views) v.seats (notes_of r.now) (let size = f.sized in let fit = r.roomy in omega arith) r.owned.notes;
              lone = λ one. sym (f.lone (sym f.sized ∙ one));
            },
          )),
          (λ miss. absurd (miss hit)),
        ),
      ))
      (λ miss. (
        Active v,
        keeps,
        tt,
        stays turns_of notes_of tally_of fixed_of seats first s r 1 id [] (Active v) at,
        tells slots n v t (Active v, []) waits ((λ hit. absurd (miss hit)), (λ _. refl)),
      ))

  pub takes_as : (seats : ℕ) (first : S) (slots id : ℕ) (m : Me (Option S) (View S)) (v : Known S) (t : ℕ) → m ≡ (Active v, []) → v.hold ≡ Waits t
      → Allows (R seats first) slots id m 1 (λ n. n) (took turns_of notes_of tally_of fixed_of (step slots 1 0 0 maybe.none) m)
  takes_as seats first slots id m v t is waits =
      subst (λ (m : Me (Option S) (View S)). Allows (R seats first) slots id m 1 (λ n. n) (took turns_of notes_of tally_of fixed_of (step slots 1 0 0 maybe.none) m)) (sym is) (takes_it seats first slots id v t waits)

  pub taken_at : (m : Me (Option S) (View S)) (v : Known S) (t r : ℕ) (m' : Me (Option S) (View S)) → m ≡ (Active v, []) → v.hold ≡ Waits t → took turns_of notes_of tally_of fixed_of (step 0 1 0 0 maybe.none) m r m'
      → TellsTake v t (Active v, []) r m'
  taken_at m v t r m' is waits told =
      let h = told v t (ap (λ (m : Me (Option S) (View S)). m.0) is) waits (ap (λ (m : Me (Option S) (View S)). m.1) is) in
      (h.0, λ miss. h.1 miss ∙ is)

  -- what a seat knows once it has taken the value out of its slot
  pub takes_done : (m m' m'' : Me (Option S) (View S)) (v : Known S) (t r : ℕ) (result : Option S) (y : S) → m ≡ (Active v, []) → v.hold ≡ Waits t → took turns_of notes_of tally_of fixed_of (step 0 1 0 0 maybe.none) m r m' → r ≡ t
      → m'.1 ≡ (0, result) ∷ rest m'.1 → m'' ≡ (m'.0, (0, None) ∷ rest m'.1) → result ≡ Some y
      → (m'' ≡ (Active (with_hold v (Has t y)), (0, None) ∷ [])) × Finds turns_of notes_of tally_of fixed_of v t y
  takes_done m m' m'' v t r result y is waits told hit found after value =
      let h = (taken_at m v t r m' is waits told).0 hit in
      let x : S = h.0 in
      let done = swapped m' m'' (with_hold v (Has t x)) (Some x) result None h.1 found after in
      let same : x ≡ y = some_is x y (sym done.1 ∙ value) in
      subst (λ (z : S). (m'' ≡ (Active (with_hold v (Has t z)), (0, None) ∷ [])) × Finds turns_of notes_of tally_of fixed_of v t z) same (done.0, h.2)
