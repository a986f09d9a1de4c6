-- A cell at its end: seat 0 has taken in all others, and the value is in its slot.
use Rattle.std.proofs.Common.{◌≡◌, ℕ, suc, ◌+◌, ◌<◌, ◌≤◌, List, [], ◌∷◌, ◌++◌, length, Option, Some, sym, ap, ◌∙◌, subst, ⊎_elim, arith}
use mathlib.Core.Logic.{dite}
use mathlib.Core.Option as maybe
use native.Mathlib.Decide.{ℕ_discrete}
use lib.ListN.{get_elem?}
use Rattle.atomic_table.specs.Table.{State, Final, Seen}
use Rattle.turn_cell.specs.declared.chronicle.Note.{Note}
use Rattle.turn_cell.specs.declared.view.Hold.TheVariants.{Free, Has}
use Rattle.turn_cell.specs.declared.view.Known.{Known}
use Rattle.turn_cell.specs.declared.view.View.{View}
use Rattle.turn_cell.specs.declared.view.View.TheVariants.{Active, Spent}
use Rattle.turn_cell.specs.Histories.{Follows}
use Rattle.turn_cell.specs.Notes.{AreBelow, AreZeros}
use Rattle.turn_cell.specs.CellRule.{AreTakenIn}
use Rattle.turn_cell.proofs.SeatStep.{Rule}
use Rattle.turn_cell.proofs.ViewLemmas.{some_known}
use Rattle.turn_cell.proofs.NoteLemmas.{below_more}

-- the pairs have the numbers from here on
abbrev pub AreNumbered : {S : Type 0} → ℕ → List (ℕ × S) → Type 0
AreNumbered number [] = Unit {0}
AreNumbered number (p ∷ ps) = (p.0 ≡ number) × AreNumbered (suc number) ps

module _ {S E F : Type 0} (turns_of : S → ℕ) (notes_of : S → List (Note E)) (tally_of : S → ℕ → List ℕ) (fixed_of : S → F) where
  abbrev R : ℕ → S → State (Option S) (View S) → Type 0
  R = Rule turns_of notes_of tally_of fixed_of

  abbrev Taken : S → List (View S) → List (ℕ × S) → Type 0
  Taken = AreTakenIn turns_of notes_of tally_of fixed_of

  -- the value follows the last state of each
  abbrev pub FollowsAll : S → List (ℕ × S) → Type 0
  FollowsAll now [] = Unit {0}
  FollowsAll now (p ∷ ps) = Follows turns_of notes_of tally_of fixed_of p.0 p.1 now × FollowsAll now ps

  follows_all : (now : S) (views : List (View S)) (ps qs : List (ℕ × S)) → Taken now views (ps ++ qs) → FollowsAll now ps
  follows_all now views [] qs taken = tt
  follows_all now views (p ∷ ps) qs taken = (taken.1, follows_all now views ps qs taken.2)

  spent_at : (now : S) (views : List (View S)) (number : ℕ) (ps qs : List (ℕ × S)) (k : ℕ) → Taken now views (ps ++ qs) → AreNumbered number ps → number ≤ k → k < number + length ps → get_elem? views k ≡ maybe.some Spent
  spent_at now views number [] qs k taken numbered le lt = absurd (omega arith)
  spent_at now views number (p ∷ ps) qs k taken numbered le lt =
      dite (ℕ_discrete k number)
      (λ e. subst (λ (j : ℕ). get_elem? views j ≡ maybe.some Spent) (numbered.0 ∙ sym e) taken.0)
      (λ ne. spent_at now views (suc number) ps qs k taken.2 numbered.1 (omega arith) (omega arith))

  -- what is known of the value x of a closed cell, of the first seat and of the others
  pub record Ends (seats : ℕ) (last : S) (others : List (ℕ × S)) (x : S) : Type 0 where
    pub first : Follows turns_of notes_of tally_of fixed_of 0 last x
    pub rest : FollowsAll x others
    pub below : AreBelow seats (notes_of x)
    pub zeros : (number : ℕ) → seats ≤ number → AreZeros (tally_of x number)
    pub lone : seats ≡ 1 → x ≡ last

  pub ends : (seats : ℕ) (first : S) (id : ℕ) (me : View S) (v : Known S) (others : List (ℕ × S)) (ws : List ℕ) (xs : List (Option S)) → me ≡ Active (record v { joined = others ++ v.joined }) → v.hold ≡ Free → v.number ≡ 0
      → AreNumbered 1 others → length others + 1 ≡ seats → Final (Seen (R seats first) id me) ws xs → (x : S) × (get_elem? xs 0 ≡ maybe.some (Some x)) × Ends seats v.last others x
  ends seats first id me v others ws xs is free number numbered count final =
      let s = final.0 in
      let r : R seats first s = final.1.0 in
      let w : Known S = record v { joined = others ++ v.joined } in
      let at : get_elem? s.views id ≡ maybe.some (Active w) = final.1.1 ∙ ap (λ (u : View S). maybe.some u) is in
      let f = r.fits id w at in
      let zero_id : id ≡ 0 = sym f.numbered ∙ number in
      let home : s.homes ≡ maybe.some (Some r.now) ∷ [] = ⊎_elim
      (λ home. home)
      (λ out. let k : ℕ = out.1.0 in let u : Known S = out.1.1 in let within = (r.fits k u out.1.2).within in
      dite (ℕ_discrete k id)
      (λ e.
      let there = subst (λ (j : ℕ). get_elem? s.views j ≡ maybe.some (Active u)) e out.1.2 in
      let both : Free ≡ Has (turns_of r.now) r.now = sym free ∙ (ap (λ (q : Known S). q.hold) (some_known w u (sym at ∙ there)) ∙ out.1.3) in
      absurd (cc))
      (λ ne.
      let gone = spent_at r.now s.views 1 others v.joined k f.took_in numbered (omega arith) (omega arith) in
      let both : maybe.some Spent ≡ maybe.some (Active u) = sym gone ∙ out.1.2 in
      absurd (cc)))
      r.placed in (
        r.now,
        final.4 0 (Some r.now) (ap (λ hs. get_elem? hs 0) home),
        record {
          first = subst (λ (k : ℕ). Follows turns_of notes_of tally_of fixed_of k v.last r.now) zero_id f.follows;
          rest = follows_all r.now s.views others v.joined f.took_in;
          below = below_more (length s.views) seats (notes_of r.now) r.roomy r.owned.notes;
          zeros = λ k le. let small = r.roomy in subst AreZeros (sym (r.owned.tallies k (omega arith))) (r.fresh.tallies k);
          lone = λ one. sym (f.lone one);
        },
      )
