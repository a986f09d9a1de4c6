-- How one state follows another, and what a turn may change.
use Rattle.std.proofs.Common.{◌≡◌, ◌≢◌, ℕ, List, [], ◌∷◌, ◌++◌, refl, sym, ap, ◌∙◌, subst, arith, le_refl, append_assoc, append-nil}
use Rattle.std.specs.List.{All}
use Rattle.std.proofs.lemmas.List.{append_cancel_left}
use Rattle.turn_cell.specs.declared.chronicle.Note.{Note}
use Rattle.turn_cell.specs.Notes.{notes_by, AreOf}
use Rattle.turn_cell.specs.Histories.{Follows, Changed, Leaves}
use Rattle.turn_cell.specs.Seats.{Grows}
use Rattle.turn_cell.proofs.NoteLemmas.{prefix_refl, prefix_trans, prefix_more, notes_by-append, notes_by-none, none_by, all_by, AreOf-none, AreOf-one, AreOf-append}

module _ {S E F : Type 0} (turns_of : S → ℕ) (notes_of : S → List (Note E)) (tally_of : S → ℕ → List ℕ) (fixed_of : S → F) where
  pub Follows-refl : (seat : ℕ) (x : S) → Follows turns_of notes_of tally_of fixed_of seat x x
  Follows-refl seat x = record { later = le_refl (turns_of x); seen = prefix_refl (notes_of x); mine = refl; tally = refl; fixed = refl }

  pub Follows-trans : (seat : ℕ) (x y z : S) → Follows turns_of notes_of tally_of fixed_of seat x y → Follows turns_of notes_of tally_of fixed_of seat y z → Follows turns_of notes_of tally_of fixed_of seat x z
  Follows-trans seat x y z f h = let a = f.later in let b = h.later in record {
    later = omega arith;
    seen = prefix_trans (notes_of x) (notes_of y) (notes_of z) f.seen h.seen;
    mine = h.mine ∙ f.mine;
    tally = h.tally ∙ f.tally;
    fixed = h.fixed ∙ f.fixed;
  }

  -- a turn of one seat is none of another
  pub leaves_follow : (seat other : ℕ) (x y z : S) → other ≢ seat → Leaves turns_of notes_of tally_of fixed_of seat y z → Follows turns_of notes_of tally_of fixed_of other x y → Follows turns_of notes_of tally_of fixed_of other x z
  leaves_follow seat other x y z apart turn f = let a = f.later in let b = turn.turns in record {
    later = omega arith;
    seen = prefix_trans (notes_of x) (notes_of y) (notes_of z) f.seen (prefix_more (notes_of y) (notes_of z) turn.more turn.notes);
    mine = ap (notes_by other) turn.notes ∙ (notes_by-append other (notes_of y) turn.more ∙ (ap (λ l. notes_by other (notes_of y) ++ l) (none_by (turns_of y) seat other turn.more apart turn.own) ∙ (append-nil (notes_by other (notes_of y)) ∙ f.mine)));
    tally = turn.others other apart ∙ f.tally;
    fixed = turn.fixed ∙ f.fixed;
  }

  -- what a turn that found x and made z of it adds, once it has passed with the notes of z
  pub grows : (seat : ℕ) (last x z y : S) → Follows turns_of notes_of tally_of fixed_of seat last x → Changed turns_of notes_of tally_of fixed_of seat x z → notes_of y ≡ notes_of z → fixed_of y ≡ fixed_of z
      → Grows turns_of notes_of tally_of fixed_of seat last x y
  grows seat last x z y f turn same fixed =
      let whole : notes_of y ≡ notes_of x ++ turn.more = same ∙ turn.notes in record {
        follows = f;
        seen = prefix_trans (notes_of last) (notes_of x) (notes_of y) f.seen (prefix_more (notes_of x) (notes_of y) turn.more whole);
        mine = λ more e.
            let is : more ≡ turn.more = append_cancel_left (notes_of x) more turn.more (sym e ∙ whole) in
            let own : AreOf (turns_of x) seat more = subst (AreOf (turns_of x) seat) (sym is) turn.own in
            ap (notes_by seat) e ∙ (notes_by-append seat (notes_of x) more ∙ ((λ i. f.mine i ++ all_by (turns_of x) seat more own i)));
        fixed = fixed ∙ (turn.fixed ∙ f.fixed);
      }

  pub follows_as : (seat seat' : ℕ) (last x : S) → seat ≡ seat' → Follows turns_of notes_of tally_of fixed_of seat' last x → Follows turns_of notes_of tally_of fixed_of seat last x
  follows_as seat seat' last x same = subst (λ (k : ℕ). Follows turns_of notes_of tally_of fixed_of k last x) (sym same)

  -- the notes that stand in the later state and not in the earlier one hold none of this seat
  pub notes_of_others : (seat : ℕ) (last now : S) (more : List (Note E)) → Follows turns_of notes_of tally_of fixed_of seat last now → notes_of now ≡ notes_of last ++ more → All (λ note. note.seat ≢ seat) more
  notes_of_others seat last now more f e =
      let whole : notes_by seat (notes_of last) ++ notes_by seat more ≡ notes_by seat (notes_of last) ++ [] =
      sym (notes_by-append seat (notes_of last) more) ∙ (ap (notes_by seat) (sym e) ∙ (f.mine ∙ sym (append-nil (notes_by seat (notes_of last))))) in
      notes_by-none seat more (append_cancel_left (notes_by seat (notes_of last)) (notes_by seat more) [] whole)

  -- a turn that adds no note
  pub Changed-none : (seat : ℕ) (x y : S) → turns_of y ≡ turns_of x → notes_of y ≡ notes_of x → ((number : ℕ) → number ≢ seat → tally_of y number ≡ tally_of x number) → fixed_of y ≡ fixed_of x
      → Changed turns_of notes_of tally_of fixed_of seat x y
  Changed-none seat x y turns notes others fixed = record {
    turns = turns;
    more = [];
    notes = notes ∙ sym (append-nil (notes_of x));
    own = AreOf-none (turns_of x) seat;
    others = others;
    fixed = fixed;
  }

  -- a turn that adds one note
  pub Changed-one : (seat : ℕ) (x y : S) (note : Note E) → turns_of y ≡ turns_of x → notes_of y ≡ notes_of x ++ note ∷ [] → note.turn ≡ turns_of x → note.seat ≡ seat
      → ((number : ℕ) → number ≢ seat → tally_of y number ≡ tally_of x number) → fixed_of y ≡ fixed_of x → Changed turns_of notes_of tally_of fixed_of seat x y
  Changed-one seat x y note turns notes in_turn by_seat others fixed = record {
    turns = turns;
    more = note ∷ [];
    notes = notes;
    own = AreOf-one (turns_of x) seat note in_turn by_seat;
    others = others;
    fixed = fixed;
  }

  -- one change of a turn after another
  pub Changed-trans : (seat : ℕ) (x y z : S) → Changed turns_of notes_of tally_of fixed_of seat x y → Changed turns_of notes_of tally_of fixed_of seat y z → Changed turns_of notes_of tally_of fixed_of seat x z
  Changed-trans seat x y z a b = record {
    turns = b.turns ∙ a.turns;
    more = a.more ++ b.more;
    notes = b.notes ∙ (ap (λ l. l ++ b.more) a.notes ∙ append_assoc (notes_of x) a.more b.more);
    own = AreOf-append (turns_of x) seat a.more b.more a.own (subst (λ (turn : ℕ). AreOf turn seat b.more) a.turns b.own);
    others = λ number other. b.others number other ∙ a.others number other;
    fixed = b.fixed ∙ a.fixed;
  }
