-- The notes of a history: those of one seat, of one turn, and of all seats.
use Rattle.std.proofs.Common.{◌≡◌, ◌≢◌, ℕ, zero, suc, ◌<◌, ◌≤◌, eqb, cond, Bool, true, false, List, [], ◌∷◌, ◌++◌, refl, sym, ap, ◌∙◌, subst, arith, eq-eqb, ne_eqb, append_assoc, append-nil}
use mathlib.Core.List.{IsPrefix}
use Rattle.std.specs.List.{All}
use Rattle.std.proofs.lemmas.List.Elements.{filter-append, All-append}
use Rattle.turn_cell.specs.declared.chronicle.Note.{Note}
use Rattle.turn_cell.specs.Notes.{notes_by, AreBelow, AreOf, AreZeros}

pub prefix_refl : {A : Type 0} (xs : List A) → IsPrefix xs xs
prefix_refl xs = ([], append-nil xs)

pub prefix_trans : {A : Type 0} (xs ys zs : List A) → IsPrefix xs ys → IsPrefix ys zs → IsPrefix xs zs
prefix_trans xs ys zs p q = (p.0 ++ q.0, sym (append_assoc xs p.0 q.0) ∙ (ap (λ l. l ++ q.0) p.1 ∙ q.1))

pub prefix_more : {A : Type 0} (xs ys more : List A) → ys ≡ xs ++ more → IsPrefix xs ys
prefix_more xs ys more e = (more, sym e)

pub All-front : {A : Type 0} (P : A → Type 0) (x : A) (xs : List A) → All P (x ∷ xs) → P x
All-front P x xs all = all 0 x (omega arith)

pub All-rest : {A : Type 0} (P : A → Type 0) (x : A) (xs : List A) → All P (x ∷ xs) → All P xs
All-rest P x xs all k d l = all (suc k) d (omega arith)

pub All-cons : {A : Type 0} (P : A → Type 0) (x : A) (xs : List A) → P x → All P xs → All P (x ∷ xs)
All-cons P x xs front all zero d l = front
All-cons P x xs front all (suc k) d l = all k d (omega arith)

module _ {E : Type 0} where
  pub notes_by-append : (seat : ℕ) (xs ys : List (Note E)) → notes_by seat (xs ++ ys) ≡ notes_by seat xs ++ notes_by seat ys
  notes_by-append seat xs ys = filter-append (λ note. eqb note.seat seat) xs ys

  -- notes of one seat are none of another
  pub none_by : (turn seat other : ℕ) (notes : List (Note E)) → other ≢ seat → AreOf turn seat notes → notes_by other notes ≡ []
  none_by turn seat other [] apart own = refl
  none_by turn seat other (note ∷ notes) apart own =
      let P : Note E → Type 0 = λ note. (note.turn ≡ turn) × (note.seat ≡ seat) in
      let here = (All-front P note notes own).1 in
      ap (λ b. cond b (note ∷ notes_by other notes) (notes_by other notes)) (ne_eqb note.seat other (λ e. apart (sym e ∙ here)))
      ∙ none_by turn seat other notes apart (All-rest P note notes own)

  -- notes of a seat are all its own
  pub all_by : (turn seat : ℕ) (notes : List (Note E)) → AreOf turn seat notes → notes_by seat notes ≡ notes
  all_by turn seat [] own = refl
  all_by turn seat (note ∷ notes) own =
      let P : Note E → Type 0 = λ note. (note.turn ≡ turn) × (note.seat ≡ seat) in
      let here = (All-front P note notes own).1 in
      ap (λ b. cond b (note ∷ notes_by seat notes) (notes_by seat notes)) (eq-eqb note.seat seat here)
      ∙ ap (λ l. note ∷ l) (all_by turn seat notes (All-rest P note notes own))

  -- a number that no note has makes none
  pub none_above : (count seat : ℕ) (notes : List (Note E)) → count ≤ seat → AreBelow count notes → notes_by seat notes ≡ []
  none_above count seat [] le below = refl
  none_above count seat (note ∷ notes) le below =
      let P : Note E → Type 0 = λ note. note.seat < count in
      let here = All-front P note notes below in
      ap (λ b. cond b (note ∷ notes_by seat notes) (notes_by seat notes)) (ne_eqb note.seat seat (λ e. omega arith))
      ∙ none_above count seat notes le (All-rest P note notes below)

  pub below_own : (turn seat count : ℕ) (notes : List (Note E)) → seat < count → AreOf turn seat notes → AreBelow count notes
  below_own turn seat count notes lt own k d l = let h = (own k d l).1 in omega arith

  pub below_append : (count : ℕ) (xs ys : List (Note E)) → AreBelow count xs → AreBelow count ys → AreBelow count (xs ++ ys)
  below_append count xs ys = All-append (λ note. note.seat < count) xs ys

  pub below_more : (m n : ℕ) (notes : List (Note E)) → m ≤ n → AreBelow m notes → AreBelow n notes
  below_more m n notes le below k d l = let h = below k d l in omega arith

  -- a seat that has no note among these made none of them
  pub notes_by-none : (seat : ℕ) (notes : List (Note E)) → notes_by seat notes ≡ [] → All (λ note. note.seat ≢ seat) notes
  notes_by-none seat [] e = λ k d l. absurd (omega arith)
  notes_by-none seat (note ∷ notes) e =
      let both = other note notes (eqb note.seat seat) refl e in
      All-cons (λ note. note.seat ≢ seat) note notes both.0 (notes_by-none seat notes both.1)
    where
      other : (note : Note E) (notes : List (Note E)) (b : Bool) → eqb note.seat seat ≡ b → cond b (note ∷ notes_by seat notes) (notes_by seat notes) ≡ [] → (note.seat ≢ seat) × (notes_by seat notes ≡ [])
      other note notes true same e = absurd (cc)
      other note notes false apart e = ((λ same. let is = eq-eqb note.seat seat same in absurd (cc)), e)

  -- no note is one of any turn and seat
  pub AreOf-none : (turn seat : ℕ) → AreOf {E = E} turn seat []
  AreOf-none turn seat k d l = absurd (omega arith)

  pub AreOf-one : (turn seat : ℕ) (note : Note E) → note.turn ≡ turn → note.seat ≡ seat → AreOf turn seat (note ∷ [])
  AreOf-one turn seat note in_turn by_seat = All-cons (λ note. (note.turn ≡ turn) × (note.seat ≡ seat)) note [] (in_turn, by_seat) (AreOf-none turn seat)

  pub AreOf-append : (turn seat : ℕ) (xs ys : List (Note E)) → AreOf turn seat xs → AreOf turn seat ys → AreOf turn seat (xs ++ ys)
  AreOf-append turn seat xs ys = All-append (λ note. (note.turn ≡ turn) × (note.seat ≡ seat)) xs ys

  -- what holds of each seat's own notes, of the seats below n, holds of all notes, if each is a seat's below n
  pub every_note : (seats : ℕ) (P : Note E → Type 0) (notes : List (Note E)) → AreBelow seats notes → ((seat : ℕ) → seat < seats → All P (notes_by seat notes)) → All P notes
  every_note seats P [] below each = λ k d l. absurd (omega arith)
  every_note seats P (note ∷ notes) below each =
      let seat : ℕ = note.seat in
      let own : All P (cond (eqb seat seat) (note ∷ notes_by seat notes) (notes_by seat notes)) = each seat (All-front (λ note. note.seat < seats) note notes below) in
      let here = subst (λ (b : Bool). All P (cond b (note ∷ notes_by seat notes) (notes_by seat notes))) (eq-eqb seat seat refl) own in
      All-cons P note notes
      (All-front P note (notes_by seat notes) here)
      (every_note seats P notes (All-rest (λ note. note.seat < seats) note notes below) (λ k lt. later P note (eqb seat k) (notes_by k notes) (each k lt)))
    where
      later : (P : Note E → Type 0) (note : Note E) (b : Bool) (l : List (Note E)) → All P (cond b (note ∷ l) l) → All P l
      later P note true l all = All-rest P note l all
      later P note false l all = all

pub AreZeros-none : AreZeros []
AreZeros-none k d l = absurd (omega arith)

pub AreZeros-one : (number : ℕ) → number ≡ 0 → AreZeros (number ∷ [])
AreZeros-one number zero_is = All-cons (λ number. number ≡ 0) number [] zero_is AreZeros-none
