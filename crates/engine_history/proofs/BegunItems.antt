-- What a seat has begun, no note of another seat touches.
use Rattle.std.proofs.Common.{◌≡◌, ℕ, ◌≤◌, true, false, cond, List, [], ◌∷◌, ◌++◌, length, length-append, drop, refl, sym, ap, subst, ◌∙◌, arith, nat_eq, eq-eqb}
use Rattle.std.proofs.lemmas.List.{drop-append-le, nil_from_length}
use Rattle.std.proofs.lemmas.List.Elements.{filter-append}
use Rattle.std.specs.List.{AllByRecursion}
use Rattle.job_rules.specs.declared.job.JobId.{JobId}
use Rattle.turn_cell.specs.Notes.{notes_by}
use Rattle.turn_cell.specs.declared.chronicle.Note.{Note}
use Rattle.engine_history.specs.Begun.{IsBegun, NoneTouches, touches}
use Rattle.engine_history.specs.Jobs.{Field}
use Rattle.engine_history.specs.declared.entry.EngineEntry.{EngineEntry}

abbrev Notes : Type 0
Notes = List (Note EngineEntry)

behind : (P : Note EngineEntry → Type 0) (xs ys : Notes) → AllByRecursion P (xs ++ ys) → AllByRecursion P ys
behind P [] ys all = all
behind P (x ∷ xs) ys all = behind P xs ys all.1

nothing_added : (xs ys : Notes) → xs ++ ys ≡ xs → ys ≡ []
nothing_added xs ys same = nil_from_length ys (omega (arith, length-append xs ys, ap length same))

none_passes : (seat : ℕ) (notes : Notes) → notes_by seat notes ≡ [] → AllByRecursion (λ (note : Note EngineEntry). nat_eq note.seat seat ≡ false) notes
none_passes seat [] none = tt
none_passes seat (n ∷ ns) none =
    elim (nat_eq n.seat seat) as (λ t. nat_eq n.seat seat ≡ t → cond t (n ∷ notes_by seat ns) (notes_by seat ns) ≡ [] → AllByRecursion (λ (note : Note EngineEntry). nat_eq note.seat seat ≡ false) (n ∷ ns)) [
      | true ↦ λ _ some. absurd cc
      | false ↦ λ other rest. (other, none_passes seat ns rest)
    ] refl none

untouched : (seat : ℕ) (job : JobId) (item : ℕ) (notes : Notes) → AllByRecursion (λ (note : Note EngineEntry). touches job item note.entry.event ≡ true → note.seat ≡ seat) notes
    → AllByRecursion (λ (note : Note EngineEntry). nat_eq note.seat seat ≡ false) notes → NoneTouches job item notes
untouched seat job item [] own others = tt
untouched seat job item (n ∷ ns) own others = (
  elim (touches job item n.entry.event) as (λ t. touches job item n.entry.event ≡ t → t ≡ false) [
    | true ↦ λ touched. let same : nat_eq n.seat seat ≡ true = eq-eqb n.seat seat (own.0 touched) in let other : nat_eq n.seat seat ≡ false = others.0 in absurd cc
    | false ↦ λ _. refl
  ] refl,
  untouched seat job item ns own.1 others.1,
)

pub none_touches : (field : Field) (seat at : ℕ) (job : JobId) (item : ℕ) (last more : Notes) → IsBegun field seat at job item (last ++ more) → at ≤ length last
    → notes_by seat (last ++ more) ≡ notes_by seat last → NoneTouches job item more
none_touches field seat at job item last more begun early mine =
    let P : Note EngineEntry → Type 0 = λ note. touches job item note.entry.event ≡ true → note.seat ≡ seat in
    let own : AllByRecursion P more = behind P (drop at last) more (subst (AllByRecursion P) (drop-append-le at last more early) begun.own) in
    let none : notes_by seat more ≡ [] =
    nothing_added (notes_by seat last) (notes_by seat more) (sym (filter-append (λ (note : Note EngineEntry). nat_eq note.seat seat) last more) ∙ mine) in
    untouched seat job item more own (none_passes seat more none)
