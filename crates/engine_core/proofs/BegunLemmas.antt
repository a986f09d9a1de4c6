-- Who has begun which item, as the log grows.
use Rattle.std.proofs.Common.{◌≡◌, ℕ, zero, suc, ◌<◌, ◌≤◌, ◌⊎◌, inl, inr, true, List, [], ◌∷◌, ◌++◌, length, length-append, drop, Option, Some, None, refl, sym, ap, ◌∙◌, subst, arith, le_trans}
use Rattle.std.proofs.lemmas.List.{get_or-set_other, get_or-set_same, drop-append-le}
use Rattle.std.proofs.lemmas.Bool.{cases_eq}
use Rattle.std.proofs.Math.ListN.{drop_of_length-le}
use Rattle.std.proofs.Math.Seq.{map-set_same}
use Rattle.std.proofs.lemmas.List.{length-set}
use Rattle.std.specs.Prelude.{slice_index_or, slice_set}
use Rattle.std.specs.List.{AllByRecursion}
use Rattle.job_rules.specs.declared.job.JobId.{JobId}
use Rattle.turn_cell.specs.declared.chronicle.Note.{Note}
use Rattle.engine_history.specs.Begun.{IsBegun, entries_of, touches}
use Rattle.engine_history.specs.Jobs.{Field, jobs_after}
use Rattle.engine_history.specs.Steps.{is_item_out}
use Rattle.engine_history.specs.declared.entry.EngineEntry.{EngineEntry}
use Rattle.engine_history.specs.declared.job.JobState.{JobState}
use Rattle.job_log.specs.Jobs.{place_of}
use Rattle.job_log.specs.JobLog.{JobLogView, jobs_of, note_of}
use Rattle.job_log.specs.JobLog.{with_entry as log_with}
use Rattle.job_log.proofs.JobPlaces.{number_is, placed}
use Rattle.engine_core.specs.BegunItems.{AreBegun, count_for, place_in, tally_of}
use Rattle.engine_core.specs.declared.begun.Begun.{Begun}

abbrev pub Places : Type 0
Places = List (Option Begun)

-- ---- one more note

all_last : {A : Type 0} (P : A → Type 0) (xs : List A) (x : A) → AllByRecursion P xs → P x → AllByRecursion P (xs ++ x ∷ [])
all_last P [] x all here = (here, tt)
all_last P (y ∷ ys) x all here = (all.0, all_last P ys x all.1 here)

-- a begun item stays begun where it stays out and no other seat's note touches it
pub begun-note : (field : Field) (seat at : ℕ) (job : JobId) (item : ℕ) (notes : List (Note EngineEntry)) (note : Note EngineEntry) → IsBegun field seat at job item notes
    → is_item_out (jobs_after field (entries_of (notes ++ note ∷ []))) job item ≡ true → (touches job item note.entry.event ≡ true → note.seat ≡ seat)
    → IsBegun field seat at job item (notes ++ note ∷ [])
begun-note field seat at job item notes note begun out own =
    let P : Note EngineEntry → Type 0 = λ n. touches job item n.entry.event ≡ true → n.seat ≡ seat in
    let early = begun.early in
    let more = length-append notes (note ∷ []) in record {
      out = out;
      early = omega (arith, early, more);
      own = subst (AllByRecursion P) (sym (drop-append-le at notes (note ∷ []) early)) (all_last P (drop at notes) note begun.own own);
    }

-- what an entry has to keep, so that what was begun stays begun
pub record KeepsBegun (log : JobLogView) (e : EngineEntry) (begun : Places) : Type 0 where
  pub placed_so : (job : JobId) (order : ℕ) → place_of job (jobs_of (log_with log e)) ≡ Some order → (place_of job (jobs_of log) ≡ Some order) ⊎ (length (jobs_of log) ≤ order)
  pub longer : length (jobs_of log) ≤ length (jobs_of (log_with log e))
  pub out : (job : JobId) (order item : ℕ) (b : Begun) → place_of job (jobs_of log) ≡ Some order → item < 256 → slice_index_or begun (place_in order item) None ≡ Some b
      → is_item_out (jobs_of log) job item ≡ true → is_item_out (jobs_of (log_with log e)) job item ≡ true
  pub own : (job : JobId) (order item : ℕ) (b : Begun) → place_of job (jobs_of log) ≡ Some order → item < 256 → slice_index_or begun (place_in order item) None ≡ Some b
      → is_item_out (jobs_of log) job item ≡ true → touches job item e.event ≡ true → log.seat ≡ b.seat

pub begun-entry : (log : JobLogView) (e : EngineEntry) (begun : Places) → KeepsBegun log e begun → AreBegun log.field (jobs_of log) log.notes begun
    → AreBegun log.field (jobs_of (log_with log e)) (log.notes ++ note_of log e ∷ []) begun
begun-entry log e begun keeps all = record {
  sized = all.sized;
  begun_each = λ job order item b place few is. elim (keeps.placed_so job order place) [
    | inl before ↦
        let was = all.begun_each job order item b before few is in
        begun-note log.field b.seat b.at job item log.notes (note_of log e) was (keeps.out job order item b before few is was.out) (keeps.own job order item b before few is was.out)
    | inr new ↦ absurd (clash b (all.beyond order item new few) is)
  ];
  beyond = λ order item past few. all.beyond order item (le_trans keeps.longer past) few;
}
  where
    clash : (b : Begun) {o : Option Begun} → o ≡ None → o ≡ Some b → ⊥
    clash b none some = cc

-- ---- an item is begun, or is not any more

-- an item that is not begun any more
pub begun-none : (field : Field) (jobs : List JobState) (notes : List (Note EngineEntry)) (begun : Places) (at : ℕ) → AreBegun field jobs notes begun → AreBegun field jobs notes (slice_set begun at None)
begun-none field jobs notes begun at all = record {
  sized = length-set begun at None ∙ all.sized;
  begun_each = λ job order item b place few is. all.begun_each job order item b place few (was (place_in order item) b is);
  beyond = λ order item past few. none (place_in order item) (all.beyond order item past few);
}
  where
    same_or : (k : ℕ) → slice_index_or (slice_set begun at None) k None ≡ slice_index_or begun k None ⊎ (slice_index_or (slice_set begun at None) k None ≡ None)
    same_or k = elim (cases_eq k at) [
      | inr other ↦ inl (get_or-set_other begun at k None None other)
      | inl here ↦ inr (subst (λ n. slice_index_or (slice_set begun at None) n None ≡ None) (sym here) (get_or-set_none begun at))
    ]
      where
        get_or-set_none : (xs : Places) (i : ℕ) → slice_index_or (slice_set xs i None) i None ≡ None
        get_or-set_none [] i = refl
        get_or-set_none (x ∷ xs) zero = refl
        get_or-set_none (x ∷ xs) (suc i) = get_or-set_none xs i

    was : (k : ℕ) (b : Begun) → slice_index_or (slice_set begun at None) k None ≡ Some b → slice_index_or begun k None ≡ Some b
    was k b is = elim (same_or k) [ inl same ↦ sym same ∙ is | inr gone ↦ absurd (clash b gone is) ]
      where
        clash : (b : Begun) {o : Option Begun} → o ≡ None → o ≡ Some b → ⊥
        clash b none some = cc

    none : (k : ℕ) → slice_index_or begun k None ≡ None → slice_index_or (slice_set begun at None) k None ≡ None
    none k was_none = elim (same_or k) [ inl same ↦ same ∙ was_none | inr gone ↦ gone ]

-- the place of an item is no other's
pub one_place : (order item order_2 item_2 : ℕ) → item < 256 → item_2 < 256 → place_in order item ≡ place_in order_2 item_2 → (order ≡ order_2) × (item ≡ item_2)
one_place order item order_2 item_2 few few_2 same = (omega (arith, few, few_2, same), omega (arith, few, few_2, same))

same_job : (job job_2 : JobId) (jobs : List JobState) (order : ℕ) (d : JobState) → place_of job jobs ≡ Some order → place_of job_2 jobs ≡ Some order → job ≡ job_2
same_job job job_2 jobs order d one two =
    let first = number_is job (slice_index_or jobs order d) (placed job jobs order d one).named in
    let second = number_is job_2 (slice_index_or jobs order d) (placed job_2 jobs order d two).named in
    ap (λ (n : ℕ). let made : JobId = record { number = n } in made) (sym first ∙ second)

-- the seat begins an item that is out
pub begun-some : (field : Field) (jobs : List JobState) (notes : List (Note EngineEntry)) (begun : Places) (seat : ℕ) (job : JobId) (order item : ℕ) (d : JobState)
    → jobs ≡ jobs_after field (entries_of notes) → place_of job jobs ≡ Some order → item < 256 → order < length jobs → length jobs ≤ 64 → is_item_out jobs job item ≡ true → AreBegun field jobs notes begun
    → AreBegun field jobs notes (slice_set begun (place_in order item) (Some (record { seat = seat; at = length notes })))
begun-some field jobs notes begun seat job order item d jobs_are place few within small out all = record {
  sized = length-set begun at (Some new) ∙ all.sized;
  begun_each = λ job_2 order_2 item_2 b place_2 few_2 is. elim (cases_eq (place_in order_2 item_2) at) [
    | inr other ↦ all.begun_each job_2 order_2 item_2 b place_2 few_2 (sym (get_or-set_other begun at (place_in order_2 item_2) (Some new) None other) ∙ is)
    | inl here ↦
        let pair = one_place order_2 item_2 order item few_2 few here in
        let job_is : job_2 ≡ job = same_job job_2 job jobs order d (place_2 ∙ ap (λ (n : ℕ). Some n) pair.0) place in
        let b_is : b ≡ new = some_same b new (sym is ∙ ap (λ n. slice_index_or (slice_set begun at (Some new)) n None) here ∙ get_or-set_same begun at (Some new) None room) in
        subst (λ (x : JobId × ℕ × Begun). IsBegun field x.2.seat x.2.at x.0 x.1 notes) (λ i. (sym job_is i, sym pair.1 i, sym b_is i)) begun_now
  ];
  beyond = λ order_2 item_2 past few_2.
      get_or-set_other begun at (place_in order_2 item_2) (Some new) None (λ here. let pair = one_place order_2 item_2 order item few_2 few here in absurd (omega (arith, past, within, pair.0)))
      ∙ all.beyond order_2 item_2 past few_2;
}
  where
    at : ℕ
    at = place_in order item

    new : Begun
    new = record { seat = seat; at = length notes }

    room : at < length begun
    room = subst (λ n. at < n) (sym all.sized) (omega (arith, few, within, small))

    some_same : (a b : Begun) → (let x : Option Begun = Some a in x) ≡ Some b → a ≡ b
    some_same a b same = cc

    begun_now : IsBegun field seat (length notes) job item notes
    begun_now = record {
      out = subst (λ (js : List JobState). is_item_out js job item ≡ true) jobs_are out;
      early = omega arith;
      own = subst (AllByRecursion (λ (n : Note EngineEntry). touches job item n.entry.event ≡ true → n.seat ≡ seat)) (sym (drop_of_length-le notes (omega arith))) tt;
    }

-- ---- tallies

-- a change of one place that the seat cannot tell
pub tally-set : (begun : Places) (at : ℕ) (b : Option Begun) (seat : ℕ) → count_for seat b ≡ count_for seat (slice_index_or begun at None) → tally_of (slice_set begun at b) seat ≡ tally_of begun seat
tally-set begun at b seat same = map-set_same (count_for seat) begun at b None same
