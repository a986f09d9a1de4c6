-- A new yard: no slot, and nothing counted.
use Rattle.std.proofs.Common.{◌≡◌, ℕ, zero, suc, ◌*◌, List, [], ◌∷◌, length, replicate, refl, sym, ap, ◌∙◌, subst, inl, inr, arith}
use Rattle.std.specs.Prelude.{slice_index_or}
use Rattle.std.specs.List.{All, sum_by}
use Rattle.std.proofs.lemmas.Bool.{cases_lt}
use Rattle.std.proofs.lemmas.List.{get_or_past, length-replicate}
use Rattle.std.proofs.lemmas.List.Elements.{All-cons}
use Rattle.std.proofs.lemmas.List.Folds.{sum_by-replicate}
use Rattle.std.proofs.lemmas.List.Sums.{sum_by-cons}
use Rattle.domains.specs.Shape.{Shape, IsShape}
use Rattle.domains.specs.Drive.{Drive}
use Rattle.flex_io.specs.declared.raw_place.RawPlace.{RawPlace}
use Rattle.turn_cell.proofs.NoteLemmas.{AreZeros-none}
use Rattle.turn_cell.specs.Histories.{IsFresh}
use Rattle.turn_cell.specs.Notes.{AreZeros}
use Rattle.slot_yard.specs.declared.counts.Counts.{Counts}
use Rattle.slot_yard.specs.Queues.{AreQueues, by_drive}
use Rattle.slot_yard.specs.Tallies.{AreNew, HasLeft, counts_of, no_counts, numbers_of, rank_of, tally_at}
use Rattle.slot_yard.specs.Yards.{IsNewYard, IsYard, YardView}
use Rattle.slot_yard.proofs.QueueLemmas.{IsQueueAt}

-- no slot of any drive was moved
pub no_counts_at : (n rank : ℕ) → slice_index_or (replicate n no_counts) rank no_counts ≡ no_counts
no_counts_at zero rank = refl
no_counts_at (suc n) zero = refl
no_counts_at (suc n) (suc rank) = no_counts_at n rank

-- in the tallies of a new yard no seat has counted anything
none_counted : (nodes : ℕ) (tallies : List (List Counts)) (f : Counts → ℕ) (d : Drive) → f no_counts ≡ 0 → All (λ tally. tally ≡ replicate (nodes * 16) no_counts) tallies
    → sum_by (λ tally. f (counts_of d tally)) tallies ≡ 0
none_counted nodes [] f d zeros new = refl
none_counted nodes (t ∷ ts) f d zeros new =
    let rest = none_counted nodes ts f d zeros (λ k default l. new (suc k) default (omega (arith, l))) in
    let here : f (counts_of d t) ≡ 0 = ap (λ tally. f (counts_of d tally)) (new 0 t (omega arith)) ∙ (ap f (no_counts_at (nodes * 16) (rank_of d)) ∙ zeros) in
    let all = sum_by-cons (λ tally. f (counts_of d tally)) t ts in
    omega (arith, rest, here, all)

module _ {S : Type 0} where
  -- the queue in which no slot waits
  abbrev no_slots : List S
  no_slots = []

  -- no slot waits in new queues
  queue_of-none : (n rank : ℕ) → slice_index_or (replicate n no_slots) rank no_slots ≡ no_slots
  queue_of-none zero rank = refl
  queue_of-none (suc n) zero = refl
  queue_of-none (suc n) (suc rank) = queue_of-none n rank

  pub by_drive-none : (n : ℕ) → by_drive (replicate n no_slots) ≡ no_slots
  by_drive-none zero = refl
  by_drive-none (suc n) = by_drive-none n

AreQueues-new : {S : Type 0} (place_of : S → RawPlace) (shape : Shape) → AreQueues place_of shape (replicate (shape.nodes * 16) [])
AreQueues-new {S} place_of shape =
    let none = sum_by-replicate (λ (queue : List S). length queue) (shape.nodes * 16) [] in
    record {
      drives = length-replicate (shape.nodes * 16) [];
      own = λ rank. subst (IsQueueAt place_of shape rank) (sym (queue_of-none (shape.nodes * 16) rank)) (λ k default l. absurd (omega (arith, l)));
      few = omega (arith, none);
    }

-- all queues of a new yard are empty
pub IsYard-new : {S : Type 0} (place_of : S → RawPlace) (shape : Shape) (tallies : List (List Counts)) → IsShape shape → AreNew shape.nodes tallies
    → IsYard place_of (record { shape = shape; waiting = replicate (shape.nodes * 16) []; retired = []; tallies = tallies; turns = 0; seat = 0 })
IsYard-new {S} place_of shape tallies is new = record {
  shape = is;
  seat = omega arith;
  seats = new.seats;
  drives = λ k d l. ap length (new.none k d l) ∙ length-replicate (shape.nodes * 16) no_counts;
  waiting = AreQueues-new place_of shape;
  retired = λ k d l. absurd (omega (arith, l));
  few_retired = omega arith;
  add_up = λ d of.
      let empty = ap (λ (queue : List S). length queue) (queue_of-none (shape.nodes * 16) (rank_of d)) in
      let put = none_counted shape.nodes tallies (λ c. c.put) d refl new.none in
      let taken = none_counted shape.nodes tallies (λ c. c.taken) d refl new.none in
      let gone = none_counted shape.nodes tallies (λ c. c.retired) d refl new.none in
      record { waiting_is = omega (arith, empty, put, taken); retired_is = omega (arith, gone) };
}

-- a tally of zeros counts nothing of any drive
pub no_counts_of : (tally : List Counts) (rank : ℕ) → AreZeros (numbers_of tally) → slice_index_or tally rank no_counts ≡ no_counts
no_counts_of [] rank zeros = refl
no_counts_of (c ∷ cs) zero zeros =
    let put : c.put ≡ 0 = zeros 0 0 (omega arith) in
    let taken : c.taken ≡ 0 = zeros 1 0 (omega arith) in
    let retired : c.retired ≡ 0 = zeros 2 0 (omega arith) in
    λ i. record { put = put i; taken = taken i; retired = retired i }
no_counts_of (c ∷ cs) (suc rank) zeros = no_counts_of cs rank (λ k d l. zeros (suc (suc (suc k))) d (omega (arith, l)))

zeros_new : (n : ℕ) → AreZeros (numbers_of (replicate n no_counts))
zeros_new zero = AreZeros-none
zeros_new (suc n) =
    let rest = numbers_of (replicate n no_counts) in
    All-cons (λ number. number ≡ 0) 0 (0 ∷ 0 ∷ rest) refl
    (All-cons (λ number. number ≡ 0) 0 (0 ∷ rest) refl (All-cons (λ number. number ≡ 0) 0 rest refl (zeros_new n)))

zeros_at : (nodes : ℕ) (tallies : List (List Counts)) → AreNew nodes tallies → (number : ℕ) → AreZeros (numbers_of (tally_at tallies number))
zeros_at nodes tallies new number =
    elim (cases_lt number (length tallies)) [
      | inl within ↦ subst (λ (t : List Counts). AreZeros (numbers_of t)) (sym (new.none number [] within)) (zeros_new (nodes * 16))
      | inr past ↦ subst (λ (t : List Counts). AreZeros (numbers_of t)) (sym (get_or_past tallies number [] past)) AreZeros-none
    ]

-- a new yard may be put into a cell
pub IsFresh-new : {S : Type 0} (shape : Shape) (y : YardView S) → IsNewYard shape y → IsFresh {E = Unit {0}} (λ y. y.turns) (λ y. []) (λ y number. numbers_of (tally_at y.tallies number)) y
IsFresh-new shape y new = record { turns = new.turns; notes = refl; tallies = zeros_at shape.nodes y.tallies new.tallies }

-- of a new yard no seat left a slot
pub HasLeft-new : {S : Type 0} (shape : Shape) (y : YardView S) → IsNewYard shape y → (d : Drive) (number : ℕ) → HasLeft d (record { waiting = 0; retired = 0 }) (tally_at y.tallies number)
HasLeft-new shape y new d number =
    let none = no_counts_of (tally_at y.tallies number) (rank_of d) (zeros_at shape.nodes y.tallies new.tallies number) in
    let put = ap (λ c. c.put) none in
    let taken = ap (λ c. c.taken) none in
    let gone = ap (λ c. c.retired) none in
    record { waiting_is = omega (arith, put, taken); retired_is = omega (arith, gone) }
