-- The queues of waiting slots.
use Rattle.std.proofs.Common.{◌≡◌, ℕ, zero, suc, ◌+◌, ◌*◌, ◌<◌, ◌≤◌, true, cond, List, [], ◌∷◌, length, refl, sym, ap, ◌∙◌, subst, inl, inr, arith}
use Rattle.std.specs.Prelude.{slice_index_or}
use Rattle.std.specs.List.{All}
use Rattle.std.proofs.lemmas.Bool.{cases_Bool, cases_eq, false_from_ne_true}
use Rattle.std.proofs.lemmas.Grind.{get_or-set_at}
use Rattle.std.proofs.lemmas.List.{get_or-set_other, length-set}
use Rattle.std.proofs.lemmas.List.Sums.{sum_by-cons, sum_by-set}
use Rattle.domains.specs.Counts.{one_if}
use Rattle.domains.specs.Drive.{Drive, same_drive}
use Rattle.domains.specs.Place.{IsPlaceOf}
use Rattle.domains.specs.Shape.{Shape, IsShape, is_of}
use Rattle.domains.proofs.DriveLemmas.{eq-same_drive, same_drive-eq}
use Rattle.domains.proofs.ShapeLemmas.{IsDrive-of}
use Rattle.flex_io.specs.declared.raw_place.RawPlace.{RawPlace}
use Rattle.held_slots.specs.Slots.{count_on, drive_of, is_on, place_from}
use Rattle.held_slots.proofs.SlotCounts.{count_on-append, count_on-cons, count_on-none}
use Rattle.slot_yard.specs.Queues.{AreQueues, by_drive, queue_of, waiting_in, with_queue}
use Rattle.slot_yard.specs.Tallies.{rank_of}
use Rattle.slot_yard.proofs.DriveRanks.{rank_of-apart, rank_of-eq, rank_of-within}

module _ {S : Type 0} where
  -- no more slots wait in one queue than in all
  pub length-queue : (queues : List (List S)) (rank : ℕ) → length (slice_index_or queues rank []) ≤ waiting_in queues
  length-queue [] rank = omega arith
  length-queue (queue ∷ queues) zero = let all = sum_by-cons (λ (queue : List S). length queue) queue queues in omega (arith, all)
  length-queue (queue ∷ queues) (suc rank) =
      let all = sum_by-cons (λ (queue : List S). length queue) queue queues in
      let rest = length-queue queues rank in
      omega (arith, all, rest)

  -- how many slots wait, once the drive has another queue
  pub waiting_in-with : (queues : List (List S)) (d : Drive) (queue : List S) → rank_of d < length queues
      → waiting_in (with_queue d queue queues) + length (queue_of d queues) ≡ waiting_in queues + length queue
  waiting_in-with queues d queue within = sum_by-set (λ (queue : List S). length queue) queues (rank_of d) queue [] within

  -- the queue that a drive was given
  pub queue_of-same : (queues : List (List S)) (d : Drive) (queue : List S) → rank_of d < length queues → queue_of d (with_queue d queue queues) ≡ queue
  queue_of-same queues d queue within = get_or-set_at queues (rank_of d) (rank_of d) queue [] refl within

  -- the queue of d, once e has another
  pub queue_of-with : (shape : Shape) (e d : Drive) (queue : List S) (queues : List (List S)) → IsShape shape → is_of shape e ≡ true → is_of shape d ≡ true
      → length queues ≡ shape.nodes * 16 → queue_of d (with_queue e queue queues) ≡ cond (same_drive e d) queue (queue_of d queues)
  queue_of-with shape e d queue queues is of_e of_d long =
      let within : rank_of e < length queues = subst (λ (n : ℕ). rank_of e < n) (sym long) (rank_of-within shape e is of_e) in
      elim (cases_Bool (same_drive e d)) [
        | inl same ↦ (
            ap (λ (x : Drive). queue_of x (with_queue e queue queues)) (sym (same_drive-eq e d same))
            ∙ queue_of-same queues e queue within
            ∙ sym (ap (λ b. cond b queue (queue_of d queues)) same)
            )
        | inr other ↦ (
            get_or-set_other queues (rank_of e) (rank_of d) queue []
            (rank_of-apart e d (IsDrive-of shape e is of_e) (IsDrive-of shape d is of_d) other)
            ∙ sym (ap (λ b. cond b queue (queue_of d queues)) other)
            )
      ]

module _ {S : Type 0} (place_of : S → RawPlace) where
  -- the slots of a queue are at places of the cluster, on the drive of its rank
  abbrev pub IsQueueAt : Shape → ℕ → List S → Type 0
  IsQueueAt shape rank queue = All (λ slot. IsPlaceOf shape (place_from (place_of slot)) × (rank_of (drive_of place_of slot) ≡ rank)) queue

  -- queues of which one was exchanged
  pub AreQueues-with : (shape : Shape) (queues : List (List S)) (d : Drive) (queue : List S) → AreQueues place_of shape queues → rank_of d < length queues
      → IsQueueAt shape (rank_of d) queue → waiting_in (with_queue d queue queues) ≤ 819200 → AreQueues place_of shape (with_queue d queue queues)
  AreQueues-with shape queues d queue are within own few = record {
    drives = length-set queues (rank_of d) queue ∙ are.drives;
    own = λ rank. elim (cases_eq rank (rank_of d)) [
      | inl here ↦ (
          subst (λ (k : ℕ). IsQueueAt shape k (slice_index_or (with_queue d queue queues) k [])) (sym here)
          (subst (IsQueueAt shape (rank_of d)) (sym (queue_of-same queues d queue within)) own)
          )
      | inr other ↦ subst (IsQueueAt shape rank) (sym (get_or-set_other queues (rank_of d) rank queue [] other)) (are.own rank)
    ];
    few = few;
  }

  -- the slots that wait for a drive of the cluster are on it
  pub is_on-queue : (shape : Shape) (queues : List (List S)) (d : Drive) → IsShape shape → AreQueues place_of shape queues → is_of shape d ≡ true
      → All (λ slot. is_on place_of d slot ≡ true) (queue_of d queues)
  is_on-queue shape queues d is are of k default l =
      let own = are.own (rank_of d) k default l in
      eq-same_drive _ d (rank_of-eq _ d (IsDrive-of shape _ is own.0.drive) (IsDrive-of shape d is of) own.1)

  -- of slots that are all on the drive
  pub count_on-all : (d : Drive) (slots : List S) → All (λ slot. is_on place_of d slot ≡ true) slots → count_on place_of d slots ≡ length slots
  count_on-all d [] on = refl
  count_on-all d (x ∷ xs) on =
      let rest = count_on-all d xs (λ k default l. on (suc k) default (omega (arith, l))) in
      let here : one_if (is_on place_of d x) ≡ 1 = ap one_if (on 0 x (omega arith)) in
      let all = count_on-cons place_of d x xs in
      omega (arith, rest, here, all)

  -- slots that are all on one drive, counted on another
  pub count_on-other : (d e : Drive) (slots : List S) → All (λ slot. is_on place_of d slot ≡ true) slots → count_on place_of e slots ≡ cond (same_drive d e) (length slots) 0
  count_on-other d e slots on =
      elim (cases_Bool (same_drive d e)) [
        | inl same ↦ (
            ap (λ (x : Drive). count_on place_of x slots) (sym (same_drive-eq d e same)) ∙ count_on-all d slots on
            ∙ sym (ap (λ b. cond b (length slots) 0) same)
            )
        | inr other ↦ (
            count_on-none place_of e slots (λ k default l. ap (λ (x : Drive). same_drive x e) (same_drive-eq _ d (on k default l)) ∙ other)
            ∙ sym (ap (λ b. cond b (length slots) 0) other)
            )
      ]

  -- of queues from this rank on, none of whose slots is on the drive
  count_on-past : (shape : Shape) (d : Drive) (first : ℕ) (queues : List (List S)) → IsShape shape → is_of shape d ≡ true → rank_of d < first
      → ((k : ℕ) → IsQueueAt shape (first + k) (slice_index_or queues k [])) → count_on place_of d (by_drive queues) ≡ 0
  count_on-past shape d first [] is of past own = refl
  count_on-past shape d first (queue ∷ queues) is of past own =
      let rest = count_on-past shape d (suc first) queues is of (omega (arith, past)) (λ k. subst (λ (n : ℕ). IsQueueAt shape n (slice_index_or queues k [])) (omega arith) (own (suc k))) in
      let none = count_on-none place_of d queue (λ k default l.
      let slot = own 0 k default l in
      false_from_ne_true _ (λ same.
      let rank = ap rank_of (same_drive-eq _ d same) in
      let at = slot.1 in
      absurd (omega (arith, past, rank, at)))) in
      let all = count_on-append place_of d queue (by_drive queues) in
      omega (arith, rest, none, all)

  count_on-from : (shape : Shape) (d : Drive) (first rank : ℕ) (queues : List (List S)) → IsShape shape → is_of shape d ≡ true → rank_of d ≡ first + rank
      → ((k : ℕ) → IsQueueAt shape (first + k) (slice_index_or queues k [])) → count_on place_of d (by_drive queues) ≡ length (slice_index_or queues rank [])
  count_on-from shape d first rank [] is of here own = refl
  count_on-from shape d first zero (queue ∷ queues) is of here own =
      let on : All (λ slot. is_on place_of d slot ≡ true) queue = λ k default l.
      let slot = own 0 k default l in
      let at = slot.1 in
      let rank : rank_of (drive_of place_of (slice_index_or queue k default)) ≡ rank_of d = omega (arith, at, here) in
      eq-same_drive _ d (rank_of-eq _ d (IsDrive-of shape _ is slot.0.drive) (IsDrive-of shape d is of) rank) in
      let mine = count_on-all d queue on in
      let rest = count_on-past shape d (suc first) queues is of (omega (arith, here)) (λ k. subst (λ (n : ℕ). IsQueueAt shape n (slice_index_or queues k [])) (omega arith) (own (suc k))) in
      let all = count_on-append place_of d queue (by_drive queues) in
      omega (arith, mine, rest, all)
  count_on-from shape d first (suc rank) (queue ∷ queues) is of here own =
      let none = count_on-none place_of d queue (λ k default l.
      let slot = own 0 k default l in
      false_from_ne_true _ (λ same.
      let one = ap rank_of (same_drive-eq _ d same) in
      let at = slot.1 in
      absurd (omega (arith, here, one, at)))) in
      let rest = count_on-from shape d (suc first) rank queues is of (omega (arith, here)) (λ k. subst (λ (n : ℕ). IsQueueAt shape n (slice_index_or queues k [])) (omega arith) (own (suc k))) in
      let all = count_on-append place_of d queue (by_drive queues) in
      omega (arith, none, rest, all)

  -- of the slots of all queues those on a drive are as many as wait in its queue
  pub count_on-by_drive : (shape : Shape) (queues : List (List S)) (d : Drive) → IsShape shape → AreQueues place_of shape queues → is_of shape d ≡ true
      → count_on place_of d (by_drive queues) ≡ length (queue_of d queues)
  count_on-by_drive shape queues d is are of =
      count_on-from shape d 0 (rank_of d) queues is of (omega arith) (λ k.
      let same : k ≡ 0 + k = omega arith in
      subst (λ (n : ℕ). IsQueueAt shape n (slice_index_or queues k [])) same (are.own k))
