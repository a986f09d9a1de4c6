-- What holds of a yard once a drive was retired with all its slots.
use Rattle.std.proofs.Common.{◌≡◌, ℕ, ◌+◌, ◌≤◌, Bool, true, false, cond, List, [], ◌++◌, length, reverse, refl, sym, ap, ◌∙◌, subst, arith}
use Rattle.std.specs.List.{All}
use Rattle.std.proofs.lemmas.List.{length-append, length-reverse}
use Rattle.std.proofs.lemmas.List.Elements.{All-append}
use Rattle.std.proofs.lemmas.List.Sorted.{All-permutation, IsPermutation-reverse}
use Rattle.domains.specs.Shape.{is_of}
use Rattle.domains.specs.Drive.{Drive, same_drive}
use Rattle.domains.specs.Place.{IsPlaceOf}
use Rattle.domains.proofs.DriveLemmas.{same_drive-eq, same_drive-self}
use Rattle.flex_io.specs.declared.raw_place.RawPlace.{RawPlace}
use Rattle.held_slots.specs.Slots.{IsOn, count_on, is_on, place_from}
use Rattle.held_slots.proofs.SlotCounts.{count_on-append}
use Rattle.slot_yard.specs.Queues.{queue_of}
use Rattle.slot_yard.specs.Tallies.{AddUp, count_all, rank_of, with_counts, with_tally}
use Rattle.slot_yard.specs.Yards.{IsYard, YardView, without_drive}
use Rattle.slot_yard.proofs.AddUpLemmas.{AddUp-all}
use Rattle.slot_yard.proofs.QueueLemmas.{AreQueues-with, count_on-other, is_on-queue, queue_of-with, waiting_in-with}
use Rattle.slot_yard.proofs.SlotMoved.{counted, queue_within}

-- two lengths, each there where the test holds
both_if : (b : Bool) (m n : ℕ) → cond b m 0 + cond b n 0 ≡ cond b (m + n) 0
both_if true m n = refl
both_if false m n = refl

-- a queue that is emptied where the test holds
length-emptied : {S : Type 0} (b : Bool) (queue other : List S) → (b ≡ true → queue ≡ other) → length other ≡ length (cond b [] other) + cond b (length queue) 0
length-emptied true queue other same = let is = ap length (same refl) in omega (arith, is)
length-emptied false queue other same = omega arith

module _ {S : Type 0} (place_of : S → RawPlace) (d : Drive) where
  -- the free slots of a pool and those that waited, behind the retired ones
  count_on-behind : (e : Drive) (retired free queue : List S) → All (λ slot. is_on place_of d slot ≡ true) free → All (λ slot. is_on place_of d slot ≡ true) queue
      → count_on place_of e (retired ++ reverse free ++ queue) ≡ count_on place_of e retired + cond (same_drive d e) (length free + length queue) 0
  count_on-behind e retired free queue free_on queue_on =
      let outer = count_on-append place_of e (retired ++ reverse free) queue in
      let inner = count_on-append place_of e retired (reverse free) in
      let turned = count_on-other place_of d e (reverse free) (All-permutation (λ slot. is_on place_of d slot ≡ true) free (reverse free) (IsPermutation-reverse free) free_on) in
      let long = ap (λ (n : ℕ). cond (same_drive d e) n 0) (length-reverse free) in
      let waited = count_on-other place_of d e queue queue_on in
      let both = both_if (same_drive d e) (length free) (length queue) in
      omega (arith, outer, inner, turned, long, waited, both)

module _ {S : Type 0} (place_of : S → RawPlace) where
  pub IsYard-without : (y : YardView S) (d : Drive) (free : List S) (slots : ℕ) → IsYard place_of y → is_of y.shape d ≡ true → slots ≤ y.shape.slots
      → All (λ slot. IsOn d slots (place_from (place_of slot))) free → length y.retired + (length free + length (queue_of d y.waiting)) ≤ 819200
      → IsYard place_of (without_drive d free y)
  IsYard-without y d free slots is of room on few =
      let queue = queue_of d y.waiting in
      let waited = length queue in
      let gone = length free + waited in
      let kept = counted place_of y d (count_all waited gone) is in
      let within = queue_within place_of y d is of in
      let free_on : All (λ slot. is_on place_of d slot ≡ true) free = λ k default l. ap (λ (x : Drive). same_drive x d) (on k default l).drive_is ∙ same_drive-self d in
      let queue_on = is_on-queue place_of y.shape y.waiting d is.shape is.waiting of in
      let P = λ (slot : S). IsPlaceOf y.shape (place_from (place_of slot)) in
      let places : All P free =
      λ k default l.
      let placed = on k default l in
      let below = placed.within in
      record { drive = ap (is_of y.shape) placed.drive_is ∙ of; slot = omega (arith, below, room) }
      in
      let less = waiting_in-with y.waiting d [] within in
      let few_waiting = is.waiting.few in
      let outer = length-append (y.retired ++ reverse free) queue in
      let inner = length-append y.retired (reverse free) in
      let turned = length-reverse free in
      record {
        shape = is.shape;
        seat = is.seat;
        seats = kept.seats;
        drives = kept.drives;
        waiting = AreQueues-with place_of y.shape y.waiting d [] is.waiting within (λ k default l. absurd (omega (arith, l))) (omega (arith, less, few_waiting));
        retired = All-append P (y.retired ++ reverse free) queue
            (All-append P y.retired (reverse free) is.retired (All-permutation P free (reverse free) (IsPermutation-reverse free) places))
            (λ k default l. (is.waiting.own (rank_of d) k default l).0);
        few_retired = omega (arith, few, outer, inner, turned);
        add_up = λ e of_e.
            let left = ap (λ (queue : List S). length queue) (queue_of-with y.shape d e [] y.waiting is.shape of of_e is.waiting.drives) in
            let less = length-emptied (same_drive d e) queue (queue_of e y.waiting) (λ same. ap (λ (x : Drive). queue_of x y.waiting) (same_drive-eq d e same)) in
            let old = subst (λ (n : ℕ). AddUp n (count_on place_of e y.retired) e y.tallies) less (is.add_up e of_e) in
            subst (λ (n : ℕ). AddUp n (count_on place_of e (y.retired ++ reverse free ++ queue)) e (with_tally y.seat (with_counts d (count_all waited gone)) y.tallies)) (sym left)
            (subst (λ (n : ℕ). AddUp (length (cond (same_drive d e) [] (queue_of e y.waiting))) n e (with_tally y.seat (with_counts d (count_all waited gone)) y.tallies))
            (sym (count_on-behind place_of d e y.retired free queue free_on queue_on))
            (AddUp-all y.shape is.shape d e of of_e y.tallies y.seat kept.within is.drives waited gone _ _ old));
      }
