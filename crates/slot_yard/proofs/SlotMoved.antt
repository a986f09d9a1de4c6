-- What holds of a yard once a slot was put, taken or retired.
use Rattle.std.proofs.Common.{◌≡◌, ℕ, ◌+◌, ◌*◌, ◌<◌, ◌≤◌, Bool, true, false, List, [], ◌∷◌, ◌++◌, cond, length, refl, sym, ap, ◌∙◌, subst, suc, arith}
use Rattle.std.specs.Prelude.{slice_index_or}
use Rattle.std.specs.List.{All}
use Rattle.std.proofs.lemmas.List.{length-set, length-append}
use Rattle.std.proofs.lemmas.List.Elements.{All-push, All-set}
use Rattle.domains.specs.Counts.{one_if}
use Rattle.domains.specs.Drive.{Drive, IsDrive, same_drive}
use Rattle.domains.specs.Place.{IsPlaceOf}
use Rattle.domains.specs.Shape.{is_of}
use Rattle.domains.proofs.DriveLemmas.{same_drive-eq}
use Rattle.domains.proofs.ShapeLemmas.{IsDrive-of}
use Rattle.flex_io.specs.declared.raw_place.RawPlace.{RawPlace}
use Rattle.held_slots.specs.Slots.{count_on, drive_of, place_from}
use Rattle.held_slots.proofs.SlotCounts.{count_on-push}
use Rattle.slot_yard.specs.declared.counts.Counts.{Counts}
use Rattle.slot_yard.specs.declared.counts.Move.TheVariants.{Put, Take, Retire}
use Rattle.slot_yard.specs.Queues.{IsOldest, queue_of, waiting_in, with_queue, with_slot}
use Rattle.slot_yard.specs.Tallies.{AddUp, count_one, counts_of, rank_of, tally_at, with_counts, with_tally}
use Rattle.slot_yard.specs.Yards.{IsYard, YardView, moved}
use Rattle.slot_yard.proofs.AddUpLemmas.{AddUp-put, AddUp-take, AddUp-retire}
use Rattle.slot_yard.proofs.DriveRanks.{rank_of-eq, rank_of-within}
use Rattle.slot_yard.proofs.QueueLemmas.{AreQueues-with, IsQueueAt, queue_of-with, waiting_in-with}

-- the length of a queue that has one slot more where the test holds
length-more : {S : Type 0} (b : Bool) (queue other : List S) (slot : S) → (b ≡ true → queue ≡ other) → length (cond b (queue ++ slot ∷ []) other) ≡ length other + one_if b
length-more true queue other slot same = let long = length-append queue (slot ∷ []) in let is = ap length (same refl) in omega (arith, long, is)
length-more false queue other slot same = omega arith

-- the length of a queue that has one slot less where the test holds
length-less : {S : Type 0} (b : Bool) (rest other : List S) (slot : S) → (b ≡ true → other ≡ slot ∷ rest) → length other ≡ length (cond b rest other) + one_if b
length-less true rest other slot same = let is = ap length (same refl) in omega (arith, is)
length-less false rest other slot same = omega arith

module _ {S : Type 0} (place_of : S → RawPlace) where
  -- a drive of the cluster has its rank in the tally of the seat
  pub counted_within : (y : YardView S) (d : Drive) → IsYard place_of y → is_of y.shape d ≡ true → rank_of d < length (tally_at y.tallies y.seat)
  counted_within y d is of =
      let seat = is.seat in
      let seats = is.seats in
      subst (λ (n : ℕ). rank_of d < n) (sym (is.drives y.seat [] (omega (arith, seat, seats)))) (rank_of-within y.shape d is.shape of)

  -- a drive of the cluster has a queue
  pub queue_within : (y : YardView S) (d : Drive) → IsYard place_of y → is_of y.shape d ≡ true → rank_of d < length y.waiting
  queue_within y d is of = subst (λ (n : ℕ). rank_of d < n) (sym is.waiting.drives) (rank_of-within y.shape d is.shape of)

  -- what each call that counts keeps
  pub record Counted (y : YardView S) (tallies : List (List Counts)) : Type 0 where
    pub within : y.seat < length y.tallies
    pub seats : length tallies ≡ 32
    pub drives : All (λ tally. length tally ≡ y.shape.nodes * 16) tallies

  pub counted : (y : YardView S) (d : Drive) (how : Counts → Counts) → IsYard place_of y → Counted y (with_tally y.seat (with_counts d how) y.tallies)
  counted y d how is =
      let seat = is.seat in
      let seats = is.seats in
      let within : y.seat < length y.tallies = omega (arith, seat, seats) in
      let tally = tally_at y.tallies y.seat in
      let long = length-set tally (rank_of d) (how (counts_of d tally)) ∙ is.drives y.seat [] within in
      record {
        within = within;
        seats = length-set y.tallies y.seat (with_counts d how tally) ∙ seats;
        drives = All-set (λ tally. length tally ≡ y.shape.nodes * 16) y.tallies y.seat (with_counts d how tally) long is.drives;
      }

  pub IsYard-put : (y : YardView S) (slot : S) → IsYard place_of y → IsPlaceOf y.shape (place_from (place_of slot)) → waiting_in (with_slot place_of slot y.waiting) ≤ 819200
      → IsYard place_of (moved Put (drive_of place_of slot) (with_slot place_of slot y.waiting) y.retired y)
  IsYard-put y slot is place few =
      let e = drive_of place_of slot in
      let kept = counted y e (count_one Put) is in
      let own = All-push (λ slot. IsPlaceOf y.shape (place_from (place_of slot)) × (rank_of (drive_of place_of slot) ≡ rank_of e)) (queue_of e y.waiting) slot (is.waiting.own (rank_of e)) (place, refl) in
      record {
        shape = is.shape;
        seat = is.seat;
        seats = kept.seats;
        drives = kept.drives;
        waiting = AreQueues-with place_of y.shape y.waiting e (queue_of e y.waiting ++ slot ∷ []) is.waiting (queue_within y e is place.drive) own few;
        retired = is.retired;
        few_retired = is.few_retired;
        add_up = λ d of.
            let queue = ap (λ (queue : List S). length queue) (queue_of-with y.shape e d (queue_of e y.waiting ++ slot ∷ []) y.waiting is.shape place.drive of is.waiting.drives) in
            let more = length-more (same_drive e d) (queue_of e y.waiting) (queue_of d y.waiting) slot (λ same. ap (λ (x : Drive). queue_of x y.waiting) (same_drive-eq e d same)) in
            subst (λ (n : ℕ). AddUp n (count_on place_of d y.retired) d (with_tally y.seat (with_counts e (count_one Put)) y.tallies))
            (sym (queue ∙ more))
            (AddUp-put y.shape is.shape e d place.drive of y.tallies y.seat kept.within is.drives _ _ (is.add_up d of));
      }

  pub IsYard-retire : (y : YardView S) (slot : S) → IsYard place_of y → IsPlaceOf y.shape (place_from (place_of slot)) → length (y.retired ++ slot ∷ []) ≤ 819200
      → IsYard place_of (moved Retire (drive_of place_of slot) y.waiting (y.retired ++ slot ∷ []) y)
  IsYard-retire y slot is place few =
      let kept = counted y (drive_of place_of slot) (count_one Retire) is in
      record {
        shape = is.shape;
        seat = is.seat;
        seats = kept.seats;
        drives = kept.drives;
        waiting = is.waiting;
        retired = All-push (λ slot. IsPlaceOf y.shape (place_from (place_of slot))) y.retired slot is.retired place;
        few_retired = few;
        add_up = λ d of.
            subst (λ (n : ℕ). AddUp (length (queue_of d y.waiting)) n d (with_tally y.seat (with_counts (drive_of place_of slot) (count_one Retire)) y.tallies))
            (sym (count_on-push place_of d y.retired slot))
            (AddUp-retire y.shape is.shape (drive_of place_of slot) d place.drive of y.tallies y.seat kept.within is.drives _ _ (is.add_up d of));
      }

  -- a slot that is first in a queue is one of the cluster's, on the drive of the queue's rank
  pub own-first : (y : YardView S) (rank : ℕ) (slot : S) (rest : List S) → IsYard place_of y → slice_index_or y.waiting rank [] ≡ slot ∷ rest
      → IsPlaceOf y.shape (place_from (place_of slot)) × (rank_of (drive_of place_of slot) ≡ rank)
  own-first y rank slot rest is first = subst (IsQueueAt place_of y.shape rank) first (is.waiting.own rank) 0 slot (omega arith)

  -- the slot that is first in a drive's queue is its oldest
  pub IsOldest-first : (y : YardView S) (d : Drive) (slot : S) (rest : List S) → IsYard place_of y → IsDrive d → queue_of d y.waiting ≡ slot ∷ rest
      → IsOldest place_of d slot y.waiting (with_queue d rest y.waiting)
  IsOldest-first y d slot rest is is_d first =
      let own = own-first y (rank_of d) slot rest is first in
      record { rest = rest; old_is = first; new_is = refl; on = rank_of-eq _ d (IsDrive-of y.shape _ is.shape own.0.drive) is_d own.1 }

  -- the slot that is taken is one of the cluster's
  pub IsPlaceOf-taken : (y : YardView S) (d : Drive) (slot : S) (waiting : List (List S)) → IsYard place_of y → IsOldest place_of d slot y.waiting waiting → IsPlaceOf y.shape (place_from (place_of slot))
  IsPlaceOf-taken y d slot waiting is oldest = (own-first y (rank_of d) slot oldest.rest is oldest.old_is).0

  -- a drive of which a slot waits is one of the cluster's
  pub is_of-waiting : (y : YardView S) (d : Drive) (slot : S) (rest : List S) → IsYard place_of y → IsDrive d → queue_of d y.waiting ≡ slot ∷ rest → is_of y.shape d ≡ true
  is_of-waiting y d slot rest is is_d first =
      subst (λ (x : Drive). is_of y.shape x ≡ true) (IsOldest-first y d slot rest is is_d first).on (own-first y (rank_of d) slot rest is first).0.drive

  pub IsYard-take : (y : YardView S) (d : Drive) (slot : S) (rest : List S) → IsYard place_of y → IsDrive d → queue_of d y.waiting ≡ slot ∷ rest
      → IsYard place_of (moved Take d (with_queue d rest y.waiting) y.retired y)
  IsYard-take y e slot rest is is_e first =
      let kept = counted y e (count_one Take) is in
      let of_e = is_of-waiting y e slot rest is is_e first in
      let within = queue_within y e is of_e in
      let all = subst (IsQueueAt place_of y.shape (rank_of e)) first (is.waiting.own (rank_of e)) in
      let long = ap (λ (queue : List S). length queue) first in
      let less = waiting_in-with y.waiting e rest within in
      let few = is.waiting.few in
      record {
        shape = is.shape;
        seat = is.seat;
        seats = kept.seats;
        drives = kept.drives;
        waiting = AreQueues-with place_of y.shape y.waiting e rest is.waiting within (λ k default l. all (suc k) default (omega (arith, l))) (omega (arith, long, less, few));
        retired = is.retired;
        few_retired = is.few_retired;
        add_up = λ d of.
            let queue = ap (λ (queue : List S). length queue) (queue_of-with y.shape e d rest y.waiting is.shape of_e of is.waiting.drives) in
            let more = length-less (same_drive e d) rest (queue_of d y.waiting) slot (λ same. ap (λ (x : Drive). queue_of x y.waiting) (sym (same_drive-eq e d same)) ∙ first) in
            subst (λ (n : ℕ). AddUp n (count_on place_of d y.retired) d (with_tally y.seat (with_counts e (count_one Take)) y.tallies)) (sym queue)
            (AddUp-take y.shape is.shape e d of_e of y.tallies y.seat kept.within is.drives _ _
            (subst (λ (n : ℕ). AddUp n (count_on place_of d y.retired) d y.tallies) more (is.add_up d of)));
      }
