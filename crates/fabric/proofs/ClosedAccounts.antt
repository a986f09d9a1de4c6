-- The account of a drive: where its slots are once its fabric is closed.
use Rattle.std.proofs.Common.{◌≡◌, ℕ, suc, ◌+◌, ◌-◌, ◌%◌, ◌^◌, ◌<◌, ◌≤◌, List, [], ◌∷◌, length, map, true, Some, refl, sym, ap, ◌∙◌, arith}
use Rattle.std.specs.Prelude.{slice_get}
use Rattle.std.specs.List.{sum, sum_by}
use Rattle.std.proofs.lemmas.List.{length-map}
use Rattle.std.proofs.lemmas.List.Sums.{count_by-le-length, sum_by-cons}
use Rattle.domains.specs.Shape.{is_of}
use Rattle.domains.specs.Drive.{Drive}
use Rattle.flex_io.specs.declared.raw_place.RawPlace.{RawPlace}
use Rattle.slot_pool.specs.Pools.{PoolView}
use Rattle.slot_pool.specs.Tallies.{kept_of, tally_at}
use Rattle.slot_pool.proofs.ClosedPool.{AreKeptFrom-kept_from, kept-closed, kept_from}
use Rattle.held_slots.specs.Slots.{count_on, is_on}
use Rattle.slot_yard.specs.Queues.{queue_of}
use Rattle.slot_yard.specs.Tallies.{Left, counts_of, left_of, rank_of, tally_at as yard_tally_at}
use Rattle.slot_yard.proofs.QueueLemmas.{count_on-by_drive, length-queue}
use Rattle.slot_yard.proofs.ClosedYard.{AreLeftFrom-left_from, left-closed, left_from}
use Rattle.turn_cell.specs.declared.seat.Seat.{Seat}
use Rattle.turn_cell.specs.Seats.{CellView, SeatView, seat_view}
use Rattle.fabric.specs.Accounts.{Holds, own_counts, own_tally}
use Rattle.fabric.specs.Cells.{FabricView, IsFabric, place_in}
use Rattle.fabric.specs.ClosedFabric.{AreHandsFrom, AreHandsOf, AreHolding, ArePoolsOf, AreSeatsAt, AreYardOf, IsAccounted, IsClosedAt, IsExact, IsPoolOf, all_slots}
use Rattle.fabric.specs.Views.{IsHandOf, number_of, seen}
use Rattle.fabric.specs.declared.hand.Hand.{Hand}
use Rattle.fabric.proofs.ListElements.{element_within}
use Rattle.fabric.proofs.HandLists.{pool_closed}
use Rattle.fabric.proofs.PoolPlaces.{place_within}

-- what a hand kept of a pool it left with the yard, or holds
one_hand : (taken given yard_taken put retired many : ℕ) → (taken + yard_taken) % 2 ^ 64 ≡ (given + (put + (retired + many))) % 2 ^ 64
    → (taken + 2 ^ 64 - given % 2 ^ 64) % 2 ^ 64 ≡ ((put + 2 ^ 64 - yard_taken % 2 ^ 64) % 2 ^ 64 + (retired + many)) % 2 ^ 64
one_hand taken given yard_taken put retired many holds = omega (arith, holds)

module _ {S : Type 0} where
  -- the same, by the numbers of the hand's seats
  kept_by_hand : (f : FabricView) (d : Drive) (number many : ℕ) (cell : CellView) (hand : Hand S) (seat : Seat (PoolView S)) → slice_get f.pools (place_in f.shape d) ≡ Some cell → IsHandOf f hand → number_of hand ≡ number
      → slice_get hand.pools.items (place_in f.shape d) ≡ Some seat → Holds f.shape d many hand
      → kept_of (tally_at (seat_view seat).last.tallies number)
      ≡ ((left_of d (yard_tally_at (seat_view hand.yard).last.tallies number)).waiting + ((left_of d (yard_tally_at (seat_view hand.yard).last.tallies number)).retired + many)) % 2 ^ 64
  kept_by_hand f d number many cell hand seat at is numbered here holds =
      let view : holds.pool ≡ seat_view seat = same_view holds.pool (seat_view seat) (sym holds.pool_is ∙ ap seen here) in
      let own = (is.pools (place_in f.shape d) cell seat at here).1 ∙ numbered in
      let tally : own_tally holds.pool ≡ tally_at (seat_view seat).last.tallies number = ap own_tally view ∙ ap (tally_at (seat_view seat).last.tallies) own in
      let counts : own_counts d (seat_view hand.yard) ≡ counts_of d (yard_tally_at (seat_view hand.yard).last.tallies number) =
      ap (λ (n : ℕ). counts_of d (yard_tally_at (seat_view hand.yard).last.tallies n)) (is.yard_number ∙ numbered) in
      let sum = holds.sum in
      let taken = ap (λ t. t.taken) tally in
      let given = ap (λ t. t.given) tally in
      let put = ap (λ c. c.put) counts in
      let back = ap (λ c. c.taken) counts in
      let gone = ap (λ c. c.retired) counts in
      let t = tally_at (seat_view seat).last.tallies number in
      let c = counts_of d (yard_tally_at (seat_view hand.yard).last.tallies number) in
      one_hand t.taken t.given c.taken c.put c.retired many (omega (arith, sum, taken, given, put, back, gone))
    where
      same_view : (v w : SeatView (PoolView S)) → Some v ≡ Some w → v ≡ w
      same_view v w same = cc

  -- what the hands kept of a pool adds up to what they left with the yard and what they hold
  kept_by_hands : (f : FabricView) (d : Drive) (number : ℕ) (cell : CellView) (hands : List (Hand S)) (seats : List (Seat (PoolView S))) (held : List ℕ) → slice_get f.pools (place_in f.shape d) ≡ Some cell
      → AreHandsFrom f number hands → AreSeatsAt (place_in f.shape d) hands seats → AreHolding f.shape d hands held
      → sum (kept_from number seats) % 2 ^ 64
      ≡ (sum_by (λ l. l.waiting) (left_from d number (map (λ hand. hand.yard) hands)) + (sum_by (λ l. l.retired) (left_from d number (map (λ hand. hand.yard) hands)) + sum held)) % 2 ^ 64
  kept_by_hands f d number cell [] [] [] at are seats_are holding = refl
  kept_by_hands f d number cell [] [] (n ∷ ns) at are seats_are holding = absurd holding
  kept_by_hands f d number cell [] (x ∷ xs) held at are seats_are holding = absurd seats_are
  kept_by_hands f d number cell (h ∷ hs) [] held at are seats_are holding = absurd seats_are
  kept_by_hands f d number cell (h ∷ hs) (x ∷ xs) [] at are seats_are holding = absurd holding
  kept_by_hands f d number cell (h ∷ hs) (x ∷ xs) (n ∷ ns) at are seats_are holding =
      let here = kept_by_hand f d number n cell h x at are.0 are.1 seats_are.0 holding.0 in
      let rest = kept_by_hands f d (suc number) cell hs xs ns at are.2 seats_are.1 holding.1 in
      let k = kept_of (tally_at (seat_view x).last.tallies number) in
      let l = left_of d (yard_tally_at (seat_view h.yard).last.tallies number) in
      let kept = sum_by-cons (λ n. n) k (kept_from (suc number) xs) in
      let held = sum_by-cons (λ n. n) n ns in
      let waiting = sum_by-cons (λ (l : Left). l.waiting) l (left_from d (suc number) (map (λ hand. hand.yard) hs)) in
      let retired = sum_by-cons (λ (l : Left). l.retired) l (left_from d (suc number) (map (λ hand. hand.yard) hs)) in
      omega (arith, here, rest, kept, held, waiting, retired)

  -- the slots that waited for the drive are those of its queue
  waiting_on : (place_of : S → RawPlace) (f : FabricView) (hands : List (Hand S)) (waiting retired : List S) (d : Drive) → is_of f.shape d ≡ true → (yard : AreYardOf place_of f.shape hands waiting retired)
      → count_on place_of d waiting ≡ length (queue_of d yard.yard.waiting)
  waiting_on place_of f hands waiting retired d of yard =
      ap (count_on place_of d) yard.waiting_are
      ∙ count_on-by_drive place_of yard.yard.shape yard.yard.waiting d yard.is.shape yard.is.waiting (ap (λ shape. is_of shape d) yard.shape_is ∙ of)

  -- modulo 2^64 the drive has all its slots
  account : (place_of : S → RawPlace) (f : FabricView) (hands : List (Hand S)) (waiting retired : List S) (d : Drive) (p : PoolView S) (held : List ℕ) (cell : CellView) → f.hands ≤ 32
      → slice_get f.pools (place_in f.shape d) ≡ Some cell → AreHandsOf f hands → is_of f.shape d ≡ true → AreYardOf place_of f.shape hands waiting retired → IsPoolOf place_of f.shape hands d p
      → AreHolding f.shape d hands held → all_slots place_of d p waiting retired (sum held) % 2 ^ 64 ≡ f.shape.slots % 2 ^ 64
  account place_of f hands waiting retired d p held cell few at are of yard pool holding =
      let closed = pool.closed in
      let yards = map (λ hand. hand.yard) hands in
      let kept = kept-closed place_of p closed.seats (kept_from 0 closed.seats) closed.pool closed.closes (AreKeptFrom-kept_from 0 closed.seats) in
      let of_yard : is_of yard.yard.shape d ≡ true = ap (λ shape. is_of shape d) yard.shape_is ∙ of in
      let many = length-map hands (λ hand. hand.yard) in
      let all = are.0 in
      let left = left-closed place_of yard.yard yards d (left_from d 0 yards) yard.is yard.closes of_yard (omega (arith, many, all, few)) (AreLeftFrom-left_from d 0 yards) in
      let by_hands = kept_by_hands f d 0 cell hands closed.seats held at are.1 closed.seats_are holding in
      let slots = pool.slots in
      let wait = waiting_on place_of f hands waiting retired d of yard in
      let gone : count_on place_of d retired ≡ count_on place_of d yard.yard.retired = ap (count_on place_of d) yard.retired_are in
      let l = left.0 in
      let r = left.1 in
      omega (arith, kept, l, r, by_hands, slots, wait, gone)

  -- if the hands hold few slots of the drive, it has exactly all its slots
  exact : (place_of : S → RawPlace) (f : FabricView) (hands : List (Hand S)) (waiting retired : List S) (d : Drive) (p : PoolView S) (many : ℕ) → is_of f.shape d ≡ true → AreYardOf place_of f.shape hands waiting retired
      → IsPoolOf place_of f.shape hands d p → many < 2 ^ 63 → all_slots place_of d p waiting retired many % 2 ^ 64 ≡ f.shape.slots % 2 ^ 64 → all_slots place_of d p waiting retired many ≡ f.shape.slots
  exact place_of f hands waiting retired d p many of yard pool small modulo =
      let wait = waiting_on place_of f hands waiting retired d of yard in
      let gone : count_on place_of d retired ≡ count_on place_of d yard.yard.retired = ap (count_on place_of d) yard.retired_are in
      let w = length-queue yard.yard.waiting (rank_of d) in
      let r = count_by-le-length (is_on place_of d) yard.yard.retired in
      let few_waiting = yard.is.waiting.few in
      let few_retired = yard.is.few_retired in
      let within = pool.closed.pool.within in
      let few = pool.closed.pool.few in
      let slots = pool.slots in
      omega (arith, modulo, small, wait, gone, w, r, few_waiting, few_retired, within, few, slots)

  -- each drive has its pool
  pub pools_of : (place_of : S → RawPlace) (f : FabricView) (hands : List (Hand S)) (pools : List (PoolView S)) → IsFabric f → AreHandsOf f hands → length pools ≡ length f.pools
      → ((k : ℕ) (p : PoolView S) → slice_get pools k ≡ Some p → IsClosedAt place_of k hands p) → ArePoolsOf place_of f.shape hands pools
  pools_of place_of f hands pools is are many closed = record {
    many = many ∙ is.many;
    each = λ d p of at. pool_closed place_of f hands d p is.some_hand are of (closed (place_in f.shape d) p at);
  }

  -- modulo 2^64 each drive has all its slots
  pub accounted : (place_of : S → RawPlace) (f : FabricView) (hands : List (Hand S)) (pools : List (PoolView S)) (waiting retired : List S) → IsFabric f → AreHandsOf f hands
      → AreYardOf place_of f.shape hands waiting retired → ArePoolsOf place_of f.shape hands pools → IsAccounted place_of f.shape hands pools waiting retired
  accounted place_of f hands pools waiting retired is are yard all d p held of at holding =
      let within = place_within f.shape d of in
      let many = is.many in
      let cell = element_within f.pools (place_in f.shape d) (omega (arith, within, many)) in
      account place_of f hands waiting retired d p held cell.0 is.hands cell.1 are of yard (all.each d p of at) holding

  -- if together the hands hold few slots of a drive, it has exactly all its slots
  pub exactly : (place_of : S → RawPlace) (f : FabricView) (hands : List (Hand S)) (pools : List (PoolView S)) (waiting retired : List S) → IsFabric f → AreHandsOf f hands
      → AreYardOf place_of f.shape hands waiting retired → ArePoolsOf place_of f.shape hands pools → IsExact place_of f.shape hands pools waiting retired
  exactly place_of f hands pools waiting retired is are yard all d p held n of at holding same small =
      let modulo = accounted place_of f hands pools waiting retired is are yard all d p held of at holding in
      exact place_of f hands waiting retired d p n of yard (all.each d p of at) small (omega (arith, modulo, same))
