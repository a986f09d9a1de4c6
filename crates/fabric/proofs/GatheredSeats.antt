-- The seats of all hands, gathered cell by cell.
use Rattle.std.proofs.Common.{vec_capacity, ◌≡◌, ℕ, suc, ◌≤◌, List, [], ◌∷◌, ◌++◌, length, Some, refl, sym, ap, ◌∙◌, subst, arith, append_assoc, append-nil}
use Rattle.std.specs.Prelude.{slice_get}
use Rattle.std.proofs.lemmas.List.{length-append, length-map, map-append}
use Rattle.std.proofs.lemmas.Option.{slice_get_within}
use Rattle.slot_pool.specs.Pools.{PoolView}
use Rattle.turn_cell.specs.declared.seat.Seat.{Seat}
use Rattle.fabric.specs.ClosedFabric.{AreIn, AreSeatsAt, CanGather}
use Rattle.fabric.specs.CloseBuffers.{HasSpace, HasSpare, TakesIn}
use Rattle.fabric.specs.declared.hand.Hand.{Hand}
use Rattle.fabric.specs.declared.close_buffers.CloseBuffers.{CloseBuffers}
use Rattle.fabric.proofs.ListElements.{element_within, same_element, slice_get-left, slice_get-seam}

module _ {S : Type 0} where
  -- of all hands these are left, and the buffers have the seats of the others
  pub record AreGathered (all left : List (Hand S)) (buffers : CloseBuffers S) : Type 0 where
    pub done : List (Hand S)
    pub drives : ℕ
    pub split : all ≡ done ++ left
    pub are : AreIn done buffers
    pub space : HasSpace (length all) drives buffers
    pub many : (k : ℕ) (hand : Hand S) → slice_get all k ≡ Some hand → length hand.pools.items ≡ drives

  pub AreSeatsAt-push : (place : ℕ) (hands : List (Hand S)) (seats : List (Seat (PoolView S))) (hand : Hand S) (seat : Seat (PoolView S)) → AreSeatsAt place hands seats
      → slice_get hand.pools.items place ≡ Some seat → AreSeatsAt place (hands ++ hand ∷ []) (seats ++ seat ∷ [])
  AreSeatsAt-push place [] [] hand seat are here = (here, tt)
  AreSeatsAt-push place [] (x ∷ xs) hand seat are here = absurd are
  AreSeatsAt-push place (h ∷ hs) [] hand seat are here = absurd are
  AreSeatsAt-push place (h ∷ hs) (x ∷ xs) hand seat are here = (are.0, AreSeatsAt-push place hs xs hand seat are.1 here)

  pub AreSeatsAt-length : (place : ℕ) (hands : List (Hand S)) (seats : List (Seat (PoolView S))) → AreSeatsAt place hands seats → length seats ≡ length hands
  AreSeatsAt-length place [] [] are = refl
  AreSeatsAt-length place [] (x ∷ xs) are = absurd are
  AreSeatsAt-length place (h ∷ hs) [] are = absurd are
  AreSeatsAt-length place (h ∷ hs) (x ∷ xs) are = ap suc (AreSeatsAt-length place hs xs are.1)

  -- empty buffers have the seats of no hand
  pub AreGathered-none : (all : List (Hand S)) → (can : CanGather all) → AreGathered all all can.first.buffers
  AreGathered-none all can = record {
    done = [];
    drives = length can.first.buffers.pools.items;
    split = refl;
    are = record {
      board = can.buffers.no_board;
      yard = can.buffers.no_yard;
      no_closed = can.buffers.no_closed;
      closed = can.buffers.space.closed;
      many = λ k hand at. absurd (cc);
      pools = λ k room at. subst (AreSeatsAt k []) (sym (can.buffers.no_pools k room at)) tt;
    };
    space = can.buffers.space;
    many = can.many;
  }

  -- while a hand is left there is room for its seats
  pub spare_left : (all left : List (Hand S)) (hand : Hand S) (buffers : CloseBuffers S) → AreGathered all (hand ∷ left) buffers
      → HasSpare buffers × (length hand.pools.items ≡ length buffers.pools.items)
  spare_left all left hand buffers are =
      let long = ap length are.split ∙ length-append are.done (hand ∷ left) in
      let board = ap length are.are.board ∙ length-map are.done (λ (h : Hand S). h.board) in
      let yard = ap length are.are.yard ∙ length-map are.done (λ (h : Hand S). h.yard) in
      let board_room = are.space.board in
      let yard_room = are.space.yard in
      let here : slice_get all (length are.done) ≡ Some hand = ap (λ l. slice_get l (length are.done)) are.split ∙ slice_get-seam are.done hand left in (
        record {
          board = omega (arith, long, board, board_room);
          yard = omega (arith, long, yard, yard_room);
          pools = λ k room at.
              let seats = AreSeatsAt-length k are.done room.items (are.are.pools k room at) in
              let pool_room = are.space.pools k room at in
              omega (arith, long, seats, pool_room);
        },
        are.many (length are.done) hand here ∙ sym are.space.many,
      )

  -- the next hand's seats come into the buffers
  pub AreGathered-next : (all left : List (Hand S)) (hand : Hand S) (old new : CloseBuffers S) → AreGathered all (hand ∷ left) old
      → TakesIn hand.board hand.yard hand.pools.items old new → AreGathered all left new
  AreGathered-next all left hand old new are takes =
      let here : slice_get all (length are.done) ≡ Some hand = ap (λ l. slice_get l (length are.done)) are.split ∙ slice_get-seam are.done hand left in
      let pools = takes.pools_take in
      let count = are.many (length are.done) hand here in
      record {
        done = are.done ++ hand ∷ [];
        drives = are.drives;
        split = are.split ∙ sym (append_assoc are.done (hand ∷ []) left);
        are = record {
          board = takes.board_items ∙ (ap (λ l. l ++ hand.board ∷ []) are.are.board ∙ sym (map-append (λ (h : Hand S). h.board) are.done (hand ∷ [])));
          yard = takes.yard_items ∙ (ap (λ l. l ++ hand.yard ∷ []) are.are.yard ∙ sym (map-append (λ (h : Hand S). h.yard) are.done (hand ∷ [])));
          no_closed = ap (λ v. v.items) takes.closed ∙ are.are.no_closed;
          closed = let had = are.are.closed in let long = pools.many in let same = ap (λ v. vec_capacity v) takes.closed in omega (arith, had, long, same);
          many = λ k h at.
              let whole : slice_get all k ≡ Some h =
              ap (λ l. slice_get l k) (are.split ∙ sym (append_assoc are.done (hand ∷ []) left))
              ∙ (slice_get-left (are.done ++ hand ∷ []) left k (slice_get_within (are.done ++ hand ∷ []) k h at) ∙ at) in
              pools.many ∙ (are.space.many ∙ sym (are.many k h whole));
          pools = λ k room at.
              let within = slice_get_within new.pools.items k room at in
              let same = pools.many in
              let space = are.space.many in
              let was = element_within old.pools.items k (omega (arith, within, same)) in
              let seat = element_within hand.pools.items k (omega (arith, within, same, space, count)) in
              subst (AreSeatsAt k (are.done ++ hand ∷ [])) (sym (pools.each k seat.0 was.0 room seat.1 was.1 at).items)
              (AreSeatsAt-push k are.done was.0.items hand seat.0 (are.are.pools k was.0 was.1) seat.1);
        };
        space = record {
          board = subst (λ n. length all ≤ n) (sym takes.board_capacity) are.space.board;
          yard = subst (λ n. length all ≤ n) (sym takes.yard_capacity) are.space.yard;
          many = pools.many ∙ are.space.many;
          closed = subst (λ v. are.drives ≤ vec_capacity v) (sym takes.closed) are.space.closed;
          pools = λ k room at.
              let within = slice_get_within new.pools.items k room at in
              let same = pools.many in
              let space = are.space.many in
              let was = element_within old.pools.items k (omega (arith, within, same)) in
              let seat = element_within hand.pools.items k (omega (arith, within, same, space, count)) in
              subst (λ n. length all ≤ n) (sym (pools.each k seat.0 was.0 room seat.1 was.1 at).capacity) (are.space.pools k was.0 was.1);
        };
        many = are.many;
      }

  -- the first hand's seats come into its own buffers
  pub AreGathered-first : (all left : List (Hand S)) (hand : Hand S) (new : CloseBuffers S) → CanGather all → all ≡ hand ∷ left
      → TakesIn hand.board hand.yard hand.pools.items hand.buffers new → AreGathered all left new
  AreGathered-first all left hand new can is takes =
      let same : can.first ≡ hand = same_element (slice_get (can.first ∷ can.rest) 0) (slice_get (hand ∷ left) 0) can.first hand refl (ap (λ l. slice_get l 0) (sym can.split ∙ is)) refl in
      let begun : AreGathered all (hand ∷ left) hand.buffers = subst (λ (z : List (Hand S) × Hand S). AreGathered all z.0 z.1.buffers) (λ i. (is i, same i)) (AreGathered-none all can) in
      AreGathered-next all left hand hand.buffers new begun takes

  -- once no hand is left the buffers have the seats of all
  pub AreGathered-all : (all left : List (Hand S)) (buffers : CloseBuffers S) → left ≡ [] → AreGathered all left buffers → AreIn all buffers
  AreGathered-all all left buffers none are =
      let whole : all ≡ are.done = are.split ∙ (ap (λ l. are.done ++ l) none ∙ append-nil are.done) in
      subst (λ hands. AreIn hands buffers) (sym whole) are.are
