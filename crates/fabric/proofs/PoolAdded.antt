-- One more pool of a fabric that is being opened.
use Rattle.std.proofs.Common.{◌≡◌, ℕ, suc, ◌+◌, ◌*◌, ◌<◌, ◌≤◌, List, [], ◌∷◌, ◌++◌, length, map, true, Some, refl, sym, ap, ◌∙◌, subst, inl, inr, arith, set, add-zero}
use Rattle.std.specs.Global.{Vec}
use Rattle.std.specs.Prelude.{slice_get, slice_index_or, vec_capacity}
use Rattle.std.proofs.lemmas.Bool.{cases_eq, cases_lt}
use Rattle.std.proofs.lemmas.List.{length-append, length-map, length-set, map-append}
use Rattle.std.proofs.lemmas.Option.{slice_get_read, slice_get_within}
use Rattle.board.specs.History.{History}
use Rattle.domains.specs.Shape.{is_of}
use Rattle.domains.specs.Drive.{Drive}
use Rattle.flex_io.specs.declared.raw_place.RawPlace.{RawPlace}
use Rattle.slot_pool.specs.declared.chronicle.DriveSlots.{DriveSlots}
use Rattle.slot_pool.specs.Pools.{AreSlotsOf, PoolView}
use Rattle.slot_yard.specs.Yards.{IsNewYard, YardView}
use Rattle.turn_cell.specs.declared.cell.TurnCell.{TurnCell}
use Rattle.turn_cell.specs.declared.seat.Seat.{Seat}
use Rattle.turn_cell.specs.Seats.{CellView, cell_view, new_seat, seat_view}
use Rattle.turn_cell.proofs.SeatLists.{AreNewFrom-at}
use Rattle.fabric.specs.Cells.{FabricView, cells_view, place_in}
use Rattle.fabric.specs.ClosedFabric.{AreHandsFrom}
use Rattle.fabric.specs.NewFabric.{DealsSeat, IsNewCell, IsNewSoFar, IsOpening, new_pool}
use Rattle.fabric.specs.CloseBuffers.{ChangeEach, HasBuffers}
use Rattle.fabric.specs.Views.{IsHandOf, number_of, seen}
use Rattle.fabric.specs.declared.cells.Cells.{Cells}
use Rattle.fabric.specs.declared.hand.Hand.{Hand}
use Rattle.fabric.specs.declared.close_buffers.CloseBuffers.{CloseBuffers}
use Rattle.fabric.proofs.ListElements.{element_at_push, element_within, same_element, slice_get-left, slice_get-seam, slice_get-set, slice_get-set_other}
use Rattle.fabric.proofs.HandLists.{AreHandsFrom-at}
use Rattle.fabric.proofs.PoolPlaces.{place_within, same_place}

module _ {S : Type 0} where
  -- hands that are the fabric's at each place are all its hands
  pub AreHandsFrom-each : (f : FabricView) (number : ℕ) (hands : List (Hand S)) → ((k : ℕ) (hand : Hand S) → slice_get hands k ≡ Some hand → IsHandOf f hand × (number_of hand ≡ number + k)) → AreHandsFrom f number hands
  AreHandsFrom-each f number [] each = tt
  AreHandsFrom-each f number (hand ∷ hands) each =
      let here = each 0 hand refl in
      (here.0, here.1 ∙ add-zero number, AreHandsFrom-each f (suc number) hands (λ k h at. let next = each (suc k) h at in let count : number + suc k ≡ suc number + k = omega arith in (next.0, next.1 ∙ count)))

  -- with this seat the hand is one of the fabric with one cell more
  hand_next : (f : FabricView) (v : CellView) (d : Drive) (p : PoolView S) (number : ℕ) (seat : Seat (PoolView S)) (o n : Hand S) → is_of f.shape d ≡ true → length f.pools ≡ place_in f.shape d
      → p.drive ≡ d → p.slots ≡ f.shape.slots → seat_view seat ≡ new_seat v p number → number_of o ≡ number → IsHandOf f o
      → n.board ≡ o.board → n.yard ≡ o.yard → n.pools.items ≡ o.pools.items ++ seat ∷ [] → (number_of o ≡ 0 → HasBuffers f.hands (length (f.pools ++ v ∷ [])) n.buffers)
      → IsHandOf (record f { pools = f.pools ++ v ∷ [] }) n
  hand_next f v d p number seat o n of next drive slots new numbered is board yard items buffers =
      let long = length-append f.pools (v ∷ []) in
      let more = length-append o.pools.items (seat ∷ []) in
      let count = ap length items in
      let many = is.many in
      record {
        within = subst (λ (b : Seat History). (seat_view b).number < f.hands) (sym board) is.within;
        board = subst (λ (b : Seat History). ((seat_view b).cell ≡ f.board) × ((seat_view b).idle ≡ true)) (sym board) is.board;
        board_shape = ap (λ (b : Seat History). (seat_view b).last.shape) board ∙ is.board_shape;
        yard = subst (λ (y : Seat (YardView S)). ((seat_view y).cell ≡ f.yard) × ((seat_view y).idle ≡ true)) (sym yard) is.yard;
        yard_number = ap (λ (y : Seat (YardView S)). (seat_view y).number) yard ∙ (is.yard_number ∙ ap (λ (b : Seat History). (seat_view b).number) (sym board));
        yard_shape = ap (λ (y : Seat (YardView S)). (seat_view y).last.shape) yard ∙ is.yard_shape;
        many = omega (arith, long, more, count, many);
        pools = λ k cell s at there.
            elim (element_at_push o.pools.items seat k s (ap (λ l. slice_get l k) (sym items) ∙ there)) [
              | inl before ↦ (
                  let within = slice_get_within o.pools.items k s before in
                  let known = is.pools k cell s (sym (slice_get-left f.pools (v ∷ []) k (omega (arith, within, many))) ∙ at) before in
                  (known.0, known.1 ∙ ap (λ (b : Seat History). (seat_view b).number) (sym board))
                  )
              | inr last ↦ (
                  let place : k ≡ length f.pools = omega (arith, last.0, many) in
                  let cell_is : v ≡ cell = same_element _ _ v cell (slice_get-seam f.pools v []) (ap (slice_get (f.pools ++ v ∷ [])) (sym place)) at in
                  let seat_is : seat_view s ≡ new_seat v p number = ap seat_view (sym last.1) ∙ new in
                  ((ap (λ s. s.cell) seat_is ∙ cell_is, ap (λ s. s.idle) seat_is), ap (λ s. s.number) seat_is ∙ (sym numbered ∙ ap (λ (b : Seat History). (seat_view b).number) (sym board)))
                  )
            ];
        drives = λ e s e_of there.
            elim (element_at_push o.pools.items seat (place_in f.shape e) s (ap (λ l. slice_get l (place_in f.shape e)) (sym items) ∙ there)) [
              | inl before ↦ is.drives e s e_of before
              | inr last ↦ (
                  let place : place_in f.shape d ≡ place_in f.shape e = sym next ∙ (sym many ∙ sym last.0) in
                  let same = same_place f.shape d e of e_of place in
                  let seat_is : seat_view s ≡ new_seat v p number = ap seat_view (sym last.1) ∙ new in
                  (ap (λ s. s.last.drive) seat_is ∙ (drive ∙ same), ap (λ s. s.last.slots) seat_is ∙ slots)
                  )
            ];
        buffers = λ first. buffers (ap (λ (b : Seat History). (seat_view b).number) (sym board) ∙ first);
      }

  -- with this seat the hand knows one new pool more
  new_next : (place_of : S → RawPlace) (f : FabricView) (v : CellView) (d : Drive) (slots : List S) (number : ℕ) (seat : Seat (PoolView S)) (o n : Hand S) → is_of f.shape d ≡ true
      → length f.pools ≡ place_in f.shape d → length o.pools.items ≡ length f.pools → AreSlotsOf place_of d slots → length slots ≡ f.shape.slots → seat_view seat ≡ new_seat v (new_pool d slots) number
      → n.yard ≡ o.yard → n.pools.items ≡ o.pools.items ++ seat ∷ [] → (m : ℕ) → m ≡ length f.pools → IsNewSoFar place_of f.shape m o → IsNewSoFar place_of f.shape (m + 1) n
  new_next place_of f v d slots number seat o n of next many slots_are slots_many new yard items m count is = record {
    yard = subst (IsNewYard f.shape) (ap (λ (y : Seat (YardView S)). (seat_view y).last) (sym yard)) is.yard;
    pools = λ e e_of within.
        elim (cases_lt (place_in f.shape e) m) [
          | inl before ↦ (
              let old = is.pools e e_of before in
              record {
                seat = old.seat;
                seat_is = ap (λ l. seen (slice_get l (place_in f.shape e))) items ∙ (ap seen (slice_get-left o.pools.items (seat ∷ []) (place_in f.shape e) (omega (arith, before, count, many))) ∙ old.seat_is);
                slots = old.slots;
                are = old.are;
                many = old.many;
                last = old.last;
              }
              )
          | inr past ↦ (
              let place : place_in f.shape e ≡ length o.pools.items = omega (arith, past, within, count, many) in
              let same = same_place f.shape d e of e_of (sym next ∙ (sym many ∙ sym place)) in
              record {
                seat = seat_view seat;
                seat_is = ap (λ l. seen (slice_get l (place_in f.shape e))) items ∙ (ap (λ k. seen (slice_get (o.pools.items ++ seat ∷ []) k)) place ∙ ap seen (slice_get-seam o.pools.items seat []));
                slots = slots;
                are = subst (λ x. AreSlotsOf place_of x slots) same slots_are;
                many = slots_many;
                last = ap (λ s. s.last) new ∙ ap (λ x. new_pool x slots) same;
              }
              )
        ];
  }

  -- a hand that got its seat of the new cell; the hand of number 0 got the room for its seats
  record IsNext (hands drives most : ℕ) (k : ℕ) (seat : Seat (PoolView S)) (o n : Hand S) : Type 0 where
    board : n.board ≡ o.board
    yard : n.yard ≡ o.yard
    items : n.pools.items ≡ o.pools.items ++ seat ∷ []
    capacity : vec_capacity n.pools ≡ vec_capacity o.pools
    buffers : k ≡ 0 → HasBuffers hands (suc drives) n.buffers
    buffers_room : k ≡ 0 → most ≤ vec_capacity n.buffers.pools
    closed_room : k ≡ 0 → most ≤ vec_capacity n.buffers.closed

  -- with one more room there is room for the seats at one more pool
  more_buffers : (hands drives : ℕ) (old new : CloseBuffers S) (room : Vec (Seat (PoolView S))) → HasBuffers hands drives old → new.board ≡ old.board → new.yard ≡ old.yard → new.closed ≡ old.closed → suc drives ≤ vec_capacity old.closed → new.pools.items ≡ old.pools.items ++ room ∷ []
      → room.items ≡ [] → hands ≤ vec_capacity room → HasBuffers hands (suc drives) new
  more_buffers hands drives old new room has board yard closed fits items none capacity =
      let more = length-append old.pools.items (room ∷ []) in
      let count = ap length items in
      let many = has.space.many in
      record {
        no_board = ap (λ b. b.items) board ∙ has.no_board;
        no_yard = ap (λ y. y.items) yard ∙ has.no_yard;
        no_closed = ap (λ y. y.items) closed ∙ has.no_closed;
        no_pools = λ k r at.
            elim (element_at_push old.pools.items room k r (ap (λ l. slice_get l k) (sym items) ∙ at)) [
              | inl before ↦ has.no_pools k r before
              | inr last ↦ ap (λ r. r.items) (sym last.1) ∙ none
            ];
        space = record {
          board = subst (λ b. hands ≤ vec_capacity b) (sym board) has.space.board;
          yard = subst (λ y. hands ≤ vec_capacity y) (sym yard) has.space.yard;
          many = omega (arith, more, count, many);
          closed = subst (λ v. suc drives ≤ vec_capacity v) (sym closed) fits;
          pools = λ k r at.
              elim (element_at_push old.pools.items room k r (ap (λ l. slice_get l k) (sym items) ∙ at)) [
                | inl before ↦ has.space.pools k r before
                | inr last ↦ subst (λ r. hands ≤ vec_capacity r) last.1 capacity
              ];
        };
      }

  -- each hand that was dealt to, the first of them with the room, has got what it is to get
  each_next : (hands drives most : ℕ) (seats : List (Seat (PoolView S))) (old dealt : List (Hand S)) (first last : Hand S) (room : Vec (Seat (PoolView S))) → ChangeEach DealsSeat seats old dealt → length seats ≡ length old
      → slice_get dealt 0 ≡ Some first → last.board ≡ first.board → last.yard ≡ first.yard → last.pools ≡ first.pools → last.buffers.board ≡ first.buffers.board → last.buffers.yard ≡ first.buffers.yard → last.buffers.closed ≡ first.buffers.closed
      → last.buffers.pools.items ≡ first.buffers.pools.items ++ room ∷ [] → vec_capacity last.buffers.pools ≡ vec_capacity first.buffers.pools → room.items ≡ [] → hands ≤ vec_capacity room
      → ((o : Hand S) → slice_get old 0 ≡ Some o → HasBuffers hands drives o.buffers × (most ≤ vec_capacity o.buffers.pools) × (most ≤ vec_capacity o.buffers.closed))
      → suc drives ≤ most → (k : ℕ) (n : Hand S) → slice_get (set dealt 0 last) k ≡ Some n
      → (o : Hand S) × (seat : Seat (PoolView S)) × (slice_get old k ≡ Some o) × (slice_get seats k ≡ Some seat) × IsNext hands drives most k seat o n
  each_next hands drives most seats old dealt first last room changed long at board yard pools buffers_board buffers_yard buffers_closed buffers_items buffers_capacity none capacity had few k n there =
      let same = length-set dealt 0 last in
      let within = slice_get_within (set dealt 0 last) k n there in
      let many = changed.many in
      let o = element_within old k (omega (arith, same, within, many)) in
      let seat = element_within seats k (omega (arith, same, within, many, long)) in (
        o.0,
        seat.0,
        o.1,
        seat.1,
        elim (cases_eq k 0) [
          | inl is ↦ (
              let here : slice_get (set dealt 0 last) 0 ≡ Some n = ap (slice_get (set dealt 0 last)) (sym is) ∙ there in
              let n_is : last ≡ n = same_element _ _ last n (slice_get-set dealt 0 last (slice_get_within dealt 0 first at)) refl here in
              let deal = changed.each k seat.0 o.0 first seat.1 o.1 (ap (slice_get dealt) is ∙ at) in
              let was = had o.0 (ap (slice_get old) (sym is) ∙ o.1) in
              subst (IsNext hands drives most k seat.0 o.0) n_is
              (record {
                board = board ∙ deal.board;
                yard = yard ∙ deal.yard;
                items = ap (λ p. p.items) pools ∙ deal.items;
                capacity = ap (λ p. vec_capacity p) pools ∙ deal.capacity;
                buffers = λ zeroth. more_buffers hands drives o.0.buffers last.buffers room was.0 (buffers_board ∙ ap (λ r. r.board) deal.buffers) (buffers_yard ∙ ap (λ r. r.yard) deal.buffers)
                    (buffers_closed ∙ ap (λ r. r.closed) deal.buffers) (let fits = was.2 in omega (arith, fits, few))
                    (buffers_items ∙ ap (λ r. r.pools.items ++ room ∷ []) deal.buffers) none capacity;
                buffers_room = λ zeroth. subst (λ m. most ≤ m) (sym (buffers_capacity ∙ ap (λ r. vec_capacity r.pools) deal.buffers)) was.1;
                closed_room = λ zeroth. subst (λ m. most ≤ vec_capacity m) (sym (buffers_closed ∙ ap (λ r. r.closed) deal.buffers)) was.2;
              })
              )
          | inr other ↦ (
              let deal = changed.each k seat.0 o.0 n seat.1 o.1 (sym (slice_get-set_other dealt 0 last k other) ∙ there) in
              record {
                board = deal.board;
                yard = deal.yard;
                items = deal.items;
                capacity = deal.capacity;
                buffers = λ zeroth. absurd (other zeroth);
                buffers_room = λ zeroth. absurd (other zeroth);
                closed_room = λ zeroth. absurd (other zeroth);
              }
              )
        ],
      )

  -- the fabric that is being opened, with the cell of the next drive
  pub opening_next : (place_of : S → RawPlace) (c : Cells S) (d : Drive) (cell : TurnCell (PoolView S) (Unit {0}) DriveSlots) (seats : List (Seat (PoolView S))) (old dealt : List (Hand S)) (first last : Hand S)
      (room : Vec (Seat (PoolView S))) (pools : Vec (TurnCell (PoolView S) (Unit {0}) DriveSlots)) → IsOpening place_of c old → is_of c.shape d ≡ true → length c.pools.items ≡ place_in c.shape d
      → IsNewCell place_of c.shape (cell_view c.board).seats d (cell_view cell) seats → ChangeEach DealsSeat seats old dealt
      → slice_get dealt 0 ≡ Some first → last.board ≡ first.board → last.yard ≡ first.yard → last.pools ≡ first.pools → last.buffers.board ≡ first.buffers.board → last.buffers.yard ≡ first.buffers.yard → last.buffers.closed ≡ first.buffers.closed
      → last.buffers.pools.items ≡ first.buffers.pools.items ++ room ∷ [] → vec_capacity last.buffers.pools ≡ vec_capacity first.buffers.pools → room.items ≡ [] → (cell_view c.board).seats ≤ vec_capacity room
      → pools.items ≡ c.pools.items ++ cell ∷ [] → vec_capacity pools ≡ vec_capacity c.pools
      → IsOpening place_of (record c { pools = pools }) (set dealt 0 last)
  opening_next place_of c d cell seats old dealt first last room pools is of next new changed at board yard hand_pools buffers_board buffers_yard buffers_closed buffers_items buffers_capacity none capacity items pools_capacity =
      let f = cells_view c in
      let hands = (cell_view c.board).seats in
      let most = c.shape.nodes * c.shape.drives in
      let count = length-map c.pools.items (λ cell. cell_view cell) in
      let all = is.are.0 in
      let long : length seats ≡ length old = new.seats_are.0 ∙ (new.count ∙ sym all) in
      let had : (o : Hand S) → slice_get old 0 ≡ Some o → HasBuffers hands (length f.pools) o.buffers × (most ≤ vec_capacity o.buffers.pools) × (most ≤ vec_capacity o.buffers.closed) =
      λ o o_at. let known = AreHandsFrom-at f 0 old 0 o is.are.1 o_at in (known.0.buffers known.1, is.buffers_room o o_at, is.closed_room o o_at) in
      let each = each_next hands (length f.pools) most seats old dealt first last room changed long at board yard hand_pools buffers_board buffers_yard buffers_closed buffers_items buffers_capacity none capacity had (let within = place_within c.shape d of in omega (arith, within, count, next)) in
      let views : map (λ cell. cell_view cell) pools.items ≡ f.pools ++ cell_view cell ∷ [] = ap (λ l. map (λ cell. cell_view cell) l) items ∙ map-append (λ cell. cell_view cell) c.pools.items (cell ∷ []) in
      let more = length-append f.pools (cell_view cell ∷ []) in
      let more_cells = ap length items ∙ length-append c.pools.items (cell ∷ []) in
      let within = place_within c.shape d of in
      let hand_is : (k : ℕ) (n : Hand S) → slice_get (set dealt 0 last) k ≡ Some n → IsHandOf (record f { pools = f.pools ++ cell_view cell ∷ [] }) n × (number_of n ≡ 0 + k) =
      λ k n there.
      let e = each k n there in
      let known = AreHandsFrom-at f 0 old k e.0 is.are.1 e.2 in
      let step = e.4 in
      let seat_is = AreNewFrom-at (cell_view cell) (new_pool d new.slots) 0 seats k e.1 new.seats_are.1 e.3 in (
        hand_next f (cell_view cell) d (new_pool d new.slots) (0 + k) e.1 e.0 n of (count ∙ next) refl new.many seat_is known.1 known.0 step.board step.yard step.items
            (λ zeroth. subst (λ m. HasBuffers hands m n.buffers) (omega (arith, more)) (step.buffers (let none = sym known.1 ∙ zeroth in omega (arith, none)))),
        ap (λ (b : Seat History). (seat_view b).number) step.board ∙ known.1,
      ) in
      let set_long = length-set dealt 0 last in
      let same = changed.many in
      record {
        cells = record {
          shape = is.cells.shape;
          some_hand = is.cells.some_hand;
          hands = is.cells.hands;
          board = is.cells.board;
          yard = is.cells.yard;
          few = let seen = ap length views in omega (arith, seen, more, count, next, within);
          pools = λ k v v_at.
              elim (element_at_push f.pools (cell_view cell) k v (ap (λ l. slice_get l k) (sym views) ∙ v_at)) [
                | inl before ↦ is.cells.pools k v before
                | inr other ↦ ap (λ v. v.seats) (sym other.1) ∙ new.count
              ];
        };
        are = (set_long ∙ (same ∙ all), subst (λ l. AreHandsFrom (record f { pools = l }) 0 (set dealt 0 last)) (sym views) (AreHandsFrom-each (record f { pools = f.pools ++ cell_view cell ∷ [] }) 0 (set dealt 0 last) hand_is));
        new = λ k n there.
            let e = each k n there in
            let step = e.4 in
            let known = AreHandsFrom-at f 0 old k e.0 is.are.1 e.2 in
            let seat_is = AreNewFrom-at (cell_view cell) (new_pool d new.slots) 0 seats k e.1 new.seats_are.1 e.3 in
            subst (λ m. IsNewSoFar place_of c.shape m n) (sym more_cells)
            (new_next place_of f (cell_view cell) d new.slots (0 + k) e.1 e.0 n of (count ∙ next) known.0.many new.are new.many seat_is step.yard step.items (length c.pools.items) (sym count) (is.new k e.0 e.2));
        cells_room = subst (λ m. most ≤ m) (sym pools_capacity) is.cells_room;
        seats_room = λ k n there. let e = each k n there in subst (λ m. most ≤ m) (sym e.4.capacity) (is.seats_room k e.0 e.2);
        closed_room = λ n there. (each 0 n there).4.closed_room refl;
        buffers_room = λ n there. (each 0 n there).4.buffers_room refl;
      }

  -- the first of the hands that were dealt to
  pub first_dealt : (place_of : S → RawPlace) (c : Cells S) (hands dealt : List (Hand S)) (seats : List (Seat (PoolView S))) (first : Hand S) → IsOpening place_of c hands → ChangeEach DealsSeat seats hands dealt
      → first ≡ slice_index_or dealt 0 first → slice_get dealt 0 ≡ Some first
  first_dealt place_of c hands dealt seats first is changed here =
      let many = changed.many in
      let count = is.are.0 in
      let some = is.cells.some_hand in
      slice_get_read dealt _ 0 first refl (omega (arith, many, count, some)) here

  -- each hand has a seat at the new cell
  pub as_many_seats : (place_of : S → RawPlace) (c : Cells S) (hands : List (Hand S)) (seats : List (Seat (PoolView S))) (d : Drive) (cell : CellView) → IsOpening place_of c hands
      → IsNewCell place_of c.shape (cell_view c.board).seats d cell seats → length seats ≡ length hands
  as_many_seats place_of c hands seats d cell is new = new.seats_are.0 ∙ (new.count ∙ sym is.are.0)

  -- there is room for the next drive's seats, for their room, and for its cell
  pub hands_spare : (place_of : S → RawPlace) (c : Cells S) (hands : List (Hand S)) (d : Drive) → IsOpening place_of c hands → is_of c.shape d ≡ true → length c.pools.items ≡ place_in c.shape d
      → (k : ℕ) (hand : Hand S) → slice_get hands k ≡ Some hand → length hand.pools.items < vec_capacity hand.pools
  hands_spare place_of c hands d is of next k hand at =
      let within = place_within c.shape d of in
      let room = is.seats_room k hand at in
      let many = (AreHandsFrom-at (cells_view c) 0 hands k hand is.are.1 at).0.many in
      let count = length-map c.pools.items (λ cell. cell_view cell) in
      omega (arith, within, room, many, count, next)

  pub buffers_spare : (place_of : S → RawPlace) (c : Cells S) (hands dealt : List (Hand S)) (seats : List (Seat (PoolView S))) (d : Drive) → IsOpening place_of c hands → is_of c.shape d ≡ true → length c.pools.items ≡ place_in c.shape d
      → length seats ≡ length hands → ChangeEach DealsSeat seats hands dealt → (hand : Hand S) → slice_get dealt 0 ≡ Some hand → length hand.buffers.pools.items < vec_capacity hand.buffers.pools
  buffers_spare place_of c hands dealt seats d is of next long changed hand at =
      let within = place_within c.shape d of in
      let some = slice_get_within dealt 0 hand at in
      let many = changed.many in
      let o = element_within hands 0 (omega (arith, some, many)) in
      let seat = element_within seats 0 (omega (arith, some, many, long)) in
      let buffers = (changed.each 0 seat.0 o.0 hand seat.1 o.1 at).buffers in
      let room = is.buffers_room o.0 o.1 in
      let known = AreHandsFrom-at (cells_view c) 0 hands 0 o.0 is.are.1 o.1 in
      let has = (known.0.buffers known.1).space.many in
      let count = length-map c.pools.items (λ cell. cell_view cell) in
      subst (λ r. length r.pools.items < vec_capacity r.pools) (sym buffers) (omega (arith, within, room, has, count, next))

  -- the seats at the board are as they were
  pub same_boards : (seats : List (Seat (PoolView S))) (old dealt : List (Hand S)) (first last : Hand S) → ChangeEach DealsSeat seats old dealt → length seats ≡ length old → slice_get dealt 0 ≡ Some first
      → last.board ≡ first.board → map (λ hand. hand.board) (set dealt 0 last) ≡ map (λ hand. hand.board) old
  same_boards seats old dealt first last changed long at board =
      by_place (set dealt 0 last) old (length-set dealt 0 last ∙ changed.many)
      (λ k n o n_at o_at.
      let within = slice_get_within old k o o_at in
      let seat = element_within seats k (omega (arith, within, long)) in
      elim (cases_eq k 0) [
        | inl is ↦ (
            let n_is : last ≡ n =
            same_element _ _ last n (slice_get-set dealt 0 last (slice_get_within dealt 0 first at)) refl (ap (slice_get (set dealt 0 last)) (sym is) ∙ n_at) in
            ap (λ h. h.board) (sym n_is) ∙ (board ∙ (changed.each k seat.0 o first seat.1 o_at (ap (slice_get dealt) is ∙ at)).board)
            )
        | inr other ↦ (changed.each k seat.0 o n seat.1 o_at (sym (slice_get-set_other dealt 0 last k other) ∙ n_at)).board
      ])
    where
      by_place : (new old : List (Hand S)) → length new ≡ length old → ((k : ℕ) (n o : Hand S) → slice_get new k ≡ Some n → slice_get old k ≡ Some o → n.board ≡ o.board) → map (λ hand. hand.board) new ≡ map (λ hand. hand.board) old
      by_place [] [] count each = refl
      by_place [] (o ∷ os) count each = absurd (omega (arith, count))
      by_place (n ∷ ns) [] count each = absurd (omega (arith, count))
      by_place (n ∷ ns) (o ∷ os) count each =
          let here = each 0 n o refl refl in
          let rest = by_place ns os (omega (arith, count)) (λ k x y x_at y_at. each (suc k) x y x_at y_at) in
          λ i. here i ∷ rest i
