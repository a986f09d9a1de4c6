-- The hands of a fabric that has no pool yet.
use Rattle.std.proofs.Common.{◌≡◌, ℕ, ◌+◌, ◌*◌, ◌<◌, ◌≤◌, List, [], ◌++◌, length, map, reverse, Some, refl, sym, ap, ◌∙◌, subst, arith}
use Rattle.std.specs.Global.{Vec}
use Rattle.std.specs.Prelude.{slice_get, vec_capacity}
use Rattle.std.proofs.lemmas.List.{length-map}
use Rattle.std.specs.Option.{option_map}
use Rattle.std.proofs.lemmas.Option.{slice_get-map, slice_get_within}
use Rattle.board.specs.History.{History}
use Rattle.domains.specs.Shape.{Shape, IsShape}
use Rattle.flex_io.specs.declared.raw_place.RawPlace.{RawPlace}
use Rattle.slot_pool.specs.Pools.{PoolView}
use Rattle.slot_yard.specs.Yards.{IsNewYard, YardView}
use Rattle.turn_cell.specs.declared.seat.Seat.{Seat}
use Rattle.turn_cell.specs.Seats.{AreNewSeats, CellView, cell_view, new_seat, seat_view}
use Rattle.turn_cell.proofs.SeatLists.{AreNewFrom-at}
use Rattle.fabric.specs.Cells.{FabricView, cells_view, place_in}
use Rattle.fabric.specs.NewFabric.{IsNewBoard, IsOpening}
use Rattle.fabric.specs.CloseBuffers.{AreEmptied, HasBuffers}
use Rattle.fabric.specs.Views.{IsHandOf, number_of}
use Rattle.fabric.specs.declared.cells.Cells.{Cells}
use Rattle.fabric.specs.declared.hand.Hand.{Hand}
use Rattle.fabric.specs.declared.close_buffers.CloseBuffers.{CloseBuffers}
use Rattle.fabric.proofs.PoolAdded.{AreHandsFrom-each}

-- all values are those that are left and, from the last to the first, those of what was made of the others
pub record Unfolds {A B : Type 0} (f : B → A) (all left : List A) (made : List B) : Type 0 where
  pub split : all ≡ left ++ map f (reverse made)

module _ {S : Type 0} where
  -- the seat of the hand at this place
  seat_at : {A : Type 0} (f : Hand S → A) (hands : List (Hand S)) (seats : List A) (k : ℕ) (hand : Hand S) → map f hands ≡ seats → slice_get hands k ≡ Some hand → slice_get seats k ≡ Some (f hand)
  seat_at f hands seats k hand same at = ap (λ l. slice_get l k) (sym same) ∙ (slice_get-map f hands k ∙ ap (option_map f) at)

  -- the board's state that the hands know
  pub new_boards : (cell : CellView) (board : History) (shape : Shape) (room : ℕ) (hands : List (Hand S)) (seats : List (Seat History)) → AreNewSeats cell board seats → map (λ hand. hand.board) hands ≡ seats
      → IsNewBoard shape room board → (k : ℕ) (hand : Hand S) → slice_get hands k ≡ Some hand → IsNewBoard shape room (seat_view hand.board).last
  new_boards cell board shape room hands seats new same is k hand at =
      let seen = AreNewFrom-at cell board 0 seats k hand.board new.1 (seat_at (λ hand. hand.board) hands seats k hand same at) in
      subst (IsNewBoard shape room) (sym (ap (λ s. s.last) seen)) is

  -- the buffers of the first hand
  buffers_first : (hands : ℕ) (buffers old : CloseBuffers S) → AreEmptied old buffers → hands ≤ vec_capacity old.board → hands ≤ vec_capacity old.yard → old.pools.items ≡ [] → old.closed.items ≡ [] → HasBuffers hands 0 buffers
  buffers_first hands buffers old are board yard none none_closed =
      let pools : buffers.pools.items ≡ [] = ap (λ p. p.items) are.pools ∙ none in
      let nowhere : (k : ℕ) (room : Vec (Seat (PoolView S))) → slice_get buffers.pools.items k ≡ Some room → ⊥ =
      λ k room at. let within = slice_get_within buffers.pools.items k room at in let count = ap length pools in omega (arith, within, count) in
      record {
        no_board = are.no_board;
        no_yard = are.no_yard;
        no_closed = ap (λ p. p.items) are.closed ∙ none_closed;
        no_pools = λ k room at. absurd (nowhere k room at);
        space = record {
          board = subst (λ n. hands ≤ n) (sym are.board) board;
          yard = subst (λ n. hands ≤ n) (sym are.yard) yard;
          many = ap length pools;
          closed = omega arith;
          pools = λ k room at. absurd (nowhere k room at);
        };
      }

  -- a hand of new seats and no pool
  hand_first : (f : FabricView) (board : History) (yard : YardView S) (k : ℕ) (hand : Hand S) → k < f.hands → f.pools ≡ [] → board.shape ≡ f.shape → yard.shape ≡ f.shape
      → seat_view hand.board ≡ new_seat f.board board (0 + k) → seat_view hand.yard ≡ new_seat f.yard yard (0 + k) → hand.pools.items ≡ [] → (k ≡ 0 → HasBuffers f.hands 0 hand.buffers) → IsHandOf f hand
  hand_first f board yard k hand within none board_shape yard_shape at_board at_yard pools buffers =
      let number : number_of hand ≡ 0 + k = ap (λ s. s.number) at_board in
      let cells = ap length none in
      let seats = ap length pools in
      record {
        within = omega (arith, number, within);
        board = (ap (λ s. s.cell) at_board, ap (λ s. s.idle) at_board);
        board_shape = ap (λ s. s.last.shape) at_board ∙ board_shape;
        yard = (ap (λ s. s.cell) at_yard, ap (λ s. s.idle) at_yard);
        yard_number = ap (λ s. s.number) at_yard ∙ sym number;
        yard_shape = ap (λ s. s.last.shape) at_yard ∙ yard_shape;
        many = omega (arith, cells, seats);
        pools = λ j cell seat at there. let past = slice_get_within f.pools j cell at in absurd (omega (arith, past, cells));
        drives = λ d seat of there. let past = slice_get_within hand.pools.items (place_in f.shape d) seat there in absurd (omega (arith, past, seats));
        buffers = λ zeroth. subst (λ n. HasBuffers f.hands n hand.buffers) (sym cells) (buffers (omega (arith, number, zeroth)));
      }

  -- new cells of a board and a yard, their hands, and the room for all pools
  pub opening_first : (place_of : S → RawPlace) (c : Cells S) (hands : List (Hand S)) (board : History) (yard : YardView S) (board_seats : List (Seat History)) (yard_seats : List (Seat (YardView S)))
      (seats : List (Vec (Seat (PoolView S)))) (buffers : CloseBuffers S) → IsShape c.shape → 1 ≤ (cell_view c.board).seats → (cell_view c.board).seats ≤ 32 → (cell_view c.yard).seats ≡ (cell_view c.board).seats
      → buffers.closed.items ≡ [] → c.shape.nodes * c.shape.drives ≤ vec_capacity buffers.closed → c.pools.items ≡ [] → c.shape.nodes * c.shape.drives ≤ vec_capacity c.pools → board.shape ≡ c.shape → AreNewSeats (cell_view c.board) board board_seats
      → AreNewSeats (cell_view c.yard) yard yard_seats → IsNewYard c.shape yard → map (λ hand. hand.board) hands ≡ board_seats → map (λ hand. hand.yard) hands ≡ yard_seats → map (λ hand. hand.pools) hands ≡ seats
      → ((k : ℕ) (room : Vec (Seat (PoolView S))) → slice_get seats k ≡ Some room → (room.items ≡ []) × (c.shape.nodes * c.shape.drives ≤ vec_capacity room))
      → ((hand : Hand S) → slice_get hands 0 ≡ Some hand → AreEmptied buffers hand.buffers) → (cell_view c.board).seats ≤ vec_capacity buffers.board → (cell_view c.board).seats ≤ vec_capacity buffers.yard
      → buffers.pools.items ≡ [] → c.shape.nodes * c.shape.drives ≤ vec_capacity buffers.pools → IsOpening place_of c hands
  opening_first place_of c hands board yard board_seats yard_seats seats buffers cluster some few yard_count none_closed closed_room none cells_room board_shape new_board new_yard is_new boards yards pools empty emptied board_room yard_room buffers_none buffers_room =
      let f = cells_view c in
      let no_cells : f.pools ≡ [] = ap (λ l. map (λ cell. cell_view cell) l) none in
      let no_cells_length = ap length no_cells in
      let long : length hands ≡ f.hands = sym (length-map hands (λ hand. hand.board)) ∙ (ap length boards ∙ new_board.0) in
      let at_yard : (k : ℕ) (hand : Hand S) → slice_get hands k ≡ Some hand → seat_view hand.yard ≡ new_seat f.yard yard (0 + k) =
      λ k hand at. AreNewFrom-at f.yard yard 0 yard_seats k hand.yard new_yard.1 (seat_at (λ hand. hand.yard) hands yard_seats k hand yards at) in
      let at_pools : (k : ℕ) (hand : Hand S) → slice_get hands k ≡ Some hand → (hand.pools.items ≡ []) × (c.shape.nodes * c.shape.drives ≤ vec_capacity hand.pools) =
      λ k hand at. empty k hand.pools (seat_at (λ hand. hand.pools) hands seats k hand pools at) in
      let each : (k : ℕ) (hand : Hand S) → slice_get hands k ≡ Some hand → IsHandOf f hand × (number_of hand ≡ 0 + k) =
      λ k hand at.
      let at_board = AreNewFrom-at f.board board 0 board_seats k hand.board new_board.1 (seat_at (λ hand. hand.board) hands board_seats k hand boards at) in
      let within = slice_get_within hands k hand at in (
        hand_first f board yard k hand (omega (arith, within, long)) no_cells board_shape is_new.shape_is at_board (at_yard k hand at) (at_pools k hand at).0
            (λ zeroth. buffers_first f.hands hand.buffers buffers (emptied hand (ap (slice_get hands) (sym zeroth) ∙ at)) board_room yard_room buffers_none none_closed),
        ap (λ s. s.number) at_board,
      ) in
      record {
        cells = record {
          shape = cluster;
          some_hand = some;
          hands = few;
          board = refl;
          yard = yard_count;
          few = omega (arith, no_cells_length);
          pools = λ k cell at. let past = slice_get_within f.pools k cell at in absurd (omega (arith, past, no_cells_length));
        };
        are = (long, AreHandsFrom-each f 0 hands each);
        new = λ k hand at. record {
          yard = subst (IsNewYard c.shape) (sym (ap (λ s. s.last) (at_yard k hand at))) is_new;
          pools = λ d of past. let count = ap length none in absurd (omega (arith, past, count));
        };
        cells_room = cells_room;
        seats_room = λ k hand at. (at_pools k hand at).1;
        closed_room = λ hand at. subst (λ p. c.shape.nodes * c.shape.drives ≤ vec_capacity p) (sym (emptied hand at).closed) closed_room;
        buffers_room = λ hand at. subst (λ p. c.shape.nodes * c.shape.drives ≤ vec_capacity p) (sym (emptied hand at).pools) buffers_room;
      }
