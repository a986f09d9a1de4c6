use Rattle.std.proofs.Common.{rules, ◌≡◌, ◌≤◌, ◌*◌, [], sym, ap, ◌∙◌, subst, arith}
use Rattle.std.specs.Prelude.{vec_capacity}
use Rattle.turn_cell.specs.Seats.{cell_view}
use Rattle.fabric.specs.NewFabric.{IsNewBoard}
use Rattle.fabric.specs.declared.cells.Cells.{Cells}
use Rattle.fabric.specs.declared.close_buffers.CloseBuffers.{CloseBuffers}
use Rattle.fabric.proofs.NewFabric.{new_boards, opening_first}
use Rattle.fabric.proofs.new_fabric.new_cells.Goals as goal

pub returns-clause-opening : goal.returns-clause-opening
returns-clause-opening g c =
    let cells : Cells g.row.S.Denot = record { shape = c.args.shape; board = c.in-Ok.board; yard = c.in_ok-yard.yard; pools = c.in_ok-cells.cells } in
    let buffers : CloseBuffers g.row.S.Denot = record { board = c.in-Ok.at_board; yard = c.in_ok-yard.at_yard; pools = c.in_ok-pools.pools; closed = c.in_ok-closed.closed } in
    let none_closed : c.in_ok-closed.closed.items ≡ [] = search rules in
    let closed_room : c.args.shape.nodes * c.args.shape.drives ≤ vec_capacity c.in_ok-closed.closed = search rules in
    let none : c.in_ok-cells.cells.items ≡ [] = search rules in
    let cells_room : c.args.shape.nodes * c.args.shape.drives ≤ vec_capacity c.in_ok-cells.cells = search rules in
    let most : c.args.shape.nodes * c.args.shape.drives ≡ c.from.result * c.from-2.result = search rules in
    let buffers_none : c.in_ok-pools.pools.items ≡ [] = search rules in
    let buffers_room : c.args.shape.nodes * c.args.shape.drives ≤ vec_capacity c.in_ok-pools.pools = search rules in
    let board = c.in-Ok.ensures.ok in
    let yard = c.in_ok-yard.ensures.seats in
    let count : (cell_view c.in-Ok.board).seats ≡ c.args.hands = board.0 in
    let yard_count : (cell_view c.in_ok-yard.yard).seats ≡ c.args.hands = c.in_ok-yard.ensures.count in
    let some = c.requires.some in
    let few = c.requires.few in
    let at_board = board.1.0 in
    let at_yard = yard.2.0 in
    let board_ok = c.in-Ok.at_board.ok in
    let board_small = c.in-Ok.at_board.small in
    let yard_ok = c.in_ok-yard.at_yard.ok in
    let yard_small = c.in_ok-yard.at_yard.small in
    opening_first g.S.Slot.place_of cells c.make_hands.result.items c.in_ok-board.board yard.0 c.in-Ok.at_board.items c.in_ok-yard.at_yard.items c.in_ok-seats.seats.items buffers c.nodes.ensures.within
    (omega (arith, count, some)) (omega (arith, count, few)) (yard_count ∙ sym count) none_closed closed_room none cells_room (ap (λ b. b.shape) c.in_ok-board.ensures.ok) board.1 yard.2 yard.1
    c.make_hands.ensures.boards c.make_hands.ensures.yards c.make_hands.ensures.pools (λ k room at. let each = c.in_ok-seats.ensures.each k room at in (each.0, subst (λ n. n ≤ vec_capacity room) (sym most) each.1)) c.make_hands.ensures.buffers (omega (arith, at_board, board_ok, board_small)) (omega (arith, at_yard, yard_ok, yard_small, count, yard_count))
    buffers_none buffers_room

pub returns-clause-boards : goal.returns-clause-boards
returns-clause-boards g c =
    let new = c.in_ok-board.ensures.ok in
    let is : IsNewBoard c.args.shape c.args.room c.in_ok-board.board = record {
      shape_is = ap (λ b. b.shape) new;
      room_is = ap (λ b. b.room) new;
      turns = ap (λ b. b.turns) new;
      seat = ap (λ b. b.seat) new;
      notes = ap (λ b. b.notes) new;
    } in
    new_boards (cell_view c.in-Ok.board) c.in_ok-board.board c.args.shape c.args.room c.make_hands.result.items c.in-Ok.at_board.items c.in-Ok.ensures.ok.1 c.make_hands.ensures.boards is
