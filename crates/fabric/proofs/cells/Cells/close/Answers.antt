use Rattle.std.proofs.Common.{◌≡◌, map, sym, ap, ◌∙◌, subst, arith}
use Rattle.std.specs.Prelude.{Some, slice_get}
use Rattle.std.proofs.lemmas.List.{length-map}
use Rattle.std.specs.Option.{option_map}
use Rattle.std.proofs.lemmas.Option.{slice_get-map, slice_get_within}
use Rattle.turn_cell.specs.Seats.{AreSeatsOf, cell_view}
use Rattle.fabric.specs.Cells.{cells_view}
use Rattle.fabric.specs.ClosedFabric.{ClosesBoard, ClosesYard}
use Rattle.fabric.proofs.ListElements.{element_within}
use Rattle.fabric.proofs.HandLists.{board_idle, can_gather, pool_seats, pools_gathered, yard_closed, yard_idle}
use Rattle.fabric.proofs.cells.Cells.close.Goals as goal

pub gather-buffers-requires-after_bounds : goal.gather-buffers-requires-after_bounds
gather-buffers-requires-after_bounds g c κs within = can_gather (cells_view c.args.self) c.args.hands.items c.requires.cells.some_hand c.requires.hands

pub close_pools-pools-requires-clause-many : goal.close_pools-pools-requires-clause-many
close_pools-pools-requires-clause-many g c κs within =
    pools_gathered (cells_view c.args.self) c.args.hands.items c.gather-buffers.result c.requires.cells.some_hand c.requires.hands c.gather-buffers.ensures
    ∙ length-map c.args.self.pools.items (λ cell. cell_view cell)

pub close_pools-pools-requires-clause-room : goal.close_pools-pools-requires-clause-room
close_pools-pools-requires-clause-room g c κs within =
    let many =
    pools_gathered (cells_view c.args.self) c.args.hands.items c.gather-buffers.result c.requires.cells.some_hand c.requires.hands c.gather-buffers.ensures
    ∙ length-map c.args.self.pools.items (λ cell. cell_view cell) in
    let room = c.gather-buffers.ensures.closed in
    omega (arith, many, room)

pub close_pools-pools-requires-clause-seats : goal.close_pools-pools-requires-clause-seats
close_pools-pools-requires-clause-seats g c κs within k cell room at there =
    let seen : slice_get (cells_view c.args.self).pools k ≡ Some (cell_view cell) = slice_get-map (λ cell. cell_view cell) c.args.self.pools.items k ∙ ap (option_map (λ cell. cell_view cell)) at in
    pool_seats (cells_view c.args.self) c.args.hands.items c.gather-buffers.result k (cell_view cell) room c.requires.hands c.gather-buffers.ensures (c.requires.cells.pools k (cell_view cell) seen) seen there

pub close-requires : goal.close-requires
close-requires g c =
    let idle = yard_idle (cells_view c.args.self) 0 c.args.hands.items c.requires.hands.1 in
    let many = length-map c.args.hands.items (λ hand. hand.yard) in
    let all : AreSeatsOf (cell_view c.args.self.yard) (map (λ hand. hand.yard) c.args.hands.items) = (many ∙ (c.requires.hands.0 ∙ sym c.requires.cells.yard), idle) in
    record { seats = subst (AreSeatsOf (cell_view c.args.self.yard)) (sym c.gather-buffers.ensures.yard) all }

pub close-requires-2 : goal.close-requires-2
close-requires-2 g c =
    let idle = board_idle (cells_view c.args.self) 0 c.args.hands.items c.requires.hands.1 in
    let many = length-map c.args.hands.items (λ hand. hand.board) in
    let all : AreSeatsOf (cell_view c.args.self.board) (map (λ hand. hand.board) c.args.hands.items) = (many ∙ (c.requires.hands.0 ∙ sym c.requires.cells.board), idle) in
    record { seats = subst (AreSeatsOf (cell_view c.args.self.board)) (sym c.gather-buffers.ensures.board) all }

pub returns-clause-board : goal.returns-clause-board
returns-clause-board g c = subst (λ seats. ClosesBoard seats c.close-2.result) c.gather-buffers.ensures.board c.close-2.ensures

pub returns-clause-yard : goal.returns-clause-yard
returns-clause-yard g c =
    yard_closed g.S.Slot.place_of (cells_view c.args.self) c.args.hands.items c.close.result _ _ c.requires.cells.some_hand c.requires.hands c.close-yard.ensures.yard
    (subst (λ seats. ClosesYard seats c.close.result) c.gather-buffers.ensures.yard c.close.ensures) c.close-yard.ensures.waiting c.close-yard.ensures.retired

pub returns-clause-pools : goal.returns-clause-pools
returns-clause-pools g c k pool at =
    let there : slice_get c.close_pools-pools.result.items k ≡ Some pool = ap (λ l. slice_get l k) (sym c.from_vec.ensures) ∙ at in
    let within = slice_get_within c.close_pools-pools.result.items k pool there in
    let many = c.close_pools-pools.ensures.many in
    let gathered =
    pools_gathered (cells_view c.args.self) c.args.hands.items c.gather-buffers.result c.requires.cells.some_hand c.requires.hands c.gather-buffers.ensures
    ∙ length-map c.args.self.pools.items (λ cell. cell_view cell) in
    let room = element_within c.gather-buffers.result.pools.items k (omega (arith, within, many, gathered)) in
    let closed = c.close_pools-pools.ensures.closes k room.0 pool room.1 there in
    record { pool = closed.1; seats = room.0.items; seats_are = c.gather-buffers.ensures.pools k room.0 room.1; closes = closed.0 }
