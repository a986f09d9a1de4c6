use Rattle.std.proofs.Common.{rules, ◌≡◌, ◌≤◌, ◌∷◌, ◌++◌, [], refl, ◌∙◌, arith}
use Rattle.std.specs.Prelude.{vec_capacity}
use Rattle.turn_cell.specs.Seats.{cell_view}
use Rattle.fabric.specs.declared.hand.Hand.{Hand}
use Rattle.fabric.proofs.PoolAdded.{as_many_seats, first_dealt, hands_spare, opening_next, buffers_spare, same_boards}
use Rattle.fabric.proofs.PoolPlaces.{place_within}
use Rattle.fabric.proofs.new_pool.add_cell.Goals as goal

pub deal_seats-room-requires-clause-spare : goal.deal_seats-room-requires-clause-spare
deal_seats-room-requires-clause-spare g c κs within = hands_spare g.S.Slot.place_of c.args.cells.now c.args.hands.now.items c.args.drive c.requires.opening c.requires.of c.requires.next

pub push_reserved-requires : goal.push_reserved-requires
push_reserved-requires g c =
    let first = first_dealt g.S.Slot.place_of c.args.cells.now c.args.hands.now.items c.deal_seats-room.new.hands.items c.args.seats.items c.index_mut.result.now c.requires.opening c.deal_seats-room.ensures.dealt
    c.index_mut.ensures.value in
    let long = as_many_seats g.S.Slot.place_of c.args.cells.now c.args.hands.now.items c.args.seats.items c.args.drive (cell_view c.args.cell) c.requires.opening c.requires.cell in
    let spare = buffers_spare g.S.Slot.place_of c.args.cells.now c.args.hands.now.items c.deal_seats-room.new.hands.items c.args.seats.items c.args.drive c.requires.opening c.requires.of c.requires.next long
    c.deal_seats-room.ensures.dealt c.index_mut.result.now first in
    let count = c.index_mut.result.now.buffers.pools.ok in
    omega (arith, spare, count)

pub push_reserved-requires-2 : goal.push_reserved-requires-2
push_reserved-requires-2 g c =
    let within = place_within c.args.cells.now.shape c.args.drive c.requires.of in
    let next = c.requires.next in
    let room = c.requires.opening.cells_room in
    let count = c.args.cells.now.pools.ok in
    omega (arith, within, next, room, count)

pub returns-clause-opening : goal.returns-clause-opening
returns-clause-opening g c =
    let first = first_dealt g.S.Slot.place_of c.args.cells.now c.args.hands.now.items c.deal_seats-room.new.hands.items c.args.seats.items c.index_mut.result.now c.requires.opening c.deal_seats-room.ensures.dealt
    c.index_mut.ensures.value in
    let long = as_many_seats g.S.Slot.place_of c.args.cells.now c.args.hands.now.items c.args.seats.items c.args.drive (cell_view c.args.cell) c.requires.opening c.requires.cell in
    let items : c.push_reserved-2.new.self.items ≡ c.args.cells.now.pools.items ++ c.args.cell ∷ [] = search rules in
    let capacity : vec_capacity c.push_reserved-2.new.self ≡ vec_capacity c.args.cells.now.pools = search rules in
    let buffers_items : c.push_reserved.new.self.items ≡ c.index_mut.result.now.buffers.pools.items ++ c.deal_seats-room.result ∷ [] = search rules in
    let buffers_capacity : vec_capacity c.push_reserved.new.self ≡ vec_capacity c.index_mut.result.now.buffers.pools = search rules in
    let same = c.deal_seats-room.ensures.room in
    let many = c.requires.cell.seats_are.0 ∙ c.requires.cell.count in
    let count = c.args.seats.ok in
    let small = c.args.seats.small in
    let room : (cell_view c.args.cells.now.board).seats ≤ vec_capacity c.deal_seats-room.result = omega (arith, same, many, count, small) in
    let last : Hand g.row.S.Denot = record {
      board = c.index_mut.result.now.board;
      yard = c.index_mut.result.now.yard;
      pools = c.index_mut.result.now.pools;
      buffers = record { board = c.index_mut.result.now.buffers.board; yard = c.index_mut.result.now.buffers.yard; pools = c.push_reserved.new.self; closed = c.index_mut.result.now.buffers.closed };
    } in
    opening_next g.S.Slot.place_of c.args.cells.now c.args.drive c.args.cell c.args.seats.items c.args.hands.now.items c.deal_seats-room.new.hands.items c.index_mut.result.now last c.deal_seats-room.result c.push_reserved-2.new.self
    c.requires.opening c.requires.of c.requires.next c.requires.cell c.deal_seats-room.ensures.dealt first refl refl refl refl refl refl buffers_items buffers_capacity c.deal_seats-room.ensures.none room items capacity

pub returns-clause-boards : goal.returns-clause-boards
returns-clause-boards g c =
    let first = first_dealt g.S.Slot.place_of c.args.cells.now c.args.hands.now.items c.deal_seats-room.new.hands.items c.args.seats.items c.index_mut.result.now c.requires.opening c.deal_seats-room.ensures.dealt
    c.index_mut.ensures.value in
    let long = as_many_seats g.S.Slot.place_of c.args.cells.now c.args.hands.now.items c.args.seats.items c.args.drive (cell_view c.args.cell) c.requires.opening c.requires.cell in
    same_boards c.args.seats.items c.args.hands.now.items c.deal_seats-room.new.hands.items c.index_mut.result.now _ c.deal_seats-room.ensures.dealt long first refl
