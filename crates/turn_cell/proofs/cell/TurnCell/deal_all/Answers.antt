use Rattle.std.proofs.Common.{◌≡◌, ◌+◌, [], ◌∷◌, length, arith, sym, ap, subst, ◌∙◌, length-append}
use Rattle.turn_cell.specs.Seats.{AreNewFrom, cell_view, first_state, new_seat}
use Rattle.turn_cell.proofs.SeatLists.{AreNewFrom-push}
use Rattle.turn_cell.proofs.cell.TurnCell.deal_all.Goals as goal

pub loop-number-preserved : goal.loop-number-preserved
loop-number-preserved g c =
    let cell = c.args.self.now in
    let i = c.loop-number.invariant in
    let pushed = c.push_reserved.ensures.items in
    let number : 1 + length c.loop-number.room.items ≡ c.loop-number.number = omega (arith, i.count) in
    let made = AreNewFrom-push (cell_view cell) (first_state cell) 1 _ _ i.made (c.deal-next.ensures.dealt ∙ ap (new_seat (cell_view cell) (first_state cell)) (sym number)) in
    record {
      own = c.deal-next.ensures.own;
      dealer = c.deal-next.ensures.dealer;
      made = subst (AreNewFrom (cell_view cell) (first_state cell) 1) (sym pushed) made;
      count = omega (arith, ap length pushed, length-append c.loop-number.room.items (c.deal-next.result ∷ []), i.count);
      room = c.push_reserved.ensures.capacity ∙ i.room;
    }
