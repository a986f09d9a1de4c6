use Rattle.std.proofs.Common.{not, sym, ◌∙◌, arith}
use Rattle.domains.specs.Place.{is_place_of}
use Rattle.domains.specs.Level.{two_copies}
use Rattle.domains.specs.DriveSet.{has}
use Rattle.board_history.specs.Board.{up_after}
use Rattle.plain_file.proofs.MirrorRoom.{room_of_same}
use Rattle.plain_file.proofs.DrawnSlots.{draws, second_there, restored}
use Rattle.plain_file.proofs.FaultCauses.{slot_failed}
use Rattle.plain_file.proofs.ReleasedSlots.{draw_failed}
use Rattle.plain_file.proofs.stock.Stock.draw_mirror.Goals as goal

pub unreachable-requires : goal.unreachable-requires
unreachable-requires g c =
    let inside = c.self.inside in
    let usable = rw (← c.self.view_is) at c.requires.usable in
    let same = room_of_same two_copies inside.shape (has inside.up) (up_after inside.shape inside.board.items _) c.mirror_drives.ensures.within c.self.invariant.up_set in
    omega (arith, c.in_default.ensures.none, same, usable)

pub take_top-second-requires : goal.take_top-second-requires
take_top-second-requires g c =
    let inside = c.self.inside in
    let room = rw (← c.self.view_is) at c.requires.room in
    let two = c.in-Some.ensures.found.1 in
    second_there g.S.Slot.place_of g.S.Slot.content inside.free.items c.take_top-first.new.free.items _ _
    c.take_top-first.result c.take_top-first.ensures.moved c.take_top-first.ensures.on two.apart
    (room _ two.is (sym (c.self.invariant.up_set _ two.is) ∙ two.up_there))

pub invariant_of-self-in-Err : goal.invariant_of-self-in-Err
invariant_of-self-in-Err g c =
    let inside = c.self.inside in
    record {
      up_set = c.self.invariant.up_set;
      gone = c.self.invariant.gone;
      free_of =
          restored g.S.Slot.place_of g.S.Slot.content inside.free.items c.take_top-first.new.free.items c.take_top-second.new.free.items
          c.put_back.new.free.items c.take_top-first.result c.take_top-second.result c.write_both.new.pair
          c.take_top-first.ensures.moved c.take_top-second.ensures.moved c.write_both.ensures.places c.put_back.ensures.moved
          (λ s. not (is_place_of inside.shape s))
          ∙ c.self.invariant.free_of;
      retired_of = c.self.invariant.retired_of;
    }

pub returns-in-Ok-clause-ok : goal.returns-in-Ok-clause-ok
returns-in-Ok-clause-ok g c =
    let inside = c.self.inside in
    rw (← c.self.view_is)
    (draws g.S.Slot.place_of g.S.Slot.content inside.shape inside.board.items inside.up inside.free.items
    c.take_top-first.new.free.items c.take_top-second.new.free.items inside.retired.items _ _ _
    _ _ c.take_top-first.result c.take_top-second.result c.write_both.new.pair c.args.bytes.now
    c.self.invariant.up_set c.self.invariant.free_of c.in-Some.ensures.found.0 c.in-Some.ensures.found.1
    c.take_top-first.ensures.on c.take_top-second.ensures.on c.take_top-first.ensures.moved c.take_top-second.ensures.moved
    c.write_both.ensures.places c.in-Ok.ensures.tell c.in-Ok.ensures.ok (omega arith)
    c.take_top-first.ensures.ordered c.take_top-second.ensures.ordered c.take_top-first.ensures.lowest c.take_top-second.ensures.lowest)

pub returns-in-Err-clause-kept : goal.returns-in-Err-clause-kept
returns-in-Err-clause-kept g c =
    let inside = c.self.inside in
    rw (← c.self.view_is) (
      λ p.
          restored g.S.Slot.place_of g.S.Slot.content inside.free.items c.take_top-first.new.free.items c.take_top-second.new.free.items
          c.put_back.new.free.items c.take_top-first.result c.take_top-second.result c.write_both.new.pair
          c.take_top-first.ensures.moved c.take_top-second.ensures.moved c.write_both.ensures.places c.put_back.ensures.moved p,
      omega arith,
    )

pub returns-in-Err-clause-fault : goal.returns-in-Err-clause-fault
returns-in-Err-clause-fault g c =
    let inside = c.self.inside in
    rw (← c.self.view_is) (λ is.
    draw_failed g.S.Slot.place_of g.S.Slot.faults _ c.take_top-first.new.free.items c.take_top-second.new.free.items
    c.take_top-first.result c.take_top-second.result c.write_both.new.pair c.take_top-first.ensures.moved c.take_top-second.ensures.moved
    c.write_both.ensures.places (c.in-Err.ensures.fault (slot_failed _ _ c.from.ensures is)) c.self.invariant.free_of)
