use Rattle.plain_file.proofs.FirstWrite.{room_left, given_back}
use Rattle.plain_file.proofs.FaultCauses.{same_fault}
use Rattle.plain_file.proofs.ReleasedSlots.{failed_after_draw}
use Rattle.plain_file.proofs.write.draw_both.Goals as goal

pub draw_inode-requires-clause-room : goal.draw_inode-requires-clause-room
draw_inode-requires-clause-room g c =
    room_left g.S.Slot.place_of g.S.Slot.content c.args.stock.now c.draw_mirror.new.self _ c.in_ok-units.units c.in_ok-units.ensures.ok
    c.draw_mirror.ensures.same c.requires.room

pub returns-clause-kept : goal.returns-clause-kept
returns-clause-kept g c =
    given_back g.S.Slot.place_of g.S.Slot.content c.args.stock.now c.draw_mirror.new.self c.draw_inode.new.stock c.give_back.new.self _
    c.in_ok-units.units c.in_ok-units.ensures.ok c.in-Err.ensures.kept.0 c.give_back.ensures.moved

pub returns-clause-fault : goal.returns-clause-fault
returns-clause-fault g c =
    λ is.
    failed_after_draw g.S.Slot.place_of g.S.Slot.content g.S.Slot.faults c.args.stock.now c.draw_mirror.new.self _ c.in_ok-units.units
    c.in_ok-units.ensures.ok c.draw_mirror.ensures.same.shape (c.in-Err.ensures.fault (same_fault c.in-Err.fault is))
