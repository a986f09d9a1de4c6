-- The slots that the search drew wait to be written.
use Rattle.fabric.specs.Views.{fabric_view}
use Rattle.placement.proofs.GroupDrawn.{is-drawn}
use Rattle.placement.proofs.place_call.draw_group.Goals as goal

pub returns-clause-drawn : goal.returns-clause-drawn
returns-clause-drawn g c =
    is-drawn g.S.Slot.place_of g.S.Slot.content g.S.Slot.len_of g.S.Slot.faults (fabric_view c.args.fabric.now) c.args.request.now c.args.group.now c.requires.new
    c.draw_all.new.search c.args.hand.now c.draw_all.new.hand c.requires.barred c.draw_all.ensures.keeps c.draw_all.ensures.order
    c.take_down.new.from c.take_down.new.to c.take_down.ensures.none c.take_down.ensures.from c.take_down.ensures.all c.take_down.ensures.to
