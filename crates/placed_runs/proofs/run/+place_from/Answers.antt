-- One group, and the run behind it.
use Rattle.std.proofs.Common.{ap, subst, sym, ◌∙◌}
use Rattle.domains.specs.Shape.{Shape}
use Rattle.fabric.specs.Views.{fabric_view}
use Rattle.write_rule.specs.NewBytes.{bytes_of}
use Rattle.placed_runs.specs.PlacedRuns.{HoldsLess, MayGoBack}
use Rattle.placed_runs.proofs.RunSteps.{group_may_go_back, no_group, no_inode, no_room_in, no_room_weaker, no_room_with, none_further, one_more}
use Rattle.placed_runs.proofs.run.+place_from.Goals as goal

pub returns-in_default-clause-no_room : goal.returns-in_default-clause-no_room
returns-in_default-clause-no_room g t c =
    no_room_in c.draw_last.result _ _
    (λ told. no_inode g.S.Slot.place_of g.S.Slot.content g.S.Slot.len_of g.S.Slot.faults c.args.terms.now (fabric_view c.args.desk.now.fabric.now).shape c.args.spin (bytes_of c.args.bytes.now) c.args.from c.args.chunks.now
    c.in_default.len_below told c.args.desk.now.hand.now c.draw_last.new.desk.hand.now)
    c.draw_last.ensures.no_room

pub returns-in-Err-clause-no_room : goal.returns-in-Err-clause-no_room
returns-in-Err-clause-no_room g t c =
    no_room_weaker c.in-Err.refusal _ _
    (λ told. no_group g.S.Slot.place_of g.S.Slot.content g.S.Slot.len_of g.S.Slot.faults c.args.terms.now (fabric_view c.args.desk.now.fabric.now).shape c.args.spin (bytes_of c.args.bytes.now) c.args.from c.args.chunks.now
    c.in-len1-up.len_at_least told c.args.desk.now.hand.now c.place_group.new.desk.hand.now)
    c.in-Err.ensures.no_room

pub give_back_or-requires-clause-back : goal.give_back_or-requires-clause-back
give_back_or-requires-clause-back g t c κs within =
    subst (λ (shape : Shape). MayGoBack g.S.Slot.place_of shape c.args.terms.now.view c.in-Ok.group.slots)
    (sym (ap (λ f. (fabric_view f).shape) (c.place_from.ensures.same.fabric ∙ c.place_group.ensures.same.fabric)))
    (group_may_go_back g.S.Slot.place_of g.S.Slot.content g.S.Slot.len_of g.S.Slot.faults c.args.terms.now (fabric_view c.args.desk.now.fabric.now).shape c.args.spin (bytes_of c.args.bytes.now) c.args.from c.args.chunks.now
    _ (ap (λ f. (fabric_view f).shape) c.place_group.ensures.same.fabric) _ c.from.ensures c.in-Ok.group c.args.desk.now.hand.now c.place_group.new.desk.hand.now c.in-Ok.ensures.placed)

pub returns-in-Ok-place_from-clause-placed : goal.returns-in-Ok-place_from-clause-placed
returns-in-Ok-place_from-clause-placed g t c =
    one_more g.S.Slot.place_of g.S.Slot.content g.S.Slot.len_of g.S.Slot.faults c.args.terms.now (fabric_view c.args.desk.now.fabric.now).shape c.args.spin (bytes_of c.args.bytes.now) c.args.from c.args.chunks.now
    _ (ap (λ f. (fabric_view f).shape) c.place_group.ensures.same.fabric) _ c.from.ensures c.in-Ok.group c.args.desk.now.hand.now c.place_group.new.desk.hand.now c.in-Ok.ensures.placed
    c.in-len1-up.len_at_least c.in-Ok-place_from.stack.groups.items c.with_group.result.groups.items c.in-Ok-place_from.stack.inode c.with_group.result.inode c.place_from.new.desk.hand.now
    c.with_group.ensures.groups c.with_group.ensures.inode c.in-Ok-place_from.ensures.placed

pub returns-in-Err-place_from-clause-no_room : goal.returns-in-Err-place_from-clause-no_room
returns-in-Err-place_from-clause-no_room g t c =
    let same = ap (λ f. (fabric_view f).shape) c.place_group.ensures.same.fabric in
    let behind = ap (λ f. (fabric_view f).shape) c.place_from.ensures.same.fabric in
    no_room_with c.give_back_or.result c.in-Err-place_from.refusal _ _ _
    (λ told less.
    none_further g.S.Slot.place_of g.S.Slot.content g.S.Slot.len_of g.S.Slot.faults c.args.terms.now (fabric_view c.args.desk.now.fabric.now).shape c.args.spin (bytes_of c.args.bytes.now) c.args.from c.args.chunks.now
    _ same _ c.from.ensures c.in-Ok.group c.args.desk.now.hand.now c.place_group.new.desk.hand.now c.in-Ok.ensures.placed
    c.in-len1-up.len_at_least told c.place_from.new.desk.hand.now c.give_back_or.new.desk.hand.now
    (subst (λ (shape : Shape). HoldsLess g.S.Slot.place_of shape c.in-Ok.group.slots c.place_from.new.desk.hand.now c.give_back_or.new.desk.hand.now) behind less))
    c.give_back_or.ensures.no_room c.in-Err-place_from.ensures.no_room
