-- One operation more of the order is played, or the run stops.
use Rattle.std.proofs.Common.{suc, List, length, map, take, drop, slice_index_or, sym, subst, ◌∙◌}
use Rattle.std.proofs.lemmas.List.{take_more}
use Rattle.std.proofs.lemmas.Option.{slice_get-get_or}
use Rattle.domains.specs.declared.by.By.{By}
use Rattle.fabric.specs.Views.{IsHandOf, fabric_view}
use Rattle.fabric.specs.declared.fabric.Fabric.{Fabric}
use Rattle.serial_play.specs.PlayedRuns.{IsPlayed}
use Rattle.serial_play.proofs.ScriptPlaces.{cut-at, earlier-at, operation-at, operation-of}
use Rattle.serial_play.proofs.PlayedSteps.{same-stop, stopped-full}
use Rattle.serial_play.proofs.operations.play_in_order.Goals as goal

pub play_next-requires-clause-operation : goal.play_next-requires-clause-operation
play_next-requires-clause-operation g c κs within =
    operation-at c.args.order.now (map length c.args.scenario.now.actors) c.loop-by.by-index (record { actor = 0; call = 0 }) c.requires.order c.loop-by-test.true

pub returns-in_err-play_next-clause-full : goal.returns-in_err-play_next-clause-full
returns-in_err-play_next-clause-full g c full =
    let s = c.args.scenario.now in
    let order = c.args.order.now in
    let i = c.loop-by.by-index in
    let d : By = record { actor = 0; call = 0 } in
    let by = slice_index_or order i d in
    let lengths = map length s.actors in
    let operation = operation-of s by (operation-at order lengths i d c.requires.order c.loop-by-test.true) in
    stopped-full g.S.Slot.place_of g.S.Slot.content g.S.Slot.len_of s order (take i order) by (drop (suc i) order) operation.0 c.play_next.new.files c.play_next.new.desk.hand.now
    c.in_err-play_next.field-0.0 (Unit {0}) (cut-at order i by (slice_get-get_or order i d c.loop-by-test.true)) operation.1
    (c.in_err-play_next.ensures.next (take i order) operation.0 operation.1 (earlier-at order lengths i d c.requires.order c.loop-by-test.true) c.loop-by.invariant.played)
    (same-stop c.from_residual.result c.in_err-play_next.field-0.0 c.from_residual.ensures.1 full)

pub loop-by-preserved : goal.loop-by-preserved
loop-by-preserved g c =
    let s = c.args.scenario.now in
    let order = c.args.order.now in
    let i = c.loop-by.by-index in
    let d : By = record { actor = 0; call = 0 } in
    let by = slice_index_or order i d in
    let lengths = map length s.actors in
    let was = c.loop-by.invariant in
    let now = c.play_next.ensures in
    let operation = operation-of s by (operation-at order lengths i d c.requires.order c.loop-by-test.true) in
    let next = c.in_ok-play_next.ensures.next (take i order) operation.0 operation.1 (earlier-at order lengths i d c.requires.order c.loop-by-test.true) was.played in
    record {
      hand = subst (λ (f : Fabric g.row.S.Denot). IsHandOf (fabric_view f) c.play_next.new.desk.hand.now) was.same.fabric now.hand;
      number = now.number ∙ was.number;
      same = record { fabric = now.same.fabric ∙ was.same.fabric; gate = now.same.gate ∙ was.same.gate; hand = now.same.hand ∙ was.same.hand };
      many = now.many ∙ was.many;
      played = subst (λ (done : List By). IsPlayed g.S.Slot.place_of g.S.Slot.content g.S.Slot.len_of s done c.play_next.new.files c.play_next.new.desk.hand.now)
          (sym (take_more order i d c.loop-by-test.true)) next;
    }
