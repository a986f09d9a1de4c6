use Rattle.std.proofs.Common.{◌≡◌, length, Option, sym, ap, subst, ◌∙◌}
use Rattle.std.specs.Prelude.{unwrap_or}
use Rattle.fabric.specs.Views.{fabric_view}
use Rattle.whole_scenario.specs.declared.op.Op.{Op}
use Rattle.serial_play.specs.PlayedRuns.{PlaysNext}
use Rattle.serial_play.proofs.PlayedSteps.{open_after, plays_next}
use Rattle.serial_play.proofs.ScriptPlaces.{playable-at}
use Rattle.serial_play.proofs.operations.play_next.Goals as goal

pub returns-clause-open : goal.returns-clause-open
returns-clause-open g c =
    let s = c.args.scenario.now in
    let playable = playable-at s c.args.by c.op_at.result.now c.requires.playable c.op_at.ensures in
    open_after g.S.Slot.place_of g.S.Slot.content g.S.Slot.len_of c.play_operation.result (fabric_view c.args.desk.now.fabric.now) s.shape (length s.files) c.op_at.result.now c.args.by
    c.args.files.now c.play_operation.new.files c.args.desk.now.hand.now c.play_operation.new.desk.hand.now playable c.play_operation.ensures.tells c.requires.open

pub returns-clause-next : goal.returns-clause-next
returns-clause-next g c done operation known earlier played =
    let s = c.args.scenario.now in
    let by = c.args.by in
    let playable = playable-at s by c.op_at.result.now c.requires.playable c.op_at.ensures in
    let same : c.op_at.result.now ≡ operation = ap (λ (o : Option Op). unwrap_or o operation) (sym c.op_at.ensures ∙ known) in
    subst
    (λ (o : Op). PlaysNext g.S.Slot.place_of g.S.Slot.content g.S.Slot.len_of c.play_operation.result s done by o c.play_operation.new.files c.play_operation.new.desk.hand.now) same
    (plays_next g.S.Slot.place_of g.S.Slot.content g.S.Slot.len_of s done (fabric_view c.args.desk.now.fabric.now) c.args.files.now c.play_operation.new.files c.args.desk.now.hand.now
    c.play_operation.new.desk.hand.now by played c.requires.shape (c.requires.hand.board_shape ∙ c.requires.shape) earlier c.play_operation.result c.op_at.result.now c.op_at.ensures playable
    c.play_operation.ensures.tells)
