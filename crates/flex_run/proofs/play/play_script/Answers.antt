use Rattle.std.proofs.Common.{◌+◌, ap}
use Rattle.plain_file.specs.Plain.{AllTell}
use Rattle.flex_run.specs.RunProgress.{EachTells}
use Rattle.flex_run.proofs.RunStart.{AllTell-each}
use Rattle.flex_run.proofs.OperationEffect.{turn}
use Rattle.flex_run.proofs.OperationLogs.{IsReached-all}
use Rattle.flex_run.proofs.RunEffect.{Leaves-more}
use Rattle.flex_run.proofs.play.play_script.Goals as goal

pub loop-op-preserved : goal.loop-op-preserved
loop-op-preserved g c =
    let content = g.S.Slot.content in
    let was = c.loop-op.invariant in
    let done = turn g.S.Slot.place_of content (EachTells content) (AllTell content c.loop-op.file c.loop-op.stock)
    c.args.scenario.now c.only_script-script.result.now c.loop-op.op-index c.loop-op.call c.op-item.result
    c.loop-op.file c.loop-op.stock c.play_op.new.file c.play_op.new.stock
    c.only_script-script.ensures c.loop-op-test.true c.op-item.is was.3 was.0 was.1 (λ each. AllTell-each content each c.loop-op.file c.loop-op.stock) c.in_ok-play_op.ensures.does in (
      done.0,
      done.1,
      Leaves-more g.S.Slot.place_of content c.op-item.result c.args.scenario.now.shape _ c.args.file.now c.args.stock.now c.loop-op.file c.loop-op.stock
          c.play_op.new.file c.play_op.new.stock (IsReached-all c.loop-op.stock.board c.loop-op.file.log was.0.serial) was.1.one_each was.2 c.in_ok-play_op.ensures.does,
      ap (λ n. n + 1) was.3,
    )
