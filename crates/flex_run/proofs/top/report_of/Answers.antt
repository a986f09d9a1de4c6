use Rattle.flex_run.proofs.FaultLines.{playable_stop}
use Rattle.flex_run.proofs.top.report_of.Goals as goal

pub returns-in_err-scenario-clause-complete : goal.returns-in_err-scenario-clause-complete
returns-in_err-scenario-clause-complete g c =
    playable_stop c.from_residual-in_err-scenario.result c.in_err-scenario.field-0.0 _ _ c.as_slice.result.now c.in_ok-input.input c.from_residual-in_err-scenario.ensures.1
    c.in_err-scenario.ensures.stop c.in_err-scenario.ensures.unbuilt c.as_slice.ensures c.in_ok-input.ensures.whole
