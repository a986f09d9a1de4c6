use Rattle.std.proofs.Common.{◌≡◌, ◌≤◌, ◌+◌}
use Rattle.engine_core.specs.EngineView.{NoOtherBegan}
use Rattle.bench_engine.proofs.end_item.Given as goal

abbrev pub invariant-loop-step : goal.invariant-loop-step
invariant-loop-step l = record {
  own : NoOtherBegan l.engine l.work.job l.work.item;
  spare : 16 ≤ l.engine.log.spare + l.step;
}
