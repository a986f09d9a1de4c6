use Rattle.std.proofs.Common.{◌≡◌, ℕ, ◌+◌, ◌*◌, ◌<◌, [], length, get_or}
use Rattle.lane_kernels.specs.Halves.{HoldsHalves, HoldTables}
use Rattle.lane_kernels.proofs.weighted.tables_of.Given as goal

abbrev pub invariant-loop-unit : goal.invariant-loop-unit
invariant-loop-unit g l = record {
  long : length l.tables ≡ 112;
  held : HoldTables g.row.M l.count l.unit l.weights l.tables;
}

abbrev pub invariant-loop-row : goal.invariant-loop-row
invariant-loop-row g l = record {
  long : length l.tables ≡ 112;
  held : HoldTables g.row.M l.count l.unit l.weights l.tables;
  here : (r : ℕ) → r < l.row → HoldsHalves (get_or l.weights (r * l.count + l.unit) 0) (get_or l.tables (l.unit * g.row.M + r) []);
}
