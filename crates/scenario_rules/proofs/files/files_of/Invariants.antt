use Rattle.std.proofs.Common.{drop}
use Rattle.scenario_rules.proofs.NewRows.{RowsRead}
use Rattle.scenario_rules.proofs.files.files_of.Given as goal

abbrev pub invariant-loop-row : goal.invariant-loop-row
invariant-loop-row l = RowsRead l.rows (drop l.row-index l.rows) l.files l.names.names
