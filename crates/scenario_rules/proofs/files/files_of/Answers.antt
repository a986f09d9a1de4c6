use Rattle.std.proofs.Common.{◌≤◌, length, refl, arith}
use Rattle.std.proofs.lemmas.List.{drop_all}
use Rattle.scenario_rules.proofs.NewRows.{RowsRead-start, RowsRead-end}
use Rattle.scenario_rules.proofs.files.files_of.Goals as goal

pub loop-row-init : goal.loop-row-init
loop-row-init c = RowsRead-start c.args.rows.now _ c.new-files.result c.new-names.result.names refl c.new-files.ensures c.new-names.ensures

pub returns-clause-found : goal.returns-clause-found
returns-clause-found c =
    let past : length c.args.rows.now ≤ c.loop-row.row-index = omega arith in
    (RowsRead-end c.args.rows.now _ c.loop-row.files c.loop-row.names.names (drop_all c.loop-row.row-index c.args.rows.now past) c.loop-row.invariant).0
