use Rattle.std.proofs.Common.{◌+◌, ◌*◌, ◌<◌, length, arith, ◌∙◌}
use Rattle.std.proofs.lemmas.List.{length-set}
use Rattle.lane_kernels.proofs.TablePlaces.{row_before, tables_kept, table_put}
use Rattle.lane_kernels.proofs.weighted.tables_of.Goals as goal

pub loop-row-preserved : goal.loop-row-preserved
loop-row-preserved g c =
    let unit = c.loop-unit.unit in
    let row = c.loop-row.row in
    let tables = c.loop-row.tables in
    let table = c.half_products.result in
    let before = row_before unit c.args.count g.row.M row (omega arith) (omega arith) in
    let inside : unit * g.row.M + row < length tables = grind (arith, before) in
    record {
      long = length-set tables (unit * g.row.M + row) table ∙ c.loop-row.invariant.long;
      held = tables_kept g.row.M c.args.count unit row c.args.weights.now tables table c.loop-row.invariant.held;
      here = table_put g.row.M c.args.count unit row c.args.weights.now tables table inside c.loop-row.invariant.here c.half_products.ensures;
    }
