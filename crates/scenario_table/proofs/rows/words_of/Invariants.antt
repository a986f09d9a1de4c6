use Rattle.std.proofs.Common.{◌≡◌}
use Rattle.toml.specs.View.{items_view, array_view}
use Rattle.scenario_table.specs.Table.{op_data}
use Rattle.scenario_table.proofs.RowLists.{items_then}
use Rattle.scenario_table.proofs.rows.words_of.Given as goal

-- what is read and what is left are all the items
abbrev pub invariant-loop-value : goal.invariant-loop-value
invariant-loop-value l = items_then op_data l.words (items_view l.value-iterator.rest.items) ≡ array_view l.fn.items
