use Rattle.toml.specs.Data.{array}
use Rattle.toml.specs.View.{table_view}
use Rattle.scenario_table.specs.Table.{items_by, file_data, actor_data}
use Rattle.scenario_table.proofs.TableTails.{outlined}
use Rattle.scenario_table.proofs.reading.draft_of.Goals as goal

pub returns-in_default-clause-only : goal.returns-in_default-clause-only
returns-in_default-clause-only c = λ d is.
    c.in_default.ensures.only d.unit d.nodes d.drives d.slots d.workers (array (items_by file_data d.files)) (array (items_by actor_data d.actors))
    (outlined (table_view c.args.members) d is)
