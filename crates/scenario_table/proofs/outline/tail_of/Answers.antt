use Rattle.std.proofs.Common.{refl, rules}
use Rattle.toml.specs.Data.{no_members}
use Rattle.toml.specs.View.{table_view}
use Rattle.scenario_table.proofs.TableTails.{after_unit, unit_in-tail, workers_in-tail, IsTail-numbers}
use Rattle.scenario_table.proofs.outline.tail_of.Goals as goal

pub returns-in_err-unit-clause-only : goal.returns-in_err-unit-clause-only
returns-in_err-unit-clause-only c = λ unit workers tail.
    absurd (c.in_err-unit.ensures.only unit (after_unit tail.given.workers workers) (unit_in-tail (table_view c.args.members) unit workers tail))

pub returns-in_err-workers-clause-only : goal.returns-in_err-workers-clause-only
returns-in_err-workers-clause-only c = λ unit workers tail.
    let first = c.in_ok-unit.ensures.only unit (after_unit tail.given.workers workers) (unit_in-tail (table_view c.args.members) unit workers tail) in
    absurd (c.in_err-workers.ensures.only workers no_members (workers_in-tail (table_view c.args.members) (table_view c.take_number_or.new.members) unit workers tail first.1))

pub returns-clause-found : goal.returns-clause-found
returns-clause-found c =
    let is =
    IsTail-numbers (table_view c.args.members) (table_view c.take_number_or.new.members) (table_view c.take_number_or-2.new.members) c.in_ok-unit.unit c.in_ok-workers.workers
    c.in_ok-unit.ensures.found c.in_ok-workers.ensures.found (c.in_ok-end_of.ensures.0 refl) in
    search (rules, is)

pub returns-clause-only : goal.returns-clause-only
returns-clause-only c = λ unit workers tail.
    let first = c.in_ok-unit.ensures.only unit (after_unit tail.given.workers workers) (unit_in-tail (table_view c.args.members) unit workers tail) in
    let second = c.in_ok-workers.ensures.only workers no_members (workers_in-tail (table_view c.args.members) (table_view c.take_number_or.new.members) unit workers tail first.1) in
    (search (rules, first.0), search (rules, second.0))
