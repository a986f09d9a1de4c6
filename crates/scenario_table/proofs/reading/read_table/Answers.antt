use Rattle.std.proofs.Common.{Err, subst, sym}
use Rattle.toml.specs.View.{table_view}
use Rattle.scenario_table.specs.Answers.{Answers}
use Rattle.scenario_table.specs.Table.{IsTableOf}
use Rattle.scenario_table.specs.declared.draft.Draft.{Draft}
use Rattle.scenario_table.specs.declared.reading.Stop.{Stop}
use Rattle.scenario_table.proofs.TableTails.{not_parsed}
use Rattle.scenario_table.proofs.reading.read_table.Goals as goal

pub returns-in_err-table-clause-only : goal.returns-in_err-table-clause-only
returns-in_err-table-clause-only c = λ d spells.
    not_parsed c.in_err-table.field-0.0 c.from_residual.result spells.members d c.from_residual.ensures.1 (c.in_err-table.ensures.only spells.members spells.parsed)

pub returns-in-Ok-clause-only : goal.returns-in-Ok-clause-only
returns-in-Ok-clause-only c = λ d spells.
    let same = c.in_ok-table.ensures.only spells.members spells.parsed in
    let is : IsTableOf (table_view c.in_ok-table.table) d = subst (λ m. IsTableOf m d) (sym same) spells.is in
    c.in-Ok.ensures.only d is

pub returns-in-Err-Keys-clause-only : goal.returns-in-Err-Keys-clause-only
returns-in-Err-Keys-clause-only c = λ d spells.
    let same = c.in_ok-table.ensures.only spells.members spells.parsed in
    let is : IsTableOf (table_view c.in_ok-table.table) d = subst (λ m. IsTableOf m d) (sym same) spells.is in
    subst (λ (e : Stop). Answers {T = Draft} (Err e) d) c.in-Err-Keys.field-0-is (c.in-Err-Keys.ensures.only d is)

pub returns-in-Err-Keys-clause-refused : goal.returns-in-Err-Keys-clause-refused
returns-in-Err-Keys-clause-refused c = record {
  members = table_view c.in_ok-table.table;
  parsed = c.in_ok-table.ensures.found;
  other = λ d is. subst (λ (e : Stop). Answers {T = Draft} (Err e) d) c.in-Err-Keys.field-0-is (c.in-Err-Keys.ensures.only d is);
}
