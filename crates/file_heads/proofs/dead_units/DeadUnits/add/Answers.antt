use Rattle.std.proofs.Common.{◌≡◌, ◌∙◌, ◌||◌, List, ap, rules}
use Rattle.std.specs.List.{insert}
use Rattle.file_history.specs.Layout.{Unit_}
use Rattle.file_heads.specs.DeadUnits.{DeadList, is_unit, names}
use Rattle.file_heads.proofs.DeadUnitLookups.{names-insert}
use Rattle.file_heads.proofs.dead_units.DeadUnits.add.Goals as goal

pub returns-clause-ok : goal.returns-clause-ok
returns-clause-ok c =
    let units = c.self.inside.units.items in
    let unit : Unit_ = record { generation = c.args.generation; position = c.args.position } in
    let now : c.insert.new.self.items ≡ insert units c.end_of-at.result unit = search rules in
    λ g p. ap (λ (us : List Unit_). names us g p) now ∙ names-insert units c.end_of-at.result unit g p
    ∙ ap (λ (d : DeadList). is_unit g p unit || names d.items g p) c.self.view_is
