use Rattle.operation_rules.proofs.NameSets.{mapped_if, mapped_on, new_at, inserted_at}
use Rattle.operation_rules.proofs.name_set.NameSet.insert.Goals as goal

pub returns-clause-new : goal.returns-clause-new
returns-clause-new c =
    mapped_if c.insert.result c.map_err.result _ _ c.map_err.ensures.cases
    (new_at c.insert.result _ c.args.name.now c.args.self.now.names c.in_ok-copy.ensures.ok c.insert.ensures.added)

pub returns-clause-ok : goal.returns-clause-ok
returns-clause-ok c =
    mapped_on c.insert.result c.map_err.result _ _ c.map_err.ensures.cases
    (inserted_at c.insert.result _ c.args.name.now c.args.self.now.names c.insert.new.self c.in_ok-copy.ensures.ok c.insert.ensures.updates)
