use Rattle.std.proofs.Common.{◌≡◌, ℕ, List, [], drop}
use Rattle.std.specs.BTreeSet.{contains_text}
use Rattle.operation_rules.specs.FirstPlaces.{first_misnamed}
use Rattle.operation_rules.specs.OpRules.{has_name, started_in}
use Rattle.operation_rules.proofs.jobs.first_misnamed_job.Given as goal

abbrev pub invariant-loop-op : goal.invariant-loop-op
invariant-loop-op l = (before : List (List ℕ)) × ((q : List ℕ) → contains_text l.seen.names q ≡ has_name before q)
    × (first_misnamed (drop l.op-index l.ops) (started_in l.ops) before ≡ first_misnamed l.ops (started_in l.ops) [])
