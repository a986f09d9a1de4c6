use Rattle.std.proofs.Common.{◌≡◌, ◌++◌, drop}
use Rattle.operation_rules.specs.OpRules.{started_in}
use Rattle.scenario_reader.proofs.jobs.job_names.Given as goal

abbrev pub invariant-loop-op : goal.invariant-loop-op
invariant-loop-op l = l.jobs ++ started_in (drop l.op-index l.ops) ≡ started_in l.ops
