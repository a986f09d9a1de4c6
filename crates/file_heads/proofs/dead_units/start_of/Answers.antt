use Rattle.std.proofs.Common.{rules, arith}
use Rattle.std.specs.Prelude.{ltb}
use Rattle.std.proofs.lemmas.Bool.{ltb-true, ltb-false}
use Rattle.std.proofs.lemmas.List.Sorted.{IsPartitionPoint-from_clause, IsPartitionedBy-ltb}
use Rattle.file_history.specs.Layout.{Unit_}
use Rattle.file_heads.specs.DeadUnits.{generation_of}
use Rattle.file_heads.proofs.dead_units.start_of.Goals as goal

pub returns : goal.returns
returns c =
    let units = c.args.units.now in
    let point = IsPartitionPoint-from_clause (λ (u : Unit_). ltb u.generation c.args.generation) units c.partition_point.result c.partition_point.ensures.partitioned
    (IsPartitionedBy-ltb generation_of units c.args.generation c.requires) (λ a r f k. search rules) in record {
      within = c.partition_point.ensures.bound;
      before = λ k d below. ltb-true _ _ (point.0 k d (omega arith) below);
      after = λ k d from below. ltb-false _ _ (point.1 k d from below);
    }
