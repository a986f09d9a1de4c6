use Rattle.std.proofs.Common.{◌≤◌, ◌<◌, get_or, rules, arith}
use Rattle.std.specs.Prelude.{leb}
use Rattle.std.proofs.lemmas.Bool.{leb-true, leb-false}
use Rattle.std.proofs.lemmas.List.Sorted.{IsPartitionPoint-from_clause, IsPartitionedBy-leb}
use Rattle.file_history.specs.Layout.{Unit_}
use Rattle.file_heads.specs.DeadUnits.{generation_of}
use Rattle.file_heads.proofs.dead_units.end_of.Goals as goal

pub returns : goal.returns
returns c =
    let units = c.args.units.now in
    let point = IsPartitionPoint-from_clause (λ (u : Unit_). leb u.generation c.args.generation) units c.partition_point.result c.partition_point.ensures.partitioned
    (IsPartitionedBy-leb generation_of units c.args.generation c.requires) (λ a r f k. search rules) in record {
      within = c.partition_point.ensures.bound;
      before = λ k d below.
          let most : (get_or units k d).generation ≤ c.args.generation = leb-true _ _ (point.0 k d (omega arith) below) in omega (arith, most);
      after = λ k d from below.
          let more : c.args.generation < (get_or units k d).generation = leb-false _ _ (point.1 k d from below) in omega (arith, more);
    }
