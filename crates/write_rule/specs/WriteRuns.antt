-- The run of a write, in the numbers that the code answers.
use Rattle.std.specs.Prelude.{◌≡◌, ℕ, List, take, sum_by}
use Rattle.inode_codec.specs.Inode.{data_units}
use Rattle.file_history.specs.Layout.{Layout}
use Rattle.file_history.specs.WriteRule.{new_units}
use Rattle.write_rule.specs.Runs.{IsAffectedRun, run_of}
use Rattle.write_rule.specs.declared.run.ReplacedRun.{ReplacedRun}

-- how many data units the first `count` of these groups have
abbrev pub units_up_to : List ℕ → ℕ → ℕ
units_up_to widths count = sum_by (λ (n : ℕ). n) (take count widths)

-- the run is the one that the write replaces
pub record IsRunOfWrite (unit : ℕ) (l : Layout) (offset len width : ℕ) (run : ReplacedRun) : Type 0 where
  pub affected : IsAffectedRun unit l offset len width run.first run.count
  pub start : run.start ≡ data_units (take run.first l.groups)
  pub units : run.units ≡ data_units (run_of l.groups run.first run.count)
  pub new_units : run.new_units ≡ new_units unit l offset len width
