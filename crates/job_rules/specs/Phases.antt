-- The phases of jobs: their names and items.
use Rattle.std.specs.Prelude.{codes, ℕ, List}
use Rattle.job_rules.specs.declared.phase.Phase.{Phase}
use Rattle.job_rules.specs.declared.phase.Phase.TheVariants.{Repair, Verify, Release, Balance, Apply, Mark, Sweep, Rewrite, Check, Scan, Pool, Copy}
use Rattle.job_rules.specs.declared.phase.Items.{Items}
use Rattle.job_rules.specs.declared.phase.Items.TheVariants.{Files, BarredDrives, Drives}

-- what the items of a phase are
abbrev pub items_of : Phase → Items
items_of Repair = Files
items_of Verify = Files
items_of Release = BarredDrives
items_of Balance = Files
items_of Apply = Files
items_of Mark = Files
items_of Sweep = Drives
items_of Rewrite = Files
items_of Check = Files
items_of Scan = Files
items_of Pool = Files
items_of Copy = Files

abbrev pub phase_name : Phase → List ℕ
phase_name Repair = codes "repair"
phase_name Verify = codes "verify"
phase_name Release = codes "release"
phase_name Balance = codes "balance"
phase_name Apply = codes "apply"
phase_name Mark = codes "mark"
phase_name Sweep = codes "sweep"
phase_name Rewrite = codes "rewrite"
phase_name Check = codes "check"
phase_name Scan = codes "scan"
phase_name Pool = codes "pool"
phase_name Copy = codes "copy"
