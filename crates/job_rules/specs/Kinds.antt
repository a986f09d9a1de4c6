-- The kinds of jobs: their sets, default priorities, names, codes and phases.
use Rattle.std.specs.Prelude.{codes, ℕ, zero, suc, true, false, List, [], ◌∷◌, Option, Some, None}
use Rattle.job_rules.specs.declared.kind.JobKind.{JobKind}
use Rattle.job_rules.specs.declared.kind.JobKind.TheVariants.{FlexProtect, AutoBalance, SetProtectPlus, Collect, MultiScan, Upgrade, IntegrityScan, MediaScan, SmartPools, SyncCopy}
use Rattle.job_rules.specs.declared.kind.Sets.{Sets}
use Rattle.job_rules.specs.declared.phase.Phase.{Phase}
use Rattle.job_rules.specs.declared.phase.Phase.TheVariants.{Repair, Verify, Release, Balance, Apply, Mark, Sweep, Rewrite, Check, Scan, Pool, Copy}

abbrev only_restripe : Sets
only_restripe = record { restripe = true; mark = false }

abbrev only_mark : Sets
only_mark = record { restripe = false; mark = true }

abbrev no_set : Sets
no_set = record { restripe = false; mark = false }

-- the exclusion sets of a kind
abbrev pub sets_of : JobKind → Sets
sets_of FlexProtect = only_restripe
sets_of AutoBalance = only_restripe
sets_of SetProtectPlus = only_restripe
sets_of Collect = only_mark
sets_of MultiScan = record { restripe = true; mark = true }
sets_of Upgrade = no_set
sets_of IntegrityScan = only_mark
sets_of MediaScan = only_restripe
sets_of SmartPools = only_restripe
sets_of SyncCopy = no_set

-- the priority of a job of this kind where none is given
abbrev pub priority_of : JobKind → ℕ
priority_of FlexProtect = 1
priority_of AutoBalance = 4
priority_of SetProtectPlus = 6
priority_of Collect = 4
priority_of MultiScan = 4
priority_of Upgrade = 3
priority_of IntegrityScan = 1
priority_of MediaScan = 8
priority_of SmartPools = 6
priority_of SyncCopy = 5

abbrev pub name_of : JobKind → List ℕ
name_of FlexProtect = codes "FlexProtect"
name_of AutoBalance = codes "AutoBalance"
name_of SetProtectPlus = codes "SetProtectPlus"
name_of Collect = codes "Collect"
name_of MultiScan = codes "MultiScan"
name_of Upgrade = codes "Upgrade"
name_of IntegrityScan = codes "IntegrityScan"
name_of MediaScan = codes "MediaScan"
name_of SmartPools = codes "SmartPools"
name_of SyncCopy = codes "SyncCopy"

-- the place of a kind in the table, from 0
abbrev pub code_of : JobKind → ℕ
code_of FlexProtect = 0
code_of AutoBalance = 1
code_of SetProtectPlus = 2
code_of Collect = 3
code_of MultiScan = 4
code_of Upgrade = 5
code_of IntegrityScan = 6
code_of MediaScan = 7
code_of SmartPools = 8
code_of SyncCopy = 9

-- the phases of a kind, in their order
abbrev pub phases_of : JobKind → List Phase
phases_of FlexProtect = Repair ∷ Verify ∷ Release ∷ []
phases_of AutoBalance = Balance ∷ []
phases_of SetProtectPlus = Apply ∷ []
phases_of Collect = Mark ∷ Sweep ∷ []
phases_of MultiScan = Balance ∷ Mark ∷ Sweep ∷ []
phases_of Upgrade = Rewrite ∷ []
phases_of IntegrityScan = Check ∷ []
phases_of MediaScan = Scan ∷ []
phases_of SmartPools = Pool ∷ []
phases_of SyncCopy = Copy ∷ []

-- the phase of this number among these, from 0
abbrev pub phase_in : List Phase → ℕ → Option Phase
phase_in [] number = None
phase_in (phase ∷ phases) zero = Some phase
phase_in (phase ∷ phases) (suc number) = phase_in phases number

-- the phase of a kind with this number, from 0
abbrev pub phase_at : JobKind → ℕ → Option Phase
phase_at kind number = phase_in (phases_of kind) number
