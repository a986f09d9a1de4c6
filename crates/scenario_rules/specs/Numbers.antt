-- The rules of a table's numbers.
use Rattle.std.specs.Prelude.{◌≡◌, ℕ, ◌*◌, ◌<◌, ◌≤◌, ◌^◌, ℤ, pos, negsuc}
use Rattle.domains.specs.Shape.{Shape}
use Rattle.scenario_rules.specs.declared.rule.Rule.{Rule}
use Rattle.scenario_rules.specs.declared.rule.Rule.TheVariants as rule
use Rattle.scenario_table.specs.declared.draft.Draft.{Draft}

-- the number from these limits on
pub record IsWithin (low high : ℕ) (z : ℤ) : Type 0 where
  pub number : ℕ
  pub is : z ≡ pos number
  pub least : low ≤ number
  pub most : number ≤ high

-- each number is within its limits
pub record InRange (d : Draft) : Type 0 where
  pub unit : IsWithin 8 131072 d.unit
  pub nodes : IsWithin 1 32 d.nodes
  pub drives : IsWithin 1 16 d.drives
  pub slots : IsWithin 1 4096 d.slots
  pub workers : IsWithin 1 16 d.workers

-- a number as a count, where it is none below 0
abbrev pub count : ℤ → ℕ
count (pos n) = n
count (negsuc n) = 0

abbrev pub shape_in : Draft → Shape
shape_in d = record { nodes = count d.nodes; drives = count d.drives; slots = count d.slots; unit = count d.unit }

abbrev pub workers_in : Draft → ℕ
workers_in d = count d.workers

-- how many drives there are, and how many bytes all slots have
abbrev pub drives_in : Draft → ℕ
drives_in d = count d.nodes * count d.drives

abbrev pub bytes_in : Draft → ℕ
bytes_in d = drives_in d * count d.slots * count d.unit

-- the numbers keep their rules
pub record KeepsNumbers (d : Draft) : Type 0 where
  pub range : InRange d
  pub drives : drives_in d ≤ 200
  pub space : bytes_in d ≤ 2 ^ 30

-- the numbers break this rule, and none before it
abbrev pub IsNumberFault : Draft → Rule → Type 0
IsNumberFault d rule.Range = InRange d → ⊥
IsNumberFault d rule.Drives = InRange d × (200 < drives_in d)
IsNumberFault d rule.Space = InRange d × (drives_in d ≤ 200) × (2 ^ 30 < bytes_in d)
IsNumberFault d rule.Utf8 = ⊥
IsNumberFault d rule.Toml = ⊥
IsNumberFault d rule.Keys = ⊥
IsNumberFault d rule.Files = ⊥
IsNumberFault d rule.Actors = ⊥
IsNumberFault d rule.Op = ⊥
IsNumberFault d rule.Name = ⊥
IsNumberFault d rule.Drive = ⊥
IsNumberFault d rule.Job = ⊥
IsNumberFault d rule.Jobs = ⊥
IsNumberFault d rule.Reads = ⊥
IsNumberFault d rule.Unbuilt = ⊥
