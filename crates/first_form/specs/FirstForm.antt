-- The scenarios of the first form: one mirrored file, one actor that creates it, writes it at most once, reads it and fails drives.
use Rattle.std.specs.Prelude.{◌≡◌, ℕ, ◌+◌, ◌*◌, ◌^◌, ◌≤◌, true, List, [], ◌∷◌, length}
use Rattle.domains.specs.Drive.{IsDrive}
use Rattle.domains.specs.Shape.{Shape, IsShape, is_of}
use Rattle.domains.specs.Level.{two_copies}
use Rattle.scenario.specs.Words.{IsName, IsText}
use Rattle.scenario.specs.declared.op.Op.{Op}
use Rattle.scenario.specs.declared.op.Op.TheVariants.{Create, WriteText, Read, Fail}
use Rattle.scenario.specs.declared.scenario.Scenario.{Scenario}

-- the operation may follow the create: a write of at most a unit from the front, a read, or the loss of a drive of the cluster
abbrev pub IsLaterOp : Shape → Op → Type 0
IsLaterOp shape (Create file) = ⊥
IsLaterOp shape (WriteText file offset text) = (file ≡ 0) × (offset ≡ 0) × IsText text × (length text ≤ shape.unit)
IsLaterOp shape (Read file offset len) = (file ≡ 0) × (offset ≤ 536870912) × (len ≤ 1048576)
IsLaterOp shape (Fail drive) = IsDrive drive × (is_of shape drive ≡ true)

abbrev pub AreLaterOps : Shape → List Op → Type 0
AreLaterOps shape [] = Unit {0}
AreLaterOps shape (op ∷ ops) = IsLaterOp shape op × AreLaterOps shape ops

-- how many of the operations are writes
abbrev pub write_count : List Op → ℕ
write_count [] = 0
write_count (Create file ∷ ops) = write_count ops
write_count (WriteText file offset text ∷ ops) = 1 + write_count ops
write_count (Read file offset len ∷ ops) = write_count ops
write_count (Fail drive ∷ ops) = write_count ops

-- the lengths of all reads together
abbrev pub read_bytes : List Op → ℕ
read_bytes [] = 0
read_bytes (Create file ∷ ops) = read_bytes ops
read_bytes (WriteText file offset text ∷ ops) = read_bytes ops
read_bytes (Read file offset len ∷ ops) = len + read_bytes ops
read_bytes (Fail drive ∷ ops) = read_bytes ops

-- the script creates the file first, and then does at most 4,095 later operations, at most one of them a write
pub record IsFirstScript (shape : Shape) (script : List Op) : Type 0 where
  pub later : List Op
  pub begins : script ≡ Create 0 ∷ later
  pub each : AreLaterOps shape later
  pub few : length script ≤ 4096
  pub one_write : write_count later ≤ 1
  pub reads : read_bytes later ≤ 16777216

-- the scenario is of the first form
pub record IsFirstForm (s : Scenario) : Type 0 where
  pub shape : IsShape s.shape
  pub slots : 3 ≤ s.shape.slots
  pub space : s.shape.nodes * s.shape.drives * s.shape.slots * s.shape.unit ≤ 2 ^ 30
  pub workers : s.workers ≡ 1
  pub name : List ℕ
  pub is_name : IsName name
  pub files : s.files ≡ record { name = name; level = two_copies } ∷ []
  pub script : List Op
  pub actors : s.actors ≡ script ∷ []
  pub is_script : IsFirstScript s.shape script
