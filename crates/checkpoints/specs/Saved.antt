-- What a checkpoint says, and the bytes that spell it.
use Rattle.std.specs.Prelude.{ℕ, zero, suc, ◌+◌, ◌<◌, ◌≤◌, Bool, true, false, List, [], ◌∷◌, ◌++◌, length, IsSome}
use Rattle.std.specs.List.{AllByRecursion, filter}
use Rattle.std.specs.Int.{to_be_bytes, w16}
use Rattle.domains.specs.Drive.{Drive}
use Rattle.domains.specs.DriveSet.{has}
use Rattle.domains.specs.declared.drive_set.DriveSet.{DriveSet}
use Rattle.job_rules.specs.Kinds.{code_of, phase_at}
use Rattle.checkpoints.specs.declared.checkpoint.Checkpoint.{Checkpoint}
use Rattle.checkpoints.specs.declared.checkpoint.ItemSaved.{ItemSaved}
use Rattle.checkpoints.specs.declared.checkpoint.ItemSaved.TheVariants.{ToDo, Out, Whole, Lost, Short}
use Rattle.checkpoints.specs.declared.checkpoint.JobSaved.{JobSaved}

-- the first n drives of a node
abbrev pub drives_on : ℕ → ℕ → List Drive
drives_on node zero = []
drives_on node (suc d) = drives_on node d ++ record { node = node; drive = suc d } ∷ []

-- the drives of the first n nodes
abbrev pub drives_up_to : ℕ → List Drive
drives_up_to zero = []
drives_up_to (suc n) = drives_up_to n ++ drives_on (suc n) 16

-- all drives that a cluster may have, ascending: by node, and within a node by number
unfoldable pub all_drives : List Drive
all_drives = drives_up_to 32

-- the drives of a set, ascending
abbrev pub drives_of : DriveSet → List Drive
drives_of set = filter (has set) all_drives

abbrev pub flag : Bool → ℕ
flag false = 0
flag true = 1

-- an item: its state, and of one that is to do or out its next position
abbrev pub item_bytes : ItemSaved → List ℕ
item_bytes (ToDo next) = 0 ∷ to_be_bytes w16 next
item_bytes (Out next) = 1 ∷ to_be_bytes w16 next
item_bytes Whole = 2 ∷ []
item_bytes Lost = 3 ∷ []
item_bytes Short = 4 ∷ []

abbrev pub drive_bytes : Drive → List ℕ
drive_bytes d = d.node ∷ d.drive ∷ []

abbrev pub drives_bytes : List Drive → List ℕ
drives_bytes [] = []
drives_bytes (d ∷ ds) = drive_bytes d ++ drives_bytes ds

abbrev pub items_bytes : List ItemSaved → List ℕ
items_bytes [] = []
items_bytes (i ∷ is) = item_bytes i ++ items_bytes is

-- a job: its number, kind, priority, place among the starts, whether it is paused, its phase, how many drives it bars and
-- each of them, whether an earlier item ended other than whole, how many items there are and each of them
unfoldable pub job_bytes : JobSaved → List ℕ
job_bytes j =
    to_be_bytes w16 j.job.number ++ (code_of j.kind ∷ j.priority ∷ []) ++ to_be_bytes w16 j.order
    ++ (flag j.paused ∷ j.phase ∷ length (drives_of j.bars) ∷ []) ++ drives_bytes (drives_of j.bars)
    ++ (flag j.earlier ∷ []) ++ to_be_bytes w16 (length j.items) ++ items_bytes j.items

abbrev pub jobs_bytes : List JobSaved → List ℕ
jobs_bytes [] = []
jobs_bytes (j ∷ js) = job_bytes j ++ jobs_bytes js

-- a checkpoint: the mark FJCP, format 1, how many jobs were started, how many are active and each of them
unfoldable pub checkpoint_bytes : Checkpoint → List ℕ
checkpoint_bytes c =
    (0x46 ∷ 0x4A ∷ 0x43 ∷ 0x50 ∷ 1 ∷ []) ++ to_be_bytes w16 c.started ++ (length c.jobs ∷ []) ++ jobs_bytes c.jobs

-- the next position is within the limits of the format
abbrev pub IsItem : ItemSaved → Type 0
IsItem (ToDo next) = next ≤ 257
IsItem (Out next) = next ≤ 257
IsItem Whole = Unit {0}
IsItem Lost = Unit {0}
IsItem Short = Unit {0}

-- the job keeps the rules of the format, when `started` jobs were started; its number is at least `least`
pub record IsJob (started least : ℕ) (j : JobSaved) : Type 0 where
  pub job : least ≤ j.job.number
  pub number : j.job.number < 65536
  pub some_priority : 1 ≤ j.priority
  pub priority : j.priority ≤ 10
  pub order : j.order < started
  pub phase : IsSome (phase_at j.kind j.phase)
  pub bars : length (drives_of j.bars) ≤ 200
  pub count : length j.items ≤ 256
  pub items : AllByRecursion IsItem j.items

-- each job keeps the rules, and its number is above that of the one before
abbrev pub AreJobs : ℕ → ℕ → List JobSaved → Type 0
AreJobs started least [] = Unit {0}
AreJobs started least (j ∷ js) = IsJob started least j × AreJobs started (j.job.number + 1) js

-- the checkpoint can be spelled
pub record IsCheckpoint (c : Checkpoint) : Type 0 where
  pub started : c.started ≤ 64
  pub count : length c.jobs ≤ 64
  pub jobs : AreJobs c.started 0 c.jobs

-- each job's drives and items can be counted
abbrev pub AreShort : List JobSaved → Type 0
AreShort jobs = AllByRecursion (λ (j : JobSaved). (length (drives_of j.bars) ≤ 200) × (length j.items ≤ 256)) jobs
