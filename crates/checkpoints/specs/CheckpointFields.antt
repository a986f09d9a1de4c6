-- The grammar as it is read from left to right, a row for each field, with the first field that is broken.
use Rattle.std.specs.Prelude.{◌≡◌, ℕ, zero, suc, ◌+◌, ◌==◌, if◌then◌else◌, List, [], ◌∷◌, length, map, max, slice_index, Result, Ok, Err}
use Rattle.std.specs.Int.{w16, w32}
use Rattle.field_readers.specs.declared.fault.Broken.{Broken}
use Rattle.field_readers.specs.declared.fault.Broken.TheVariants.{Ends, Field}
use Rattle.field_readers.specs.FieldReaders.{◌>>=◌, Reader, both, broken, byte, each, offset_of, word}
use Rattle.domains.specs.Drive.{Drive}
use Rattle.job_rules.specs.Kinds.{code_of}
use Rattle.checkpoints.specs.declared.checkpoint.Checkpoint.{Checkpoint}
use Rattle.checkpoints.specs.declared.checkpoint.ItemSaved.{ItemSaved}
use Rattle.checkpoints.specs.declared.checkpoint.ItemSaved.TheVariants.{ToDo, Out, Whole, Lost, Short}
use Rattle.checkpoints.specs.declared.checkpoint.JobSaved.{JobSaved}
use Rattle.checkpoints.specs.declared.fault.BadCheckpoint.{BadCheckpoint}
use Rattle.checkpoints.specs.declared.fault.CheckpointFault.{CheckpointFault}
use Rattle.checkpoints.specs.declared.fault.CheckpointFault.TheVariants.{Bad, NoMemory}
use Rattle.checkpoints.specs.declared.fault.CheckpointRule.{CheckpointRule}
use Rattle.checkpoints.specs.declared.fault.CheckpointRule.TheVariants as rule
use Rattle.checkpoints.specs.declared.reading.Tail.{Tail}
use Rattle.checkpoints.specs.Saved.{drives_of, flag}

-- a value taken off the front of the bytes, or the first field that is broken
abbrev pub CheckpointReader : Type 0 → Type 0
CheckpointReader A = Reader CheckpointRule A

-- a drive behind the one before: its node is no lower, and in the same node its number is higher
unfoldable pub drive_at : ℕ × ℕ → CheckpointReader (ℕ × ℕ)
drive_at before =
    both (byte rule.Node (max 1 before.0) 33) (λ node. byte rule.Drive (if node == before.0 then before.1 + 1 else 1) 17)

abbrev pub this_drive : ℕ × ℕ → ℕ × ℕ → ℕ × ℕ
this_drive before d = d

-- the next position of an item in this state: only one that is to do or out has one
abbrev pub next_at : ℕ → CheckpointReader ℕ
next_at zero bytes = word w16 rule.Next 0 258 bytes
next_at (suc zero) bytes = word w16 rule.Next 0 258 bytes
next_at (suc (suc n)) bytes = Ok (0, bytes)

-- an item: its state and its next position
unfoldable pub item_at : ℕ → CheckpointReader (ℕ × ℕ)
item_at before = both (byte rule.ItemState 0 5) next_at

abbrev pub stays : {A : Type 0} → ℕ → A → ℕ
stays before item = before

-- how many phases the kind of this code has
abbrev pub phase_count : ℕ → ℕ
phase_count code = slice_index (3 ∷ 1 ∷ 1 ∷ 2 ∷ 3 ∷ 1 ∷ 1 ∷ 1 ∷ 1 ∷ 1 ∷ []) code

abbrev pub RawTail : Type 0
RawTail = ℕ × (List (ℕ × ℕ) × (ℕ × (ℕ × List (ℕ × ℕ))))

abbrev pub RawJob : Type 0
RawJob = ℕ × (ℕ × (ℕ × (ℕ × (ℕ × (ℕ × RawTail)))))

-- the bars of a job and its items
unfoldable pub tail_at : CheckpointReader RawTail
tail_at =
    both (byte rule.Bars 0 201) (λ bars.
    both (each drive_at this_drive bars (0, 0)) (λ drives.
    both (byte rule.Earlier 0 2) (λ earlier.
    both (word w16 rule.Items 0 257) (λ items.
    each item_at stays items 0))))

-- a job, when `started` jobs were started, whose number is at least `least`
unfoldable pub job_at : ℕ → ℕ → CheckpointReader RawJob
job_at started least =
    both (word w16 rule.Job least 65536) (λ job.
    both (byte rule.Kind 0 10) (λ kind.
    both (byte rule.Priority 1 11) (λ priority.
    both (word w16 rule.Order 0 started) (λ order.
    both (byte rule.Paused 0 2) (λ paused.
    both (byte rule.Phase 0 (phase_count kind)) (λ phase.
    tail_at))))))

-- the number above that of this job
abbrev pub above : ℕ → RawJob → ℕ
above least job = job.0 + 1

abbrev pub RawJobs : Type 0
RawJobs = ℕ × (ℕ × (ℕ × (ℕ × List RawJob)))

unfoldable pub jobs_at : CheckpointReader RawJobs
jobs_at =
    both (word w32 rule.Mark 0x464A4350 0x464A4351) (λ mark.
    both (byte rule.Format 1 2) (λ format.
    both (word w16 rule.Started 0 65) (λ started.
    both (byte rule.Jobs 0 65) (λ jobs.
    each (job_at started) above jobs 0))))

-- all of the bytes
unfoldable pub all_of : List ℕ → Result RawJobs (Broken CheckpointRule)
all_of bytes = jobs_at bytes >>= λ jobs. if length jobs.1 == 0 then Ok jobs.0 else Err (broken rule.Left jobs.1)

-- ---- what was read, as the numbers of its fields

abbrev pub raw_drive : Drive → ℕ × ℕ
raw_drive d = (d.node, d.drive)

abbrev pub raw_item : ItemSaved → ℕ × ℕ
raw_item (ToDo next) = (0, next)
raw_item (Out next) = (1, next)
raw_item Whole = (2, 0)
raw_item Lost = (3, 0)
raw_item Short = (4, 0)

abbrev pub raw_tail : JobSaved → RawTail
raw_tail j = (length (drives_of j.bars), (map raw_drive (drives_of j.bars), (flag j.earlier, (length j.items, map raw_item j.items))))

abbrev pub raw_job : JobSaved → RawJob
raw_job j = (j.job.number, (code_of j.kind, (j.priority, (j.order, (flag j.paused, (j.phase, raw_tail j))))))

-- the numbers that a checkpoint's fields spell
abbrev pub raw_jobs : Checkpoint → RawJobs
raw_jobs c = (0x464A4350, (1, (c.started, (length c.jobs, map raw_job c.jobs))))

-- ---- what a reader of the code answers

-- the rule that is broken
abbrev pub rule_of : Broken CheckpointRule → CheckpointRule
rule_of Ends = rule.Ends
rule_of (Field left what) = what

-- the offset of what is broken, in bytes of this number, and the rule
abbrev pub bad_at : ℕ → Broken CheckpointRule → BadCheckpoint
bad_at bytes b = record { at = offset_of bytes b; what = rule_of b }

-- the bytes are the checkpoint's, or this field of theirs is the first that is broken, unless memory ran out
abbrev pub Answers : List ℕ → Result Checkpoint CheckpointFault → Result RawJobs (Broken CheckpointRule) → Type 0
Answers bytes (Ok c) read = read ≡ Ok (raw_jobs c)
Answers bytes (Err NoMemory) read = Unit {0}
Answers bytes (Err (Bad b)) (Ok x) = ⊥
Answers bytes (Err (Bad b)) (Err e) = b ≡ bad_at (length bytes) e

-- the bars, the flag and the items as the code reads them
abbrev pub tail_view : Tail → RawTail
tail_view t = (length (drives_of t.bars), (map raw_drive (drives_of t.bars), (flag t.earlier, (length t.items.items, map raw_item t.items.items))))
