-- The words of what was done to a file.
use Rattle.std.specs.Prelude.{codes, ◌≡◌, ℕ, List, [], ◌∷◌, ◌++◌}
use Rattle.std.specs.Fmt.{decimal}
use Rattle.domains.specs.Level.{Level, level_name}
use Rattle.file_history.specs.declared.entry.Change.{Change}
use Rattle.file_history.specs.declared.entry.FileEntry.{FileEntry}
use Rattle.file_history.specs.declared.entry.FileEvent.{FileEvent}
use Rattle.file_history.specs.declared.entry.FileEvent.TheVariants as event
use Rattle.file_history.specs.declared.entry.Refused.{Refused}
use Rattle.file_history.specs.declared.entry.Refused.TheVariants as refused
use Rattle.report.specs.FileLines.{event_text}
use Rattle.report.specs.Words.{by_text, bytes_text, group_text, groups_text, numbers_text}
use Rattle.report_reader.specs.Lines.{inode_tail}
use Rattle.report_reader.specs.Refusals.{IsCreateRefusal, IsReadRefusal, IsWriteRefusal, reason_line}

-- a line of a file without its line feed
abbrev pub file_text : Level → FileEntry → List ℕ
file_text declared e = by_text e.by ++ codes " e" ++ decimal e.epoch ++ codes " " ++ event_text declared e.event

-- ---- create

abbrev pub IsCreate : FileEvent → Type 0
IsCreate (event.Created inode) = Unit {0}
IsCreate event.Deleted = ⊥
IsCreate (event.Written offset len size change) = ⊥
IsCreate (event.Shown offset len bytes) = ⊥
IsCreate (event.LevelSet level) = ⊥
IsCreate (event.Placed job change) = ⊥
IsCreate (event.Dead generation position) = ⊥
IsCreate (event.Barred job drives) = ⊥
IsCreate (event.Cleared job drives) = ⊥
IsCreate (event.Marked job count) = ⊥
IsCreate (event.Refused why) = IsCreateRefusal why

-- what follows the level of a create
abbrev pub outcome_word : FileEvent → List ℕ
outcome_word (event.Created inode) = codes "inode"
outcome_word event.Deleted = []
outcome_word (event.Written offset len size change) = codes "size"
outcome_word (event.Shown offset len bytes) = codes "shown"
outcome_word (event.LevelSet level) = []
outcome_word (event.Placed job change) = []
outcome_word (event.Dead generation position) = []
outcome_word (event.Barred job drives) = []
outcome_word (event.Cleared job drives) = []
outcome_word (event.Marked job count) = []
outcome_word (event.Refused why) = codes "refused"

-- the size of a write and its change
abbrev pub size_rest : ℕ → Change → List ℕ
size_rest size change = decimal size ++ 32 ∷ (codes "old" ++ 32 ∷ (numbers_text change.old ++ 32 ∷ (codes "new" ++ 32 ∷ (groups_text change.new ++ inode_tail change.inode))))

-- what follows the word of the outcome
abbrev pub outcome_rest : FileEvent → List ℕ
outcome_rest (event.Created inode) = group_text inode
outcome_rest event.Deleted = []
outcome_rest (event.Written offset len size change) = size_rest size change
outcome_rest (event.Shown offset len bytes) = bytes_text bytes
outcome_rest (event.LevelSet level) = []
outcome_rest (event.Placed job change) = []
outcome_rest (event.Dead generation position) = []
outcome_rest (event.Barred job drives) = []
outcome_rest (event.Cleared job drives) = []
outcome_rest (event.Marked job count) = []
outcome_rest (event.Refused why) = reason_line why

-- the outcome: its word and what follows it
abbrev pub outcome_text : FileEvent → List ℕ
outcome_text e = outcome_word e ++ 32 ∷ outcome_rest e

-- ---- write and read, of this range

abbrev pub IsWrite : ℕ → ℕ → FileEvent → Type 0
IsWrite o n (event.Created inode) = ⊥
IsWrite o n event.Deleted = ⊥
IsWrite o n (event.Written offset len size change) = (o ≡ offset) × (n ≡ len)
IsWrite o n (event.Shown offset len bytes) = ⊥
IsWrite o n (event.LevelSet level) = ⊥
IsWrite o n (event.Placed job change) = ⊥
IsWrite o n (event.Dead generation position) = ⊥
IsWrite o n (event.Barred job drives) = ⊥
IsWrite o n (event.Cleared job drives) = ⊥
IsWrite o n (event.Marked job count) = ⊥
IsWrite o n (event.Refused why) = IsWriteRefusal o n why

abbrev pub IsRead : ℕ → ℕ → FileEvent → Type 0
IsRead o n (event.Created inode) = ⊥
IsRead o n event.Deleted = ⊥
IsRead o n (event.Written offset len size change) = ⊥
IsRead o n (event.Shown offset len bytes) = (o ≡ offset) × (n ≡ len)
IsRead o n (event.LevelSet level) = ⊥
IsRead o n (event.Placed job change) = ⊥
IsRead o n (event.Dead generation position) = ⊥
IsRead o n (event.Barred job drives) = ⊥
IsRead o n (event.Cleared job drives) = ⊥
IsRead o n (event.Marked job count) = ⊥
IsRead o n (event.Refused why) = IsReadRefusal o n why

-- a range and the outcome
abbrev pub range_rest : ℕ → ℕ → FileEvent → List ℕ
range_rest offset len e = decimal offset ++ 32 ∷ (decimal len ++ 32 ∷ outcome_text e)

-- ---- events

-- the first word of a refused operation
abbrev pub operation_word : Refused → List ℕ
operation_word refused.CreateExists = codes "create"
operation_word (refused.CreateTooFew fault) = codes "create"
operation_word (refused.CreateNoRoom need got drives) = codes "create"
operation_word refused.DeleteAbsent = codes "delete"
operation_word (refused.WriteAbsent offset len) = codes "write"
operation_word (refused.WriteTooFew offset len fault) = codes "write"
operation_word (refused.WriteTooLong offset len count) = codes "write"
operation_word (refused.WriteLost offset len l) = codes "write"
operation_word (refused.WriteNoRoom offset len need got drives) = codes "write"
operation_word (refused.ReadAbsent offset len) = codes "read"
operation_word (refused.ReadLost offset len l) = codes "read"
operation_word (refused.LevelAbsent level) = codes "level"

-- the first word of an event
abbrev pub event_word : FileEvent → List ℕ
event_word (event.Created inode) = codes "create"
event_word event.Deleted = codes "delete"
event_word (event.Written offset len size change) = codes "write"
event_word (event.Shown offset len bytes) = codes "read"
event_word (event.LevelSet level) = codes "level"
event_word (event.Placed job change) = []
event_word (event.Dead generation position) = codes "dead"
event_word (event.Barred job drives) = []
event_word (event.Cleared job drives) = []
event_word (event.Marked job count) = []
event_word (event.Refused why) = operation_word why

abbrev pub refused_rest : Level → Refused → List ℕ
refused_rest declared refused.CreateExists = level_name declared ++ 32 ∷ outcome_text (event.Refused refused.CreateExists)
refused_rest declared (refused.CreateTooFew fault) = level_name declared ++ 32 ∷ outcome_text (event.Refused (refused.CreateTooFew fault))
refused_rest declared (refused.CreateNoRoom need got drives) = level_name declared ++ 32 ∷ outcome_text (event.Refused (refused.CreateNoRoom need got drives))
refused_rest declared refused.DeleteAbsent = codes "refused absent"
refused_rest declared (refused.WriteAbsent offset len) = range_rest offset len (event.Refused (refused.WriteAbsent offset len))
refused_rest declared (refused.WriteTooFew offset len fault) = range_rest offset len (event.Refused (refused.WriteTooFew offset len fault))
refused_rest declared (refused.WriteTooLong offset len count) = range_rest offset len (event.Refused (refused.WriteTooLong offset len count))
refused_rest declared (refused.WriteLost offset len l) = range_rest offset len (event.Refused (refused.WriteLost offset len l))
refused_rest declared (refused.WriteNoRoom offset len need got drives) = range_rest offset len (event.Refused (refused.WriteNoRoom offset len need got drives))
refused_rest declared (refused.ReadAbsent offset len) = range_rest offset len (event.Refused (refused.ReadAbsent offset len))
refused_rest declared (refused.ReadLost offset len l) = range_rest offset len (event.Refused (refused.ReadLost offset len l))
refused_rest declared (refused.LevelAbsent level) = level_name level ++ 32 ∷ codes "refused absent"

-- what follows the first word behind a space, if anything does
abbrev pub event_rest : Level → FileEvent → List ℕ
event_rest declared (event.Created inode) = level_name declared ++ 32 ∷ outcome_text (event.Created inode)
event_rest declared event.Deleted = []
event_rest declared (event.Written offset len size change) = range_rest offset len (event.Written offset len size change)
event_rest declared (event.Shown offset len bytes) = range_rest offset len (event.Shown offset len bytes)
event_rest declared (event.LevelSet level) = level_name level
event_rest declared (event.Placed job change) = []
event_rest declared (event.Dead generation position) = decimal generation ++ 32 ∷ decimal position
event_rest declared (event.Barred job drives) = []
event_rest declared (event.Cleared job drives) = []
event_rest declared (event.Marked job count) = []
event_rest declared (event.Refused why) = refused_rest declared why
