-- The lines of a file's log.
use Rattle.std.specs.Prelude.{codes, ℕ, List, [], ◌∷◌, ◌++◌}
use Rattle.std.specs.Fmt.{decimal}
use Rattle.domains.specs.Drive.{Drive}
use Rattle.domains.specs.Level.{Level, level_name}
use Rattle.domains.specs.declared.group.Lost.{Lost}
use Rattle.domains.specs.declared.room.TooFew.{TooFew}
use Rattle.file_history.specs.declared.entry.Change.{Change}
use Rattle.file_history.specs.declared.entry.Refused.{Refused}
use Rattle.file_history.specs.declared.entry.Refused.TheVariants as refused
use Rattle.file_history.specs.declared.entry.FileEvent.{FileEvent}
use Rattle.file_history.specs.declared.entry.FileEvent.TheVariants as event
use Rattle.file_history.specs.declared.entry.FileEntry.{FileEntry}
use Rattle.report.specs.Words.{line_feed, by_text, drives_text, numbers_text, group_text, groups_text, bytes_text}

-- an operation on a range: its word, the offset and the length
unfoldable pub range_text : List ℕ → ℕ → ℕ → List ℕ
range_text word offset len = word ++ codes " " ++ decimal offset ++ codes " " ++ decimal len

unfoldable pub too_few_text : TooFew → List ℕ
too_few_text fault = codes " refused toofew " ++ decimal fault.have ++ codes " " ++ decimal fault.need

unfoldable pub no_room_text : ℕ → ℕ → List Drive → List ℕ
no_room_text need got drives = codes " refused noroom " ++ decimal need ++ codes " " ++ decimal got ++ codes " " ++ drives_text drives

unfoldable pub lost_text : Lost → List ℕ
lost_text lost = codes " refused lost " ++ decimal lost.generation ++ codes " " ++ decimal lost.have ++ codes " " ++ decimal lost.need

-- which generations a change took away, which groups it placed, and the new inode
unfoldable pub change_text : Change → List ℕ
change_text change =
    codes " old " ++ numbers_text change.old ++ codes " new " ++ groups_text change.new ++ codes " inode " ++ group_text change.inode

unfoldable pub create_text : Level → List ℕ
create_text declared = codes "create " ++ level_name declared

-- why an operation of a file that was declared with this level was refused
unfoldable pub refused_text : Level → Refused → List ℕ
refused_text declared refused.CreateExists = create_text declared ++ codes " refused exists"
refused_text declared (refused.CreateTooFew fault) = create_text declared ++ too_few_text fault
refused_text declared (refused.CreateNoRoom need got drives) = create_text declared ++ no_room_text need got drives
refused_text declared refused.DeleteAbsent = codes "delete refused absent"
refused_text declared (refused.WriteAbsent offset len) = range_text (codes "write") offset len ++ codes " refused absent"
refused_text declared (refused.WriteTooFew offset len fault) = range_text (codes "write") offset len ++ too_few_text fault
refused_text declared (refused.WriteTooLong offset len count) = range_text (codes "write") offset len ++ codes " refused toolong " ++ decimal count
refused_text declared (refused.WriteLost offset len lost) = range_text (codes "write") offset len ++ lost_text lost
refused_text declared (refused.WriteNoRoom offset len need got drives) = range_text (codes "write") offset len ++ no_room_text need got drives
refused_text declared (refused.ReadAbsent offset len) = range_text (codes "read") offset len ++ codes " refused absent"
refused_text declared (refused.ReadLost offset len lost) = range_text (codes "read") offset len ++ lost_text lost
refused_text declared (refused.LevelAbsent level) = codes "level " ++ level_name level ++ codes " refused absent"

-- what was done to a file that was declared with this level; what jobs do has no line until jobs are built
unfoldable pub event_text : Level → FileEvent → List ℕ
event_text declared (event.Created inode) = create_text declared ++ codes " inode " ++ group_text inode
event_text declared event.Deleted = codes "delete"
event_text declared (event.Written offset len size change) = range_text (codes "write") offset len ++ codes " size " ++ decimal size ++ change_text change
event_text declared (event.Shown offset len bytes) = range_text (codes "read") offset len ++ codes " shown " ++ bytes_text bytes
event_text declared (event.LevelSet level) = codes "level " ++ level_name level
event_text declared (event.Placed job change) = []
event_text declared (event.Dead generation position) = codes "dead " ++ decimal generation ++ codes " " ++ decimal position
event_text declared (event.Barred job drives) = []
event_text declared (event.Cleared job drives) = []
event_text declared (event.Marked job count) = []
event_text declared (event.Refused why) = refused_text declared why

-- who made an entry, at which epoch, and what was done
unfoldable pub file_line : Level → FileEntry → List ℕ
file_line declared e = by_text e.by ++ codes " e" ++ decimal e.epoch ++ codes " " ++ event_text declared e.event ++ line_feed

abbrev pub file_lines : Level → List FileEntry → List ℕ
file_lines declared [] = []
file_lines declared (e ∷ es) = file_line declared e ++ file_lines declared es
