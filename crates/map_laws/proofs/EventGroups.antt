-- The groups that an event takes out of a map, and those that it puts there.
use Rattle.std.specs.Prelude.{ℕ, List, []}
use Rattle.domains.specs.declared.group.Group.{Group}
use Rattle.file_history.specs.WriteRule.{generations_of}
use Rattle.file_history.specs.declared.entry.FileEvent.{FileEvent}
use Rattle.file_history.specs.declared.entry.FileEvent.TheVariants as event

-- the generations that an event takes out of a map
abbrev pub gone_of : FileEvent → List Group → List ℕ
gone_of (event.Created inode) groups = generations_of groups
gone_of event.Deleted groups = generations_of groups
gone_of (event.Written offset len size change) groups = change.old
gone_of (event.Shown offset len bytes) groups = []
gone_of (event.LevelSet level) groups = []
gone_of (event.Placed job change) groups = change.old
gone_of (event.Dead generation position) groups = []
gone_of (event.Barred job drives) groups = []
gone_of (event.Cleared job drives) groups = []
gone_of (event.Marked job count) groups = []
gone_of (event.Refused why) groups = []

-- the groups that it puts in their place
abbrev pub fresh_of : FileEvent → List Group
fresh_of (event.Created inode) = []
fresh_of event.Deleted = []
fresh_of (event.Written offset len size change) = change.new
fresh_of (event.Shown offset len bytes) = []
fresh_of (event.LevelSet level) = []
fresh_of (event.Placed job change) = change.new
fresh_of (event.Dead generation position) = []
fresh_of (event.Barred job drives) = []
fresh_of (event.Cleared job drives) = []
fresh_of (event.Marked job count) = []
fresh_of (event.Refused why) = []
