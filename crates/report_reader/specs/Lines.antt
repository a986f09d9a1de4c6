-- Lines, and the entries that the code's types hold.
use Rattle.std.specs.Prelude.{codes, ◌≡◌, ℕ, ◌<◌, ◌≤◌, ◌^◌, ◌==◌, Bool, not, List, [], ◌∷◌, ◌++◌}
use Rattle.std.specs.Fmt.{decimal}
use Rattle.std.specs.List.{AllByRecursion, list_all}
use Rattle.domains.specs.Drive.{Drive, IsDrive}
use Rattle.domains.specs.Level.{IsLevel}
use Rattle.domains.specs.Place.{IsPlace}
use Rattle.domains.specs.declared.by.By.{By}
use Rattle.domains.specs.declared.group.Group.{Group}
use Rattle.domains.specs.declared.group.Lost.{Lost}
use Rattle.domains.specs.declared.room.TooFew.{TooFew}
use Rattle.file_history.specs.declared.entry.Change.{Change}
use Rattle.file_history.specs.declared.entry.FileEntry.{FileEntry}
use Rattle.file_history.specs.declared.entry.FileEvent.{FileEvent}
use Rattle.file_history.specs.declared.entry.FileEvent.TheVariants as event
use Rattle.file_history.specs.declared.entry.Refused.{Refused}
use Rattle.file_history.specs.declared.entry.Refused.TheVariants as refused
use Rattle.scenario.specs.Ops.{drive_text}
use Rattle.board_history.specs.declared.entry.BoardEntry.{BoardEntry}
use Rattle.board_history.specs.declared.entry.Order.{Order}
use Rattle.board_history.specs.declared.entry.Order.TheVariants as order
use Rattle.report.specs.BoardLines.{effect_text, order_text}
use Rattle.report.specs.Words.{by_text, group_text}

-- the byte does not stand in the text
abbrev pub lacks : ℕ → List ℕ → Bool
lacks c text = list_all (λ b. not (b == c)) text

-- the first word of an order
abbrev pub word_of : Order → List ℕ
word_of (order.Fail d) = codes "fail"
word_of (order.FailNode n) = codes "failnode"
word_of (order.Down d) = codes "down"
word_of (order.Up d) = codes "up"

-- the drive or the node that it is given to
abbrev pub target_of : Order → List ℕ
target_of (order.Fail d) = drive_text d
target_of (order.FailNode n) = decimal n
target_of (order.Down d) = drive_text d
target_of (order.Up d) = drive_text d

-- a line of the board without its line feed
abbrev pub board_text : BoardEntry → List ℕ
board_text e = by_text e.by ++ codes " " ++ order_text e.order ++ codes " " ++ effect_text e.effect

pub record IsBy (by : By) : Type 0 where
  pub actor : by.actor < 2 ^ 8
  pub call : by.call < 2 ^ 32

abbrev pub IsOrder : Order → Type 0
IsOrder (order.Fail d) = IsDrive d
IsOrder (order.FailNode n) = (1 ≤ n) × (n ≤ 32)
IsOrder (order.Down d) = IsDrive d
IsOrder (order.Up d) = IsDrive d

-- the numbers of an entry of the board are within their types
pub record IsBoardEntry (e : BoardEntry) : Type 0 where
  pub by : IsBy e.by
  pub order : IsOrder e.order

-- ---- the entries of a file

pub record IsGroup (g : Group) : Type 0 where
  pub generation : g.generation < 2 ^ 32
  pub n : g.n < 2 ^ 8
  pub m : g.m < 2 ^ 8
  pub places : AllByRecursion IsPlace g.places

abbrev pub IsGeneration : ℕ → Type 0
IsGeneration n = n < 2 ^ 32

pub record IsChange (c : Change) : Type 0 where
  pub old : AllByRecursion IsGeneration c.old
  pub new : AllByRecursion IsGroup c.new
  pub inode : IsGroup c.inode

pub record IsTooFew (t : TooFew) : Type 0 where
  pub have : t.have < 2 ^ 16
  pub need : t.need < 2 ^ 8

pub record IsLost (l : Lost) : Type 0 where
  pub generation : l.generation < 2 ^ 32
  pub have : l.have < 2 ^ 8
  pub need : l.need < 2 ^ 8

-- how many slots were asked for and found, and the drives that were found empty
abbrev pub IsNoRoom : ℕ → ℕ → List Drive → Type 0
IsNoRoom need got drives = (need < 2 ^ 8) × ((got < 2 ^ 8) × AllByRecursion IsDrive drives)

-- the offset and the length of an operation
abbrev pub IsRange : ℕ → ℕ → Type 0
IsRange offset len = (offset < 2 ^ 64) × (len < 2 ^ 32)

abbrev pub IsRefused : Refused → Type 0
IsRefused refused.CreateExists = Unit {0}
IsRefused (refused.CreateTooFew fault) = IsTooFew fault
IsRefused (refused.CreateNoRoom need got drives) = IsNoRoom need got drives
IsRefused refused.DeleteAbsent = Unit {0}
IsRefused (refused.WriteAbsent offset len) = IsRange offset len
IsRefused (refused.WriteTooFew offset len fault) = IsRange offset len × IsTooFew fault
IsRefused (refused.WriteTooLong offset len count) = IsRange offset len × (count < 2 ^ 64)
IsRefused (refused.WriteLost offset len lost) = IsRange offset len × IsLost lost
IsRefused (refused.WriteNoRoom offset len need got drives) = IsRange offset len × IsNoRoom need got drives
IsRefused (refused.ReadAbsent offset len) = IsRange offset len
IsRefused (refused.ReadLost offset len lost) = IsRange offset len × IsLost lost
IsRefused (refused.LevelAbsent level) = IsLevel level

-- the event is of a kind that has a line, and its numbers are within their types
abbrev pub IsEvent : FileEvent → Type 0
IsEvent (event.Created inode) = IsGroup inode
IsEvent event.Deleted = Unit {0}
IsEvent (event.Written offset len size change) = IsRange offset len × ((size < 2 ^ 64) × IsChange change)
IsEvent (event.Shown offset len bytes) = IsRange offset len × AllByRecursion (λ (b : ℕ). b < 256) bytes
IsEvent (event.LevelSet level) = IsLevel level
IsEvent (event.Placed job change) = ⊥
IsEvent (event.Dead generation position) = (generation < 2 ^ 32) × (position < 2 ^ 8)
IsEvent (event.Barred job drives) = ⊥
IsEvent (event.Cleared job drives) = ⊥
IsEvent (event.Marked job count) = ⊥
IsEvent (event.Refused why) = IsRefused why

pub record IsFileEntry (e : FileEntry) : Type 0 where
  pub by : IsBy e.by
  pub epoch : e.epoch < 2 ^ 32
  pub event : IsEvent e.event

-- the new inode behind the groups of a change
abbrev pub inode_tail : Group → List ℕ
inode_tail i = 32 ∷ (codes "inode" ++ 32 ∷ group_text i)

-- groups with a space behind each, and the new inode
abbrev pub groups_tail : List Group → Group → List ℕ
groups_tail [] i = codes "inode" ++ 32 ∷ group_text i
groups_tail (g ∷ gs) i = group_text g ++ 32 ∷ groups_tail gs i
