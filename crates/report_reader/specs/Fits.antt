-- The entries that have a line: their numbers have at most 64 bits, and they are of a kind that is printed.
use Rattle.std.specs.Prelude.{◌≡◌, ℕ, ◌<◌, ◌^◌, List, [], ◌∷◌, length}
use Rattle.std.specs.List.{AllByRecursion}
use Rattle.domains.specs.Drive.{Drive}
use Rattle.domains.specs.Place.{Place}
use Rattle.domains.specs.Level.{IsLevel}
use Rattle.domains.specs.declared.by.By.{By}
use Rattle.domains.specs.declared.group.Group.{Group}
use Rattle.domains.specs.declared.group.Lost.{Lost}
use Rattle.domains.specs.declared.room.TooFew.{TooFew}
use Rattle.board_history.specs.declared.entry.BoardEntry.{BoardEntry}
use Rattle.board_history.specs.declared.entry.Order.{Order}
use Rattle.board_history.specs.declared.entry.Order.TheVariants as order
use Rattle.file_history.specs.declared.entry.Change.{Change}
use Rattle.file_history.specs.declared.entry.FileEntry.{FileEntry}
use Rattle.file_history.specs.declared.entry.FileEvent.{FileEvent}
use Rattle.file_history.specs.declared.entry.FileEvent.TheVariants as event
use Rattle.file_history.specs.declared.entry.Refused.{Refused}
use Rattle.file_history.specs.declared.entry.Refused.TheVariants as refused
use Rattle.scenario.specs.declared.scenario.FileDecl.{FileDecl}
use Rattle.report.specs.declared.logs.Logs.{Logs}

abbrev pub IsWide : ℕ → Type 0
IsWide n = n < 2 ^ 64

pub record FitsBy (by : By) : Type 0 where
  pub actor : IsWide by.actor
  pub call : IsWide by.call

pub record FitsDrive (d : Drive) : Type 0 where
  pub node : IsWide d.node
  pub drive : IsWide d.drive

pub record FitsPlace (s : Place) : Type 0 where
  pub drive : FitsDrive s.drive
  pub slot : IsWide s.slot

pub record FitsGroup (g : Group) : Type 0 where
  pub generation : IsWide g.generation
  pub n : IsWide g.n
  pub m : IsWide g.m
  pub places : AllByRecursion FitsPlace g.places

pub record FitsChange (c : Change) : Type 0 where
  pub old : AllByRecursion IsWide c.old
  pub new : AllByRecursion FitsGroup c.new
  pub inode : FitsGroup c.inode

pub record FitsTooFew (t : TooFew) : Type 0 where
  pub have : IsWide t.have
  pub need : IsWide t.need

pub record FitsLost (l : Lost) : Type 0 where
  pub generation : IsWide l.generation
  pub have : IsWide l.have
  pub need : IsWide l.need

abbrev pub FitsOrder : Order → Type 0
FitsOrder (order.Fail d) = FitsDrive d
FitsOrder (order.FailNode n) = IsWide n
FitsOrder (order.Down d) = FitsDrive d
FitsOrder (order.Up d) = FitsDrive d

pub record FitsBoardEntry (e : BoardEntry) : Type 0 where
  pub by : FitsBy e.by
  pub order : FitsOrder e.order

abbrev pub FitsNoRoom : ℕ → ℕ → List Drive → Type 0
FitsNoRoom need got drives = IsWide need × (IsWide got × AllByRecursion FitsDrive drives)

abbrev pub FitsRange : ℕ → ℕ → Type 0
FitsRange offset len = IsWide offset × IsWide len

abbrev pub FitsRefused : Refused → Type 0
FitsRefused refused.CreateExists = Unit {0}
FitsRefused (refused.CreateTooFew fault) = FitsTooFew fault
FitsRefused (refused.CreateNoRoom need got drives) = FitsNoRoom need got drives
FitsRefused refused.DeleteAbsent = Unit {0}
FitsRefused (refused.WriteAbsent offset len) = FitsRange offset len
FitsRefused (refused.WriteTooFew offset len fault) = FitsRange offset len × FitsTooFew fault
FitsRefused (refused.WriteTooLong offset len count) = FitsRange offset len × IsWide count
FitsRefused (refused.WriteLost offset len lost) = FitsRange offset len × FitsLost lost
FitsRefused (refused.WriteNoRoom offset len need got drives) = FitsRange offset len × FitsNoRoom need got drives
FitsRefused (refused.ReadAbsent offset len) = FitsRange offset len
FitsRefused (refused.ReadLost offset len lost) = FitsRange offset len × FitsLost lost
FitsRefused (refused.LevelAbsent level) = IsLevel level

-- what jobs do has no line until jobs are built
abbrev pub FitsEvent : FileEvent → Type 0
FitsEvent (event.Created inode) = FitsGroup inode
FitsEvent event.Deleted = Unit {0}
FitsEvent (event.Written offset len size change) = FitsRange offset len × (IsWide size × FitsChange change)
FitsEvent (event.Shown offset len bytes) = FitsRange offset len × AllByRecursion (λ (b : ℕ). b < 256) bytes
FitsEvent (event.LevelSet level) = IsLevel level
FitsEvent (event.Placed job change) = ⊥
FitsEvent (event.Dead generation position) = IsWide generation × IsWide position
FitsEvent (event.Barred job drives) = ⊥
FitsEvent (event.Cleared job drives) = ⊥
FitsEvent (event.Marked job count) = ⊥
FitsEvent (event.Refused why) = FitsRefused why

pub record FitsFileEntry (e : FileEntry) : Type 0 where
  pub by : FitsBy e.by
  pub epoch : IsWide e.epoch
  pub event : FitsEvent e.event

-- each file has a log, whose entries have lines
abbrev pub FitFiles : List FileDecl → List (List FileEntry) → Type 0
FitFiles [] [] = Unit {0}
FitFiles [] (log ∷ logs) = ⊥
FitFiles (f ∷ fs) [] = ⊥
FitFiles (f ∷ fs) (log ∷ logs) = IsLevel f.level × (IsWide (length log) × (AllByRecursion FitsFileEntry log × FitFiles fs logs))

-- the logs can be printed: each entry has a line, and each file of the scenario a log
pub record FitLogs (logs : Logs) : Type 0 where
  pub board : AllByRecursion FitsBoardEntry logs.board
  pub orders : IsWide (length logs.board)
  pub files : FitFiles logs.scenario.files logs.files
