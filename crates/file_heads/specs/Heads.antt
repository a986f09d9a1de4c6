-- What is kept of a file beside its groups.
use Rattle.std.specs.Prelude.{◌≡◌, ℕ, Bool, true, false, length, Option, Some, None}
use Rattle.domains.specs.Drive.{Drive, IsDrive}
use Rattle.domains.specs.DriveSet.{has}
use Rattle.domains.specs.declared.group.Group.{Group}
use Rattle.file_history.specs.Layout.{Layout, all_groups, places_of}
use Rattle.file_history.specs.Refusals.{is_barred}
use Rattle.file_heads.specs.declared.head.Head.{Head}
use Rattle.file_history.specs.Live.{is_dead}
use Rattle.file_heads.specs.DeadUnits.{names}
use Rattle.file_history.specs.declared.entry.FileEvent.{FileEvent}
use Rattle.file_history.specs.declared.entry.FileEvent.TheVariants.{Created, Deleted, Written, Shown, LevelSet, Placed, Dead, Barred, Cleared, Marked, Refused}

abbrev pub is_there : Option Group → Bool
is_there None = false
is_there (Some g) = true

-- the event leaves the units and the dead ones as they are
abbrev pub is_quiet : FileEvent → Bool
is_quiet (Created inode) = false
is_quiet Deleted = false
is_quiet (Written offset len size change) = false
is_quiet (Shown offset len bytes) = true
is_quiet (LevelSet level) = true
is_quiet (Placed job change) = false
is_quiet (Dead generation position) = false
is_quiet (Barred job drives) = true
is_quiet (Cleared job drives) = true
is_quiet (Marked job count) = true
is_quiet (Refused why) = true

-- the numbers that are kept beside the groups are those of the layout
pub record IsHead (h : Head) (l : Layout) : Type 0 where
  pub requested : h.requested ≡ l.requested
  pub level : h.level ≡ l.level
  pub size : h.size ≡ l.size
  pub next : h.next ≡ l.next
  pub units : h.units ≡ length (places_of (all_groups l))
  pub dead : (generation position : ℕ) → names h.dead.items generation position ≡ is_dead l generation position
  pub barred : (d : Drive) → IsDrive d → has h.barred d ≡ is_barred l d
