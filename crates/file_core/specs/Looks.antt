-- What a file answers of itself.
use Rattle.std.specs.Prelude.{◌≡◌, ℕ, length, Option, Some, None}
use Rattle.domains.specs.Drive.{Drive, IsDrive}
use Rattle.domains.specs.DriveSet.{has}
use Rattle.domains.specs.declared.group.Group.{Group}
use Rattle.file_history.specs.Layout.{Layout, all_groups, places_of}
use Rattle.file_history.specs.Refusals.{is_barred}
use Rattle.file_core.specs.declared.looks.Look.{Look}

abbrev pub generation_of : Option Group → Option ℕ
generation_of None = None
generation_of (Some g) = Some g.generation

-- the answer tells this layout, after a log of this number of entries
pub record IsLook (l : Layout) (count : ℕ) (look : Look) : Type 0 where
  pub present : look.present ≡ l.present
  pub size : look.size ≡ l.size
  pub units : look.units ≡ length (places_of (all_groups l))
  pub groups : look.groups ≡ length l.groups
  pub level : look.level ≡ l.requested
  pub next : look.next_generation ≡ l.next
  pub inode : look.inode_generation ≡ generation_of l.inode
  pub barred : (d : Drive) → IsDrive d → has look.barred d ≡ is_barred l d
  pub entries : look.at ≡ count
