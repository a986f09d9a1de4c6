-- What a test of new places knows of a file and its cluster.
use Rattle.std.specs.Prelude.{◌≡◌, ℕ, nat_lt, Bool, true, ◌&&◌}
use Rattle.std.specs.BTreeSet.{BTreeSet}
use Rattle.domains.specs.Drive.{Drive, IsDrive}
use Rattle.domains.specs.DriveSet.{has}
use Rattle.domains.specs.declared.drive_set.DriveSet.{DriveSet}
use Rattle.domains.specs.Place.{Place, IsPlace}
use Rattle.domains.specs.Shape.{Shape, is_of}
use Rattle.file_history.specs.World.{Moment}
use Rattle.file_history.specs.Layout.{Layout, all_groups, is_taken}
use Rattle.file_history.specs.Refusals.{is_usable}
use Rattle.stale_changes.specs.PlaceMarks.{is_marked}

-- the drives of the set are those of the cluster that may hold new units of the file at this moment
pub record IsUsableSet (shape : Shape) (usable : DriveSet) (now : Moment) (l : Layout) : Type 0 where
  pub cluster : now.shape ≡ shape
  pub each : (d : Drive) → IsDrive d → has usable d ≡ is_usable now l d
  pub of_cluster : (d : Drive) → is_usable now l d ≡ true → is_of shape d ≡ true

-- the places with a mark are those at which a unit of the layout stands
abbrev pub AreTaken : BTreeSet ℕ → Layout → Type 0
AreTaken keys l = (s : Place) → IsPlace s → is_marked keys s ≡ is_taken (all_groups l) s

-- the place is a slot of a usable drive of the cluster
unfoldable pub is_open : Shape → DriveSet → Place → Bool
is_open shape usable s = is_of shape s.drive && nat_lt s.slot shape.slots && has usable s.drive
