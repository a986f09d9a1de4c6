-- Places for stripe units.
use Rattle.std.specs.Prelude.{◌≡◌, ℕ, ◌<◌, nat_lt, Bool, true, ◌==◌, ◌&&◌}
use Rattle.domains.specs.Drive.{Drive, IsDrive, same_drive}
use Rattle.domains.specs.Shape.{Shape, is_of}

-- a place for a stripe unit: a slot of a drive, from 0
pub record Place : Type 0 where
  pub drive : Drive
  pub slot : ℕ

-- the numbers are within the limits of a cluster
pub record IsPlace (s : Place) : Type 0 where
  pub drive : IsDrive s.drive
  pub slot : s.slot < 4096

-- the two are one place
abbrev pub same_place : Place → Place → Bool
same_place a b = same_drive a.drive b.drive && (a.slot == b.slot)

-- the place is one of the cluster's
pub record IsPlaceOf (shape : Shape) (s : Place) : Type 0 where
  pub drive : is_of shape s.drive ≡ true
  pub slot : s.slot < shape.slots

-- whether the place is one of the cluster's
abbrev pub is_place_of : Shape → Place → Bool
is_place_of shape s = is_of shape s.drive && nat_lt s.slot shape.slots
