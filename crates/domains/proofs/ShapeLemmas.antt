-- The drives and places of a cluster.
use Rattle.std.proofs.Common.{◌≡◌, ◌≤◌, true, arith}
use Rattle.std.proofs.lemmas.Bool.{and_parts, and_from, leb-true, ltb-true, lt-ltb}
use Rattle.domains.specs.Shape.{Shape, IsShape, is_of}
use Rattle.domains.specs.Drive.{Drive, IsDrive}
use Rattle.domains.specs.Place.{Place, IsPlace, IsPlaceOf, is_place_of}

-- the drive's numbers are within those of the cluster
pub record IsWithin (shape : Shape) (d : Drive) : Type 0 where
  pub some_node : 1 ≤ d.node
  pub nodes : d.node ≤ shape.nodes
  pub some_drive : 1 ≤ d.drive
  pub drives : d.drive ≤ shape.drives

pub is_of-within : (shape : Shape) (d : Drive) → is_of shape d ≡ true → IsWithin shape d
is_of-within shape d of =
    let parts = and_parts _ _ of in
    let some = and_parts _ _ parts.0 in
    let most = and_parts _ _ parts.1 in
    record { some_node = leb-true _ _ some.0; nodes = leb-true _ _ most.0; some_drive = leb-true _ _ some.1; drives = leb-true _ _ most.1 }

-- a drive of a cluster has numbers within the limits
pub IsDrive-of : (shape : Shape) (d : Drive) → IsShape shape → is_of shape d ≡ true → IsDrive d
IsDrive-of shape d is of =
    let within = is_of-within shape d of in
    let nodes = is.nodes in
    let drives = is.drives in
    let a = within.nodes in
    let b = within.drives in
    record { some_node = within.some_node; nodes = omega (arith, nodes, a); some_drive = within.some_drive; drives = omega (arith, drives, b) }

-- a place of a cluster has numbers within the limits
pub IsPlace-of : (shape : Shape) (s : Place) → IsShape shape → IsPlaceOf shape s → IsPlace s
IsPlace-of shape s is place =
    let most = is.slots in
    let within = place.slot in
    record { drive = IsDrive-of shape s.drive is place.drive; slot = omega (arith, most, within) }

-- the test says whether the place is one of the cluster's
pub is_place_of-is : (shape : Shape) (s : Place) → is_place_of shape s ≡ true → IsPlaceOf shape s
is_place_of-is shape s of = let parts = and_parts _ _ of in record { drive = parts.0; slot = ltb-true _ _ parts.1 }

pub IsPlaceOf-is_place_of : (shape : Shape) (s : Place) → IsPlaceOf shape s → is_place_of shape s ≡ true
IsPlaceOf-is_place_of shape s of = and_from _ _ of.drive (lt-ltb _ _ of.slot)
