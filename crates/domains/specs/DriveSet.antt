-- Which drives a set has.
use Rattle.std.specs.Prelude.{◌-◌, ◌==◌, Bool, slice_index}
use Rattle.std.specs.Int.{bit_at}
use Rattle.domains.specs.Drive.{Drive}
use Rattle.domains.specs.declared.drive_set.DriveSet.{DriveSet}

-- whether the set has the drive: a word for each node, a bit for each of its drives
abbrev pub has : DriveSet → Drive → Bool
has s d = bit_at (slice_index s.nodes (d.node - 1)) (d.drive - 1) == 1
