-- What is left of a set of drives, and what a fault tells of the room.
use Rattle.std.specs.Prelude.{◌≡◌, ℕ, ◌+◌, ◌<◌, Bool, true, ◌&&◌, not, List}
use Rattle.std.specs.List.{AllByRecursion}
use Rattle.domains.specs.Drive.{Drive, IsDrive, AreApart, is_in}
use Rattle.domains.specs.DriveSet.{has}
use Rattle.domains.specs.Level.{Level}
use Rattle.domains.specs.declared.drive_set.DriveSet.{DriveSet}
use Rattle.domains.specs.declared.room.TooFew.{TooFew}

-- the fault tells this room, and that the level wants more
pub record TellsRoom (level : Level) (room : ℕ) (fault : TooFew) : Type 0 where
  pub have : fault.have ≡ room
  pub need : fault.need ≡ level.m + 1
  pub short : fault.have < fault.need

-- the drive is one within the limits that is in the set
pub record IsIn (set : DriveSet) (d : Drive) : Type 0 where
  pub drive : IsDrive d
  pub there : has set d ≡ true

-- each of the drives is in the set, and none comes twice
pub record AreOnce (drives : List Drive) (old : DriveSet) : Type 0 where
  pub each : AllByRecursion (IsIn old) drives
  pub apart : AreApart drives

-- the answer is whether the drives are in the set, none twice; if they are, they are taken out of it
pub record AreTakenOut (all : Bool) (drives : List Drive) (old new : DriveSet) : Type 0 where
  pub found : all ≡ true → AreOnce drives old
  pub left : all ≡ true → (d : Drive) → IsDrive d → has new d ≡ (has old d && not (is_in drives d))
  pub accepts : AreOnce drives old → all ≡ true
