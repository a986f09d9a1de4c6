-- The account of an actor: what its hand holds, and what its seat at a file placed and took away.
use Rattle.std.specs.Prelude.{◌≡◌, ℕ, ◌+◌, ◌%◌, ◌^◌, Bool, true}
use Rattle.domains.specs.Drive.{Drive, same_drive}
use Rattle.domains.specs.Place.{Place}
use Rattle.domains.specs.Shape.{Shape, is_of}
use Rattle.fabric.specs.Accounts.{Holds}
use Rattle.fabric.specs.declared.hand.Hand.{Hand}
use Rattle.file_core.specs.Accounts.{placed_by, taken_by}
use Rattle.file_core.specs.FileView.{FileView}

-- the place is on the drive
abbrev pub on_drive : Drive → Place → Bool
on_drive d s = same_drive s.drive d

module _ {S : Type 0} where
  -- modulo 2^64 the hand holds, with what the seat's notes took away from the drive, `many` more slots of it than they placed there
  pub record Account (shape : Shape) (d : Drive) (many seat : ℕ) (file : FileView S) (hand : Hand S) : Type 0 where
    pub held : ℕ
    pub holds : Holds shape d held hand
    pub sum : (held + taken_by seat (on_drive d) file.level file.notes) % 2 ^ 64 ≡ (many + placed_by seat (on_drive d) file.notes) % 2 ^ 64

  -- each drive has the account that it had
  pub record KeepsAccount (shape : Shape) (seat : ℕ) (x y : FileView S) (old new : Hand S) : Type 0 where
    pub each : (d : Drive) (many : ℕ) → is_of shape d ≡ true → Account shape d many seat x old → Account shape d many seat y new
