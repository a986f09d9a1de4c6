-- How wide a group can be.
use Rattle.std.specs.Prelude.{ℕ, zero, suc, ◌+◌, ◌-◌, min, nat_le, Bool, if◌then◌else◌, Option, Some, None}
use Rattle.domains.specs.Drive.{Drive}
use Rattle.domains.specs.Shape.{Shape}
use Rattle.domains.specs.Level.{Level}

abbrev drive_at : ℕ → ℕ → Drive
drive_at node drive = record { node = node; drive = drive }

-- how many of the node's drives up to this number are usable
abbrev pub drives_on : ℕ → ℕ → (Drive → Bool) → ℕ
drives_on zero node usable = 0
drives_on (suc d) node usable = drives_on d node usable + (if usable (drive_at node (suc d)) then 1 else 0)

-- how many units of a group find a place on the first n nodes
abbrev pub room_up_to : ℕ → Level → Shape → (Drive → Bool) → ℕ
room_up_to zero level shape usable = 0
room_up_to (suc n) level shape usable = room_up_to n level shape usable + min (drives_on shape.drives (suc n) usable) level.k

-- how many units of a group find a place on the usable drives: at most k on each node
abbrev pub room_of : Level → Shape → (Drive → Bool) → ℕ
room_of level shape usable = room_up_to shape.nodes level shape usable

-- how many data units a new group has on the usable drives, where they have room for one
abbrev pub width_of : Level → Shape → (Drive → Bool) → Option ℕ
width_of level shape usable =
    if nat_le (level.m + 1) (room_of level shape usable) then Some (min level.w (room_of level shape usable - level.m)) else None
