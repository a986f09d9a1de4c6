-- Where slots are, and those of one drive.
use Rattle.std.specs.Prelude.{◌≡◌, ℕ, ◌<◌, Bool, not, List, map, count_by}
use Rattle.std.specs.List.{filter}
use Rattle.domains.specs.Drive.{Drive, same_drive}
use Rattle.domains.specs.Place.{Place}
use Rattle.flex_io.specs.declared.raw_place.RawPlace.{RawPlace}

-- the place that a device's numbers name
abbrev pub place_from : RawPlace → Place
place_from p = record { drive = record { node = p.node; drive = p.drive }; slot = p.slot }

-- the place is one of the drive's slots, of which it has this number
pub record IsOn (drive : Drive) (slots : ℕ) (s : Place) : Type 0 where
  pub drive_is : s.drive ≡ drive
  pub within : s.slot < slots

module _ {S : Type 0} (place_of : S → RawPlace) where
  -- the drive of a slot
  abbrev pub drive_of : S → Drive
  drive_of slot = (place_from (place_of slot)).drive

  -- the slot is on the drive
  abbrev pub is_on : Drive → S → Bool
  is_on d slot = same_drive (drive_of slot) d

  -- how many of the slots are on the drive
  abbrev pub count_on : Drive → List S → ℕ
  count_on d slots = count_by (is_on d) slots

  -- how many of the slots stand at a place that passes the test
  abbrev pub count_at : (Place → Bool) → List S → ℕ
  count_at p slots = count_by (λ slot. p (place_from (place_of slot))) slots

  -- the slots on the drive, in their order
  abbrev pub slots_on : Drive → List S → List S
  slots_on d slots = filter (is_on d) slots

  -- the slots on other drives, in their order
  abbrev pub slots_beside : Drive → List S → List S
  slots_beside d slots = filter (λ slot. not (is_on d slot)) slots

  -- the places of the slots
  abbrev pub places_from : List S → List Place
  places_from slots = map (λ slot. place_from (place_of slot)) slots
