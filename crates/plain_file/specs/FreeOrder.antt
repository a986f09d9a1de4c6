-- The order of the free slots: drive by drive, each drive's from the bottom of its stack.
use Rattle.std.specs.Prelude.{◌≡◌, ◌⊎◌, ◌<◌, nat_le, nat_lt, ◌==◌, Bool, true, ◌&&◌, ◌||◌, List, [], ◌∷◌, map}
use Rattle.std.specs.List.{AllByRecursion}
use Rattle.flex_io.specs.declared.raw_place.RawPlace.{RawPlace}
use Rattle.domains.specs.Drive.{Drive, same_drive}
use Rattle.domains.specs.Place.{Place}
use Rattle.held_slots.specs.Slots.{place_from, count_at}
use Rattle.plain_file.specs.Plain.{StockView, FileView}

-- the first drive is before the other in drive order
abbrev pub is_before : Drive → Drive → Bool
is_before a b = nat_lt a.node b.node || ((a.node == b.node) && nat_lt a.drive b.drive)

-- the first place comes before the other: its drive is before the other's, or they are on one drive and its slot has the
-- higher number
abbrev pub ComesBefore : Place → Place → Type 0
ComesBefore s t = (is_before s.drive t.drive ≡ true) ⊎ ((s.drive ≡ t.drive) × (t.slot < s.slot))

-- each of the places comes before all behind it
abbrev pub AreInOrder : List Place → Type 0
AreInOrder [] = Unit {0}
AreInOrder (s ∷ ss) = AllByRecursion (ComesBefore s) ss × AreInOrder ss

-- the place is on one drive with the other, and its number is no higher
abbrev pub is_under : Place → Place → Bool
is_under s t = same_drive t.drive s.drive && nat_le s.slot t.slot

module _ {S : Type 0} (place_of : S → RawPlace) where
  -- the slots stand in order
  abbrev pub StandInOrder : List S → Type 0
  StandInOrder slots = AreInOrder (map (λ x. place_from (place_of x)) slots)

  -- the slot has a lower number than each of these that is on its drive
  abbrev pub HasLowerNumber : List S → S → Type 0
  HasLowerNumber slots x = count_at place_of (λ s. is_under s (place_from (place_of x))) slots ≡ 0

  -- the free slots stand in order, and while the file has no group, those of its inode have lower numbers than they
  pub record AreKeptInOrder (file : FileView S) (stock : StockView S) : Type 0 where
    pub free : StandInOrder stock.free
    pub inode : file.units ≡ [] → AllByRecursion (HasLowerNumber stock.free) file.inode
