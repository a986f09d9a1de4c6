-- A closed fabric that has all slots.
use Rattle.std.specs.Prelude.{◌≡◌, true, Some, slice_get}
use Rattle.domains.specs.Shape.{Shape, is_of}
use Rattle.domains.specs.Drive.{Drive}
use Rattle.fabric.specs.Cells.{place_in}
use Rattle.fabric.specs.ClosedFabric.{all_slots}
use Rattle.fabric.specs.declared.close.Parts.{Parts}
use Rattle.flex_io.specs.declared.raw_place.RawPlace.{RawPlace}
use Rattle.slot_pool.specs.Pools.{PoolView}

-- each drive's slots are all there: those that are free, those in the yard, and the retired ones
abbrev pub AreWhole : {S : Type 0} → (S → RawPlace) → Shape → Parts S → Type 0
AreWhole place_of shape parts =
    (d : Drive) (p : PoolView _) → is_of shape d ≡ true → slice_get parts.pools (place_in shape d) ≡ Some p → all_slots place_of d p parts.yard parts.retired 0 ≡ shape.slots
