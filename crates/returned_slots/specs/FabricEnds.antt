-- The slots that a fabric has at its end.
use Rattle.std.specs.Prelude.{◌≡◌, ℕ, ◌+◌, ◌%◌, ◌^◌, ◌<◌, true, List, ◌++◌, Option, Result}
use Rattle.std.specs.List.{sum}
use Rattle.domains.specs.Drive.{Drive}
use Rattle.domains.specs.Shape.{Shape, is_of}
use Rattle.fabric.specs.ClosedFabric.{AreHolding, ArePoolsOf, AreYardOf, IsAccounted, IsExact}
use Rattle.fabric.specs.declared.hand.Hand.{Hand}
use Rattle.flex_io.specs.declared.fault.Fault.{Fault}
use Rattle.flex_io.specs.declared.raw_place.RawPlace.{RawPlace}
use Rattle.held_slots.specs.Slots.{count_on}
use Rattle.slot_pool.specs.Pools.{PoolView}
use Rattle.returned_slots.specs.RackStates.{RackState}
use Rattle.returned_slots.specs.Returns.{Returns, free_slots}

module _ {S : Type 0} (place_of : S → RawPlace) (content : S → Option (List ℕ)) where
  -- the slots that the closed cells of these hands held went back: those that waited, the retired ones, and the free ones. With
  -- those that the hands hold they are all slots of each drive
  pub record EndsFabric {T : Type 0} (shape : Shape) (hands : List (Hand S)) (result : Result T Fault) (before now : RackState) : Type 0 where
    pub waited : List S
    pub retired : List S
    pub pools : List (PoolView S)
    pub of_yard : AreYardOf place_of shape hands waited retired
    pub of_pools : ArePoolsOf place_of shape hands pools
    pub account : IsAccounted place_of shape hands pools waited retired
    pub exact : IsExact place_of shape hands pools waited retired
    pub returns : Returns place_of content (waited ++ retired ++ free_slots pools) result before now

module _ {S : Type 0} (place_of : S → RawPlace) where
  -- of each drive as many slots waited, were retired or were free as the hands did not hold, if together they hold n, fewer than 2^63
  abbrev pub HaveAllSlots : Type 0
  HaveAllSlots = (shape : Shape) (hands : List (Hand S)) (pools : List (PoolView S)) (waited retired : List S) → ArePoolsOf place_of shape hands pools
      → IsExact place_of shape hands pools waited retired → (d : Drive) (held : List ℕ) (n : ℕ) → is_of shape d ≡ true → AreHolding shape d hands held
      → sum held % 2 ^ 64 ≡ n % 2 ^ 64 → n < 2 ^ 63 → count_on place_of d (waited ++ retired ++ free_slots pools) + n ≡ shape.slots
