-- Slots that are put back.
use Rattle.std.specs.Prelude.{◌≡◌, ℕ, ◌≤◌, List, [], ◌∷◌, ◌++◌, length, map, Option, None, Some, Result, OnOk, ⊤}
use Rattle.flex_io.specs.Faults.{HasCause}
use Rattle.flex_io.specs.declared.fault.Fault.{Fault}
use Rattle.flex_io.specs.declared.rack.Returned.{Returned}
use Rattle.flex_io.specs.declared.raw_place.RawPlace.{RawPlace}
use Rattle.slot_pool.specs.Pools.{PoolView}
use Rattle.returned_slots.specs.RackStates.{RackState, RisesBy}

-- the bytes, none where nothing tells them
abbrev pub told_bytes : Option (List ℕ) → List ℕ
told_bytes None = []
told_bytes (Some bytes) = bytes

-- the free slots of pools: pool by pool, each pool's from the bottom of its stack
abbrev pub free_slots : {S : Type 0} → List (PoolView S) → List S
free_slots [] = []
free_slots (p ∷ pools) = p.free ++ free_slots pools

module _ {S : Type 0} (place_of : S → RawPlace) (content : S → Option (List ℕ)) where
  -- what comes back of a slot
  abbrev pub returned_of : S → Returned
  returned_of slot = record { place = place_of slot; bytes = told_bytes (content slot) }

  -- the slots came back in their order, after what came back before, where the rack tells
  abbrev pub ComesBack : List S → Option (List Returned) → Option (List Returned) → Type 0
  ComesBack slots None now = ⊤
  ComesBack slots (Some before) now = now ≡ Some (before ++ map returned_of slots)

  -- the slots were put back, in their order, or a fault is the answer, and then the rack failed or memory ran out
  pub record Returns {T : Type 0} (slots : List S) (result : Result T Fault) (before now : RackState) : Type 0 where
    pub back : OnOk result (ComesBack slots before.back now.back)
    pub takes : now.takes ≡ before.takes
    pub puts : OnOk result (RisesBy (length slots) before.puts now.puts)
    pub fault : HasCause result before.faults now.faults
    pub never_falls : before.faults ≤ now.faults
