-- Why a run ends with the rack's status.
use Rattle.std.specs.Prelude.{◌≡◌, ◌⊎◌, ℕ, List, true, Option, IfSome}
use Rattle.flex_io.specs.Faults.{HasRisen}
use Rattle.flex_io.specs.declared.raw_place.RawPlace.{RawPlace}
use Rattle.domains.specs.Place.{is_place_of}
use Rattle.domains.specs.Shape.{Shape}
use Rattle.held_slots.specs.Slots.{place_from}
use Rattle.scenario.specs.declared.scenario.Scenario.{Scenario}
use Rattle.flex_run.specs.RackStates.{RackState, RisesBy, slot_count}

-- a slot of the cluster failed: its count of faults rose
pub record SlotFailed {S : Type 0} (place_of : S → RawPlace) (faults : S → ℕ) (shape : Shape) : Type 0 where
  pub before : S
  pub after : S
  pub place : place_of after ≡ place_of before
  pub of_cluster : is_place_of shape (place_from (place_of before)) ≡ true
  pub rose : HasRisen (faults before) (faults after)

-- a slot of the cluster failed, when the rack had given each and none had come back
pub record FailsAtSlot {S : Type 0} (place_of : S → RawPlace) (faults : S → ℕ) (shape : Shape) (before now : RackState) : Type 0 where
  pub slot : SlotFailed place_of faults shape
  pub takes : RisesBy (slot_count shape) before.takes now.takes
  pub puts : now.puts ≡ before.puts
  pub back : now.back ≡ before.back

-- the rack's count of faults rose in this call, or a slot that it gave failed
abbrev pub RackFailed : {S : Type 0} → (S → RawPlace) → (S → ℕ) → Shape → RackState → RackState → Type 0
RackFailed place_of faults shape before now = HasRisen before.faults now.faults ⊎ FailsAtSlot place_of faults shape before now
