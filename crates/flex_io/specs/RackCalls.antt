-- Which calls of a rack in memory fail.
use Rattle.std.specs.Prelude.{ℕ, ◌-◌, ◌==◌, Bool, true, false, ◌&&◌, ◌||◌, List, [], ◌∷◌, if◌then◌else◌}
use Rattle.flex_io.specs.declared.raw_place.RawPlace.{RawPlace}
use Rattle.flex_io.specs.declared.call_plan.RackCall.{RackCall}
use Rattle.flex_io.specs.declared.call_plan.RackCall.TheVariants.{Take, Put, Write}
use Rattle.flex_io.specs.declared.call_plan.Fail.{Fail}
use Rattle.flex_io.specs.Racks.{RackView}
use Rattle.flex_io.specs.SurePieces.{Piece}

-- the two are one place
abbrev pub same_raw_place : RawPlace → RawPlace → Bool
same_raw_place a b = (a.node == b.node) && ((a.drive == b.drive) && (a.slot == b.slot))

-- the two are one kind of call
abbrev pub same_call : RackCall → RackCall → Bool
same_call Take Take = true
same_call Put Put = true
same_call Write Write = true
same_call Take Put = false
same_call Take Write = false
same_call Put Take = false
same_call Put Write = false
same_call Write Take = false
same_call Write Put = false

-- the planned failure is of this kind at this place
abbrev pub is_call : RawPlace → RackCall → Fail → Bool
is_call place call f = same_raw_place f.place place && same_call f.call call

-- the next call of this kind at this place is the one that fails
abbrev pub is_due : RawPlace → RackCall → Fail → Bool
is_due place call f = is_call place call f && (f.nth == 1)

-- one call of this kind at this place less until the one that fails
abbrev pub counted_down : RawPlace → RackCall → Fail → Fail
counted_down place call f = record f { nth = if is_call place call f then f.nth - 1 else f.nth }

-- the next call of this kind at this place is one that fails
abbrev pub any_due : RawPlace → RackCall → List Fail → Bool
any_due place call [] = false
any_due place call (f ∷ fs) = is_due place call f || any_due place call fs

-- the plan after a call of this kind at this place
abbrev pub after_call : RawPlace → RackCall → List Fail → List Fail
after_call place call [] = []
after_call place call (f ∷ fs) = counted_down place call f ∷ after_call place call fs

-- what is planned for the writes of the slot at this place
abbrev pub writes_at : RawPlace → List Fail → List Fail
writes_at place [] = []
writes_at place (f ∷ fs) = if is_call place Write f then f ∷ writes_at place fs else writes_at place fs

-- what contracts see of a rack in memory that fails as planned: what came back with the counts, the calls that are to fail, and how many failed
pub record MemoryRackView : Type 0 where
  pub rack : RackView
  pub plan : List Fail
  pub failed : ℕ

-- what contracts see of its slots: place, bytes and reads, the writes that are to fail, and how many failed
pub record MemoryPieceView : Type 0 where
  pub piece : Piece
  pub plan : List Fail
  pub failed : ℕ
