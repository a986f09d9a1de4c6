-- What contracts see of a pool.
use Rattle.std.specs.Prelude.{◌≡◌, ℕ, ◌<◌, ◌≤◌, List, length, slice_index_or}
use Rattle.std.specs.List.{All}
use Rattle.domains.specs.Drive.{Drive, IsDrive}
use Rattle.flex_io.specs.declared.raw_place.RawPlace.{RawPlace}
use Rattle.slot_pool.specs.declared.tally.Tally.{Tally}
use Rattle.held_slots.specs.Slots.{place_from, IsOn}
use Rattle.slot_pool.specs.Tallies.{AddUp, with_tally}

-- the drive and its number of slots, the free slots from the bottom of the stack to its top, the seats' tallies, the number
-- of turns passed, and the seat whose turn it is
pub record PoolView (S : Type 0) : Type 0 where
  pub drive : Drive
  pub slots : ℕ
  pub free : List S
  pub tallies : List Tally
  pub turns : ℕ
  pub seat : ℕ

module _ {S : Type 0} where
  -- the pool with these free slots, once the seat whose turn it is has counted
  abbrev pub counted : (Tally → Tally) → List S → PoolView S → PoolView S
  counted how free p = record p { free = free; tallies = with_tally p.seat how p.tallies }

-- what holds of every pool
pub record IsPool {S : Type 0} (place_of : S → RawPlace) (p : PoolView S) : Type 0 where
  pub drive : IsDrive p.drive
  pub few : p.slots ≤ 4096
  pub seat : p.seat < 32
  pub seats : length p.tallies ≡ 32
  pub on : All (λ slot. IsOn p.drive p.slots (place_from (place_of slot))) p.free
  pub within : length p.free ≤ p.slots
  pub add_up : AddUp p.slots (length p.free) p.tallies

-- the slots are those of the drive, in the order of their numbers from 0
abbrev pub AreSlotsOf : {S : Type 0} → (S → RawPlace) → Drive → List S → Type 0
AreSlotsOf place_of drive slots =
    (k : ℕ) (default : _) → k < length slots → place_from (place_of (slice_index_or slots k default)) ≡ record { drive = drive; slot = k }
