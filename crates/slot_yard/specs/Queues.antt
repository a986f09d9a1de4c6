-- The slots that wait, in a queue for each drive.
use Rattle.std.specs.Prelude.{◌≡◌, ℕ, ◌*◌, ◌≤◌, List, [], ◌∷◌, ◌++◌, length, slice_index_or, slice_set}
use Rattle.std.specs.List.{All, flat_map, sum_by}
use Rattle.domains.specs.Drive.{Drive}
use Rattle.domains.specs.Place.{IsPlaceOf}
use Rattle.domains.specs.Shape.{Shape}
use Rattle.flex_io.specs.declared.raw_place.RawPlace.{RawPlace}
use Rattle.held_slots.specs.Slots.{drive_of, place_from}
use Rattle.slot_yard.specs.Tallies.{rank_of}

module _ {S : Type 0} where
  -- the queue of a drive, in the order of arrival
  abbrev pub queue_of : Drive → List (List S) → List S
  queue_of d queues = slice_index_or queues (rank_of d) []

  -- the queues, with this one for the drive
  abbrev pub with_queue : Drive → List S → List (List S) → List (List S)
  with_queue d queue queues = slice_set queues (rank_of d) queue

  -- how many slots wait in all queues
  abbrev pub waiting_in : List (List S) → ℕ
  waiting_in queues = sum_by (λ (queue : List S). length queue) queues

  -- the slots of all queues: drive by drive, in the order of their ranks, and of each drive in the order of arrival
  abbrev pub by_drive : List (List S) → List S
  by_drive queues = flat_map (λ (queue : List S). queue) queues

module _ {S : Type 0} (place_of : S → RawPlace) where
  -- the queues, with the slot behind all that wait for its drive
  abbrev pub with_slot : S → List (List S) → List (List S)
  with_slot slot queues = with_queue (drive_of place_of slot) (queue_of (drive_of place_of slot) queues ++ slot ∷ []) queues

  -- the slot is the first in the drive's old queue, and the new queues are the old ones without it
  pub record IsOldest (d : Drive) (slot : S) (old new : List (List S)) : Type 0 where
    pub rest : List S
    pub old_is : queue_of d old ≡ slot ∷ rest
    pub new_is : new ≡ with_queue d rest old
    pub on : drive_of place_of slot ≡ d

  -- a queue for each drive that the nodes have room for, with slots of that drive alone, and no more slots in all than the
  -- largest cluster has: 200 drives of 4,096
  pub record AreQueues (shape : Shape) (queues : List (List S)) : Type 0 where
    pub drives : length queues ≡ shape.nodes * 16
    pub own : (rank : ℕ) → All (λ slot. IsPlaceOf shape (place_from (place_of slot)) × (rank_of (drive_of place_of slot) ≡ rank)) (slice_index_or queues rank [])
    pub few : waiting_in queues ≤ 819200
