-- What contracts see of a yard.
use Rattle.std.specs.Prelude.{◌≡◌, ℕ, ◌+◌, ◌<◌, ◌≤◌, ◌*◌, true, List, [], ◌++◌, length, replicate, reverse}
use Rattle.std.specs.List.{All}
use Rattle.domains.specs.Shape.{Shape, IsShape, is_of}
use Rattle.domains.specs.Drive.{Drive}
use Rattle.domains.specs.Place.{IsPlaceOf}
use Rattle.flex_io.specs.declared.raw_place.RawPlace.{RawPlace}
use Rattle.held_slots.specs.Slots.{count_on, place_from}
use Rattle.slot_yard.specs.declared.counts.Counts.{Counts}
use Rattle.slot_yard.specs.declared.counts.Move.{Move}
use Rattle.slot_yard.specs.Queues.{AreQueues, queue_of, with_queue}
use Rattle.slot_yard.specs.Tallies.{AddUp, AreNew, count_all, count_one, with_counts, with_tally}

-- the shape of the cluster, the queues of the slots that wait, by the rank of their drive, the retired slots in the order of
-- arrival, the seats' tallies, the number of turns passed, and the seat whose turn it is
pub record YardView (S : Type 0) : Type 0 where
  pub shape : Shape
  pub waiting : List (List S)
  pub retired : List S
  pub tallies : List (List Counts)
  pub turns : ℕ
  pub seat : ℕ

module _ {S : Type 0} where
  -- the yard with these slots, once the seat whose turn it is has counted for the drive
  abbrev pub moved_by : (Counts → Counts) → Drive → List (List S) → List S → YardView S → YardView S
  moved_by counted d waiting retired y = record y { waiting = waiting; retired = retired; tallies = with_tally y.seat (with_counts d counted) y.tallies }

  -- the yard with these slots, once its seat moved a slot of the drive
  abbrev pub moved : Move → Drive → List (List S) → List S → YardView S → YardView S
  moved what d waiting retired y = moved_by (count_one what) d waiting retired y

  -- the yard once its seat retired the drive, of whose pool these slots were free: behind all that were retired stand the free
  -- ones from the top of their stack, and then the drive's queue
  abbrev pub without_drive : Drive → List S → YardView S → YardView S
  without_drive d free y =
      moved_by (count_all (length (queue_of d y.waiting)) (length free + length (queue_of d y.waiting))) d (with_queue d [] y.waiting)
      (y.retired ++ reverse free ++ queue_of d y.waiting) y

  -- a yard before its first turn, with no slot
  pub record IsNewYard (shape : Shape) (y : YardView S) : Type 0 where
    pub shape_is : y.shape ≡ shape
    pub waiting : y.waiting ≡ replicate (shape.nodes * 16) []
    pub retired : y.retired ≡ []
    pub tallies : AreNew shape.nodes y.tallies
    pub turns : y.turns ≡ 0
    pub seat : y.seat ≡ 0

-- what holds of every yard
pub record IsYard {S : Type 0} (place_of : S → RawPlace) (y : YardView S) : Type 0 where
  pub shape : IsShape y.shape
  pub seat : y.seat < 32
  pub seats : length y.tallies ≡ 32
  pub drives : All (λ tally. length tally ≡ y.shape.nodes * 16) y.tallies
  pub waiting : AreQueues place_of y.shape y.waiting
  pub retired : All (λ slot. IsPlaceOf y.shape (place_from (place_of slot))) y.retired
  pub few_retired : length y.retired ≤ 819200
  pub add_up : (d : Drive) → is_of y.shape d ≡ true → AddUp (length (queue_of d y.waiting)) (count_on place_of d y.retired) d y.tallies
