-- The groups of a run and an inode on new slots.
use Rattle.std.specs.Prelude.{◌≡◌, ℕ, ◌+◌, ◌*◌, ◌<◌, true, ◌⊎◌, List, [], ◌∷◌, length, Option, slice_index_or}
use Rattle.std.specs.List.{flat_map}
use Rattle.board.specs.declared.board_view.View.{View}
use Rattle.domains.specs.Drive.{AreApart, Drive, is_in}
use Rattle.domains.specs.DriveSet.{has}
use Rattle.domains.specs.Shape.{Shape, is_of}
use Rattle.flex_io.specs.declared.raw_place.RawPlace.{RawPlace}
use Rattle.held_slots.specs.Slots.{count_on, places_from}
use Rattle.fabric.specs.Accounts.{Holds, Stays}
use Rattle.fabric.specs.HandTurns.{AtYard}
use Rattle.fabric.specs.YardTurns.{Retires}
use Rattle.fabric.specs.declared.hand.Hand.{Hand}
use Rattle.placement_order.specs.Order.{DrawRequest}
use Rattle.placement.specs.Draws.{Draws, FindsNoRoom}
use Rattle.placement.specs.PlacedGroups.{FindsNoPlace, Places}
use Rattle.placement.specs.declared.refusal.NoRoom.{NoRoom}
use Rattle.slot_search.specs.HandSeats.{AreOfCluster, drives_of_all}
use Rattle.striped_groups.specs.StoredGroups.{GroupSlots}
use Rattle.turn_cell.specs.Seats.{seat_view}
use Rattle.write_rule.specs.NewBytes.{padded_slice}
use Rattle.write_units.specs.GroupUnits.{AreUnitsFor}
use Rattle.placed_runs.specs.declared.terms.RunTerms.{RunTerms}
use Rattle.placed_runs.specs.Terms.{IsAskedFor}

-- the slots of the groups, group by group
abbrev pub slots_of_groups : {S : Type 0} → List (GroupSlots S) → List S
slots_of_groups groups = flat_map (λ (g : GroupSlots _). g.slots) groups

-- there is a slot at this position, and it has failed
pub record HasFailed {S : Type 0} (faults : S → ℕ) (position : ℕ) (slots : List S) : Type 0 where
  pub within : position < length slots
  pub faulty : (default : S) → 0 < faults (slice_index_or slots position default)

module _ {S : Type 0} (place_of : S → RawPlace) where
  -- a new group of n data and m correction units stands on its slots, and no file holds it yet
  abbrev pub IsFreshGroup : ℕ → ℕ → GroupSlots S → Type 0
  IsFreshGroup n m g = g.group ≡ record { generation = 0; n = n; m = m; places = places_from place_of g.slots }

  -- the slots may go back to their pools: they are of the cluster, on different drives, which are up
  pub record MayGoBack (shape : Shape) (view : View) (slots : List S) : Type 0 where
    pub places : AreOfCluster place_of shape slots
    pub apart : AreApart (drives_of_all place_of slots)
    pub up : (d : Drive) → is_in (drives_of_all place_of slots) d ≡ true → has view.up d ≡ true

  -- the hand holds less by these slots
  pub record HoldsLess (shape : Shape) (slots : List S) (old new : Hand S) : Type 0 where
    pub each : (d : Drive) (many : ℕ) → is_of shape d ≡ true → Holds shape d (many + count_on place_of d slots) old → Holds shape d many new

  -- the hand retired the slot at this position, and its seat at the yard made no further turn
  pub record RetiresOne (shape : Shape) (position : ℕ) (slots : List S) (old new : Hand S) : Type 0 where
    pub between : Hand S
    pub retired : (default : S) → AtYard shape (Retires place_of (slice_index_or slots position default)) old between
    pub yard : seat_view new.yard ≡ seat_view between.yard

  -- the group's slots may go back
  abbrev pub MayGroupGoBack : Shape → View → GroupSlots S → Type 0
  MayGroupGoBack shape view g = MayGoBack shape view g.slots

  -- the slots of an inode were drawn
  pub record DrawsInode (t : RunTerms) (shape : Shape) (spin : ℕ) (inode : GroupSlots S) (old new : Hand S) : Type 0 where
    pub request : DrawRequest
    pub asks : IsAskedFor t shape spin request
    pub drawn : Draws place_of request (t.level.m + 1) inode.slots old new
    pub group : IsFreshGroup 1 t.level.m inode

  -- too few drives have a slot for an inode
  pub record FindsNoInode (t : RunTerms) (shape : Shape) (spin : ℕ) (told : NoRoom) (old new : Hand S) : Type 0 where
    pub request : DrawRequest
    pub asks : IsAskedFor t shape spin request
    pub found : FindsNoRoom place_of request (t.level.m + 1) told old new

module _ {S : Type 0} (place_of : S → RawPlace) (content : S → Option (List ℕ)) (len_of faults : S → ℕ) where
  -- a group of n data units was placed, whose data are these bytes
  pub record PlacesGroup (t : RunTerms) (shape : Shape) (spin n : ℕ) (data_bytes : List ℕ) (g : GroupSlots S) (old new : Hand S) : Type 0 where
    pub request : DrawRequest
    pub asks : IsAskedFor t shape spin request
    pub units : List (List ℕ)
    pub coded : AreUnitsFor t.unit n t.level.m data_bytes units
    pub placed : Places place_of content len_of faults request units g.slots old new
    pub group : IsFreshGroup place_of n t.level.m g

  -- too few drives have a slot for a group of n data units that can be written
  pub record FindsNoGroup (t : RunTerms) (shape : Shape) (spin n : ℕ) (data_bytes : List ℕ) (told : NoRoom) (old new : Hand S) : Type 0 where
    pub request : DrawRequest
    pub asks : IsAskedFor t shape spin request
    pub units : List (List ℕ)
    pub coded : AreUnitsFor t.unit n t.level.m data_bytes units
    pub found : FindsNoPlace place_of content len_of faults request units told old new

  -- the groups were placed one after the other, with these numbers of data units, from a place of the bytes on, and then the inode's slots
  -- were drawn; the spin is one more each time
  abbrev pub PlacesRun : RunTerms → Shape → ℕ → List ℕ → ℕ → List ℕ → List (GroupSlots S) → GroupSlots S → Hand S → Hand S → Type 0
  PlacesRun t shape spin bytes from [] [] inode old new = DrawsInode place_of t shape spin inode old new
  PlacesRun t shape spin bytes from [] (g ∷ gs) inode old new = ⊥
  PlacesRun t shape spin bytes from (n ∷ ns) [] inode old new = ⊥
  PlacesRun t shape spin bytes from (n ∷ ns) (g ∷ gs) inode old new =
      (between : Hand S) × PlacesGroup t shape spin n (padded_slice bytes from (n * t.unit)) g old between
      × PlacesRun t shape (spin + 1) bytes (from + n * t.unit) ns gs inode between new

  -- one of the groups, or the inode, found too few slots once those before it were placed
  abbrev pub MeetsNoRoom : RunTerms → Shape → ℕ → List ℕ → ℕ → List ℕ → NoRoom → Hand S → Hand S → Type 0
  MeetsNoRoom t shape spin bytes from [] told old new = FindsNoInode place_of t shape spin told old new
  MeetsNoRoom t shape spin bytes from (n ∷ ns) told old new =
      FindsNoGroup t shape spin n (padded_slice bytes from (n * t.unit)) told old new
      ⊎ ((g : GroupSlots S) × (between : Hand S) × PlacesGroup t shape spin n (padded_slice bytes from (n * t.unit)) g old between
      × MeetsNoRoom t shape (spin + 1) bytes (from + n * t.unit) ns told between new)

  -- the run finds no room, and the slots that were drawn went back: the hand holds what it held
  pub record FindsNoRun (t : RunTerms) (shape : Shape) (spin : ℕ) (bytes : List ℕ) (from : ℕ) (chunks : List ℕ) (told : NoRoom) (old new : Hand S) : Type 0 where
    pub done : Hand S
    pub met : MeetsNoRoom t shape spin bytes from chunks told old done
    pub same : Stays shape old new
