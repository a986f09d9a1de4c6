-- The slots that a file hands back, and where they go.
use Rattle.std.specs.Prelude.{◌≡◌, List, [], ◌∷◌}
use Rattle.std.specs.List.{flat_map}
use Rattle.board.specs.declared.board_view.View.{View}
use Rattle.domains.specs.Shape.{Shape}
use Rattle.flex_io.specs.declared.raw_place.RawPlace.{RawPlace}
use Rattle.held_slots.specs.Slots.{drive_of}
use Rattle.fabric.specs.Accounts.{Loses}
use Rattle.fabric.specs.HandTurns.{Releases}
use Rattle.fabric.specs.declared.hand.Hand.{Hand}
use Rattle.striped_groups.specs.StoredGroups.{GroupSlots}

-- the slots of the groups, by position
abbrev pub slots_in : {S : Type 0} → List (GroupSlots S) → List S
slots_in groups = flat_map (λ (g : GroupSlots _). g.slots) groups

module _ {S : Type 0} (place_of : S → RawPlace) where
  -- the slot went where the view sends it, and the hand holds one less of its drive
  pub record IsReleased (shape : Shape) (view : View) (held : S) (old new : Hand S) : Type 0 where
    pub went : Releases place_of shape view held old new
    pub less : Loses shape (drive_of place_of held) old new

  -- these slots were released, in this order, by one call each
  abbrev pub ReleasesEach : List S → Shape → View → Hand S → Hand S → Type 0
  ReleasesEach [] shape view old new = new ≡ old
  ReleasesEach (slot ∷ slots) shape view old new =
      (between : Hand S) × IsReleased shape view slot old between × ReleasesEach slots shape view between new
