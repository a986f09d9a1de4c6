-- What stands at the places of a file's slots, and the laws of it.
use Rattle.std.specs.Prelude.{ℕ, if◌then◌else◌, List, [], ◌∷◌, ◌++◌, Option, None, Some}
use Rattle.std.specs.List.{flat_map}
use Rattle.flex_io.specs.declared.raw_place.RawPlace.{RawPlace}
use Rattle.board.specs.declared.board_view.View.{View}
use Rattle.domains.specs.Place.{Place, same_place}
use Rattle.held_slots.specs.Slots.{place_from}
use Rattle.file_history.specs.Laws.{LeavesEnough}
use Rattle.file_history.specs.Stored.{IsStored, IsDetermined}
use Rattle.striped_groups.specs.StoredGroups.{AllTell, GroupSlots, list_of}
use Rattle.file_core.specs.FileView.{FileView, IsFile, bytes_of, layout_of, now_of}

-- the bytes, none where nothing tells them
abbrev pub told_bytes : Option (List ℕ) → List ℕ
told_bytes None = []
told_bytes (Some bytes) = bytes

module _ {S : Type 0} where
  -- all slots of a file: those of its groups, and then the inode's
  abbrev pub slots_of : FileView S → List S
  slots_of f = flat_map (λ (g : GroupSlots S). g.slots) f.groups ++ flat_map (λ (g : GroupSlots S). g.slots) (list_of f.inode)

  module _ (place_of : S → RawPlace) (content : S → Option (List ℕ)) where
    -- what the first of the slots that stands at the place holds, where it tells
    abbrev pub content_at : List S → Place → Option (List ℕ)
    content_at [] s = None
    content_at (x ∷ xs) s = if same_place (place_from (place_of x)) s then content x else content_at xs s

    -- the bytes at a place of a file
    abbrev pub bytes_at : FileView S → Place → List ℕ
    bytes_at f s = told_bytes (content_at (slots_of f) s)

    module _ (len_of : S → ℕ) where
      -- the places of a file's slots hold the file
      abbrev pub PlacesHoldTheFile : Type 0
      PlacesHoldTheFile = (f : FileView S) → IsFile place_of content len_of f
          → IsStored (content_at (slots_of f)) f.shape.unit (layout_of f) (bytes_of f)

      -- where all slots tell, and as many units of each group are live as it has data units, and one of the inode, no other file has
      -- these live units
      abbrev pub LiveSlotsDetermine : Type 0
      LiveSlotsDetermine = (f : FileView S) (view : View) → IsFile place_of content len_of f → AllTell content
          → LeavesEnough (now_of f view) (layout_of f) → IsDetermined (now_of f view) (bytes_at f) (layout_of f) (bytes_of f)
