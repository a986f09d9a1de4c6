-- What a creation does.
use Rattle.std.specs.Prelude.{ℕ, List, [], Some}
use Rattle.flex_io.specs.declared.raw_place.RawPlace.{RawPlace}
use Rattle.domains.specs.Level.{Level}
use Rattle.domains.specs.declared.by.By.{By}
use Rattle.domains.specs.declared.group.Group.{Group}
use Rattle.board.specs.declared.board_view.View.{View}
use Rattle.held_slots.specs.Slots.{places_from}
use Rattle.inode_codec.specs.declared.inode.Inode.{Inode}
use Rattle.file_history.specs.Layout.{Layout}
use Rattle.file_history.specs.declared.entry.FileEvent.TheVariants.{Created}
use Rattle.file_core.specs.Notes.{noted}
use Rattle.file_core.specs.FileView.{FileView, layout_of, with_note}

-- the inode of a file without bytes
abbrev pub empty_inode : Level → ℕ → Inode
empty_inode level unit = record { level = level; unit = unit; size = 0; groups = [] }

module _ {S : Type 0} (place_of : S → RawPlace) where
  -- the group of an inode whose units stand on these slots
  abbrev pub inode_group : Layout → List S → Group
  inode_group l slots = record { generation = l.next; n = 1; m = l.requested.m; places = places_from place_of slots }

  -- the file, once it is created on these slots
  abbrev pub created_on : By → View → List S → FileView S → FileView S
  created_on by view slots f = record (with_note f (noted by view (Created (inode_group (layout_of f) slots)) [])) {
    inode = Some (record { group = inode_group (layout_of f) slots; slots = slots });
  }
