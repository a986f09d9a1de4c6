-- The end of files: their logs, and their slots, which go back to the rack.
use Rattle.std.specs.Prelude.{◌≡◌, ℕ, List, map, Option, Result}
use Rattle.std.specs.List.{flat_map}
use Rattle.flex_io.specs.declared.fault.Fault.{Fault}
use Rattle.flex_io.specs.declared.raw_place.RawPlace.{RawPlace}
use Rattle.file_history.specs.declared.entry.FileEntry.{FileEntry}
use Rattle.file_history.specs.Layout.{group_list, places_of}
use Rattle.held_slots.specs.Slots.{places_from}
use Rattle.file_core.specs.FileView.{FileView, IsFile, layout_of}
use Rattle.striped_groups.specs.StoredGroups.{GroupSlots, list_of}
use Rattle.file_core.specs.StoredPlaces.{slots_of}
use Rattle.returned_slots.specs.RackStates.{RackState}
use Rattle.returned_slots.specs.Returns.{Returns}
use Rattle.file_cells.specs.OpenFiles.{entries_of, state_of}
use Rattle.file_cells.specs.declared.open_file.OpenFile.{OpenFile}

module _ {S : Type 0} where
  -- the slots of groups, by position
  abbrev pub slots_in : List (GroupSlots S) → List S
  slots_in groups = flat_map (λ (g : GroupSlots S). g.slots) groups

  -- all slots of the files, file by file: those of its groups in map order, and then the inode's
  abbrev pub slots_of_files : List (OpenFile S) → List S
  slots_of_files files = flat_map (λ (f : OpenFile S). slots_of (state_of f)) files

  -- the logs of the files
  abbrev pub logs_of_files : List (OpenFile S) → List (List FileEntry)
  logs_of_files files = map (λ (f : OpenFile S). entries_of (state_of f)) files

module _ {S : Type 0} (place_of : S → RawPlace) (content : S → Option (List ℕ)) where
  -- the logs are those of the files, whose slots went back
  pub record EndsFiles {T : Type 0} (files : List (OpenFile S)) (logs : List (List FileEntry)) (result : Result T Fault) (before now : RackState) : Type 0 where
    pub logs_are : logs ≡ logs_of_files files
    pub returns : Returns place_of content (slots_of_files files) result before now

module _ {S : Type 0} (place_of : S → RawPlace) (content : S → Option (List ℕ)) (len_of : S → ℕ) where
  -- the slots of a file stand at the places of its layout: those of its groups in map order, and the inode's
  abbrev pub SlotsStand : Type 0
  SlotsStand = (f : FileView S) → IsFile place_of content len_of f
      → (places_from place_of (slots_in f.groups) ≡ places_of (layout_of f).groups)
      × (places_from place_of (slots_in (list_of f.inode)) ≡ places_of (group_list (layout_of f).inode))
