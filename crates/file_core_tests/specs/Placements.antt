-- A created file of the tests, and where its inode goes.
use Rattle.std.specs.Prelude.{[], ◌∷◌}
use Rattle.flex_io.specs.declared.raw_place.RawPlace.{RawPlace}
use Rattle.domains.specs.Level.{two_copies}
use Rattle.domains.specs.declared.group.Group.{Group}
use Rattle.held_slots.specs.Slots.{place_from}
use Rattle.file_history.specs.Layout.{Layout, empty_layout, layout_after_event}
use Rattle.file_history.specs.declared.entry.FileEvent.TheVariants.{Created}
use Rattle.file_core.specs.Examples.{first, second}

-- another slot of each drive
abbrev pub third : RawPlace
third = record { node = 1; drive = 1; slot = 1 }

abbrev pub fourth : RawPlace
fourth = record { node = 2; drive = 1; slot = 2 }

-- the inode's group, and the one that takes its place
abbrev pub here : Group
here = record { generation = 0; n = 1; m = 1; places = place_from first ∷ place_from second ∷ [] }

abbrev pub elsewhere : Group
elsewhere = record { generation = 0; n = 1; m = 1; places = place_from third ∷ place_from fourth ∷ [] }

-- what the file is once it is created
abbrev pub created : Layout
created = layout_after_event two_copies (Created here) (empty_layout two_copies)
