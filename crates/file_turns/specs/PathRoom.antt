-- The room that a path needs in a file's log.
use Rattle.std.specs.Prelude.{ℕ, ◌+◌, length}
use Rattle.file_history.specs.Layout.{all_groups, places_of}
use Rattle.file_core.specs.FileView.{FileView, layout_of}

module _ {S : Type 0} where
  -- how many entries a path may append: one for each unit that the file holds, which may fail, and four
  abbrev pub entries_of_path : FileView S → ℕ
  entries_of_path f = length (places_of (all_groups (layout_of f))) + 4

  -- the file with memory for n more entries
  abbrev pub with_room : ℕ → FileView S → FileView S
  with_room n f = record f { spare = n }
