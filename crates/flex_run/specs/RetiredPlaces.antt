-- Which places the log of a file retires.
use Rattle.std.specs.Prelude.{Bool, ◌&&◌, not, List, [], ◌∷◌, ◌++◌, filter}
use Rattle.domains.specs.Place.{Place}
use Rattle.file_history.specs.World.{World}
use Rattle.file_history.specs.Layout.{Layout, empty_layout, layout_after_event, all_groups, places_of, is_taken}
use Rattle.file_history.specs.declared.entry.NotedEntry.{NotedEntry}

-- the places of this layout that the entry retires: their drives are lost at its epoch, and no unit stands there after it
abbrev pub retired_by : World → Layout → NotedEntry → List Place
retired_by world l t =
    let is_lost : Place → Bool = λ s. not (world.up t.entry.epoch s.drive) in
    let is_left : Place → Bool = λ s. not (is_taken (all_groups (layout_after_event world.level t.entry.event l)) s) in
    filter (λ (s : Place). is_lost s && is_left s) (places_of (all_groups l))

-- the places that these entries retire one after the other, from this layout on
abbrev pub retired_from : List NotedEntry → World → Layout → List Place
retired_from [] world l = []
retired_from (t ∷ ts) world l = retired_by world l t ++ retired_from ts world (layout_after_event world.level t.entry.event l)

-- the places that left the file's layout by an entry at whose epoch their drives were lost, entry by entry
abbrev pub retired_places : World → List NotedEntry → List Place
retired_places world log = retired_from log world (empty_layout world.level)
