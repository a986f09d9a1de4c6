-- The words of a report's lines.
use Rattle.std.specs.Prelude.{codes, ℕ, List, [], ◌∷◌, ◌++◌}
use Rattle.std.specs.Fmt.{decimal}
use Rattle.hex.specs.Hex.{encode_lower}
use Rattle.domains.specs.Drive.{Drive}
use Rattle.domains.specs.Place.{Place}
use Rattle.domains.specs.declared.by.By.{By}
use Rattle.domains.specs.declared.group.Group.{Group}
use Rattle.scenario.specs.Ops.{drive_text}

abbrev pub line_feed : List ℕ
line_feed = 10 ∷ []

-- who made an entry: the actor and its operation, parted by a dot
unfoldable pub by_text : By → List ℕ
by_text by = decimal by.actor ++ codes "." ++ decimal by.call

-- a place: its drive and its slot, parted by a colon
unfoldable pub place_text : Place → List ℕ
place_text s = drive_text s.drive ++ codes ":" ++ decimal s.slot

-- the places behind the first, each after a comma
abbrev pub more_places : List Place → List ℕ
more_places [] = []
more_places (s ∷ ss) = codes "," ++ place_text s ++ more_places ss

-- places parted by commas, or a dash
abbrev pub places_text : List Place → List ℕ
places_text [] = codes "-"
places_text (s ∷ ss) = place_text s ++ more_places ss

abbrev pub more_drives : List Drive → List ℕ
more_drives [] = []
more_drives (d ∷ ds) = codes "," ++ drive_text d ++ more_drives ds

-- drives parted by commas, or a dash
abbrev pub drives_text : List Drive → List ℕ
drives_text [] = codes "-"
drives_text (d ∷ ds) = drive_text d ++ more_drives ds

abbrev pub more_numbers : List ℕ → List ℕ
more_numbers [] = []
more_numbers (n ∷ ns) = codes "," ++ decimal n ++ more_numbers ns

-- numbers parted by commas, or a dash
abbrev pub numbers_text : List ℕ → List ℕ
numbers_text [] = codes "-"
numbers_text (n ∷ ns) = decimal n ++ more_numbers ns

-- a group: its generation, its data and correction units, and its places
unfoldable pub group_text : Group → List ℕ
group_text g = decimal g.generation ++ codes "=" ++ decimal g.n ++ codes "+" ++ decimal g.m ++ codes "@" ++ places_text g.places

abbrev pub more_groups : List Group → List ℕ
more_groups [] = []
more_groups (g ∷ gs) = codes " " ++ group_text g ++ more_groups gs

-- groups parted by spaces, or a dash
abbrev pub groups_text : List Group → List ℕ
groups_text [] = codes "-"
groups_text (g ∷ gs) = group_text g ++ more_groups gs

-- bytes in hexadecimal, or a dash
abbrev pub bytes_text : List ℕ → List ℕ
bytes_text [] = codes "-"
bytes_text (b ∷ bs) = encode_lower (b ∷ bs)
