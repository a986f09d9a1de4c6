-- Where a group stands in a file's map, and which bytes are its.
use Rattle.std.specs.Prelude.{◌≡◌, ℕ, ◌+◌, ◌*◌, ◌⊎◌, List, [], ◌∷◌}
use Rattle.domains.specs.declared.group.Group.{Group}
use Rattle.write_rule.specs.NewBytes.{padded_slice}

-- the group is one of these, the first of which begins with the data unit `start`, and begins with the data unit `first`
abbrev pub StandsFrom : List Group → ℕ → Group → ℕ → Type 0
StandsFrom [] start g first = ⊥
StandsFrom (h ∷ hs) start g first = ((h ≡ g) × (start ≡ first)) ⊎ StandsFrom hs (start + h.n) g first

-- the group stands in the map, and begins with this data unit of the file, counted from 0
abbrev pub IsMapped : List Group → Group → ℕ → Type 0
IsMapped groups g first = StandsFrom groups 0 g first

-- the bytes of `n` data units from the unit `first` on, with zeros behind the file's last byte
abbrev pub bytes_of_units : ℕ → List ℕ → ℕ → ℕ → List ℕ
bytes_of_units unit bytes first n = padded_slice bytes (first * unit) (n * unit)
