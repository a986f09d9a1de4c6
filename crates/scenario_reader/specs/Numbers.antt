-- The numbers that names have.
use Rattle.std.specs.Prelude.{ℕ, ◌+◌, if◌then◌else◌, List, [], ◌∷◌, Option, Some, None}
use Rattle.std.specs.Option.{unwrap_or}
use Rattle.std.specs.Str.{bytes_eq}

-- the first of two that is one
abbrev pub or_else : Option ℕ → Option ℕ → Option ℕ
or_else (Some n) other = Some n
or_else None other = other

-- the number of the last of these names that is this one, where the first has this number
abbrev pub place_of : List (List ℕ) → ℕ → List ℕ → Option ℕ
place_of [] first name = None
place_of (n ∷ ns) first name = or_else (place_of ns (first + 1) name) (if bytes_eq n name then Some first else None)

-- the same, and 0 for a name that is none of these
abbrev pub number_of : List (List ℕ) → ℕ → List ℕ → ℕ
number_of names first name = unwrap_or (place_of names first name) 0
