-- Which words the program takes.
use Rattle.std.specs.Prelude.{codes, ◌≡◌, List, [], ◌∷◌, map, String, string_bytes}

-- the words are the one `run`
abbrev pub IsAccepted : {A : Type 0} → List (String A) → Type 0
IsAccepted words = map string_bytes words ≡ codes "run" ∷ []
