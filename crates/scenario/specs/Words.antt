-- The bytes of names and of payloads.
use Rattle.std.specs.Prelude.{ℕ, ◌==◌, ◌≤◌, nat_le, Bool, ◌&&◌, ◌||◌, not, IsTrue, List, length}
use Rattle.std.specs.List.{list_all}

abbrev is_between : ℕ → ℕ → ℕ → Bool
is_between low high byte = nat_le low byte && nat_le byte high

-- a letter, a digit, a dot, an underscore or a dash
abbrev pub is_name_byte : ℕ → Bool
is_name_byte b = ((is_between 65 90 b || is_between 97 122 b) || is_between 48 57 b) || ((b == 46 || b == 95) || b == 45)

-- the bytes are 1 to 64 that may stand in a name
pub record IsName (bytes : List ℕ) : Type 0 where
  pub some : 1 ≤ length bytes
  pub short : length bytes ≤ 64
  pub all : IsTrue (list_all is_name_byte bytes)

-- a character from a space to a tilde, but for the double quote and the backslash
abbrev pub is_text_byte : ℕ → Bool
is_text_byte b = is_between 32 126 b && (not (b == 34) && not (b == 92))

-- the bytes are 1 to 1,048,576 that may stand in an operation
pub record IsText (bytes : List ℕ) : Type 0 where
  pub some : 1 ≤ length bytes
  pub short : length bytes ≤ 1048576
  pub all : IsTrue (list_all is_text_byte bytes)
