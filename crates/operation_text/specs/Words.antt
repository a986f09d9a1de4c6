-- The words of an operation.
use Rattle.std.specs.Prelude.{◌≡◌, ℕ, ◌==◌, ◌≤◌, Bool, not, IsTrue, List, length, slice_index}
use Rattle.std.specs.Char.{is_ascii_digit}
use Rattle.std.specs.List.{list_all}
use Rattle.scenario.specs.Words.{is_name_byte}

-- the bytes are 1 to 32 that may stand in a name
pub record IsJobName (bytes : List ℕ) : Type 0 where
  pub some : 1 ≤ length bytes
  pub short : length bytes ≤ 32
  pub all : IsTrue (list_all is_name_byte bytes)

-- the bytes are digits, the first one no zero but where it is the only one
pub record IsNumberText (bytes : List ℕ) : Type 0 where
  pub some : 1 ≤ length bytes
  pub all : IsTrue (list_all is_ascii_digit bytes)
  pub lone : slice_index bytes 0 ≡ 48 → length bytes ≡ 1

-- the byte is not among these
abbrev pub lacks : ℕ → List ℕ → Bool
lacks mark bytes = list_all (λ b. not (b == mark)) bytes
