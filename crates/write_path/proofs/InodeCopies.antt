-- Units that are copies of one text.
use Rattle.std.proofs.Common.{◌≡◌, ℕ, ◌+◌, List, [], ◌∷◌, ◌++◌, length, replicate}
use Rattle.std.proofs.lemmas.List.{replicate_more}

-- the units are n copies of the bytes
pub record AreCopies (n : ℕ) (bytes : List ℕ) (unit_length : ℕ) (units : List (List ℕ)) : Type 0 where
  pub unit : unit_length ≡ length bytes
  pub count : length units ≡ n
  pub units_are : units ≡ replicate n bytes

pub copies_more : (n : ℕ) (bytes : List ℕ) → replicate n bytes ++ bytes ∷ [] ≡ replicate (n + 1) bytes
copies_more n bytes = replicate_more n bytes
