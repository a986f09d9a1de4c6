-- The line that counts the entries of a block.
use Rattle.std.specs.Prelude.{ℕ, List, [], ◌∷◌, ◌++◌}
use Rattle.std.specs.Fmt.{decimal}

-- the number behind this head, in a line of its own
abbrev pub count_line : List ℕ → ℕ → List ℕ
count_line head n = head ++ (decimal n ++ 10 ∷ [])
