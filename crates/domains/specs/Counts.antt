-- Counting what passes a test.
use Rattle.std.specs.Prelude.{ℕ, Bool, if◌then◌else◌}

-- 1 where it is so, else 0
abbrev pub one_if : Bool → ℕ
one_if b = if b then 1 else 0
