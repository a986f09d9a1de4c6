-- The place of the first operation that breaks a rule.
use Rattle.std.specs.Prelude.{ℕ, ◌+◌, nat_le, Bool, if◌then◌else◌, List, [], ◌∷◌, ◌++◌, length, Option, Some, None}
use Rattle.operation_text.specs.declared.named_op.NamedOp.{NamedOp}
use Rattle.operation_rules.specs.declared.place.Place.{Place}
use Rattle.operation_rules.specs.declared.place.PlacedOp.{PlacedOp}
use Rattle.operation_rules.specs.OpRules.{starts, is_misnamed, bytes_read, bytes_written, is_past}

-- the first operation of which this is true
abbrev pub first_where : (NamedOp → Bool) → List PlacedOp → Option Place
first_where breaks [] = None
first_where breaks (x ∷ xs) = if breaks x.what then Some x.place else first_where breaks xs

-- the first operation that names a job wrongly, where these are all that are started, and these were started before
abbrev pub first_misnamed : List PlacedOp → List (List ℕ) → List (List ℕ) → Option Place
first_misnamed [] all before = None
first_misnamed (x ∷ xs) all before = if is_misnamed x.what all before then Some x.place else first_misnamed xs all (starts x.what ++ before)

-- the first operation by which there are more than 64 starts, if there were `count` before
abbrev pub first_start_past : List PlacedOp → ℕ → Option Place
first_start_past [] count = None
first_start_past (x ∷ xs) count =
    if nat_le 65 (count + length (starts x.what)) then Some x.place else first_start_past xs (count + length (starts x.what))

-- the first operation by which more bytes were read or written than may be, after these numbers
abbrev pub first_past : List PlacedOp → ℕ → ℕ → Option Place
first_past [] reads writes = None
first_past (x ∷ xs) reads writes =
    if is_past (reads + bytes_read x.what) (writes + bytes_written x.what) then Some x.place
    else first_past xs (reads + bytes_read x.what) (writes + bytes_written x.what)
