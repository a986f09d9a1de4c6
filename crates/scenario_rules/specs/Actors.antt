-- The rule of the actors.
use Rattle.std.specs.Prelude.{ℕ, ◌+◌, nat_le, ◌&&◌, if◌then◌else◌, List, [], ◌∷◌, length, Option, Some, None}
use Rattle.operation_rules.specs.declared.place.Place.{Place}

abbrev pub at : ℕ → ℕ → Place
at actor number = record { actor = actor; op = number }

-- the place of what no operation breaks
abbrev pub no_place : Place
no_place = at 0 0

-- the first actor with more than 4,096 operations, where the first of these has this number
abbrev pub first_long : List (List (List ℕ)) → ℕ → Option Place
first_long [] actor = None
first_long (ops ∷ more) actor = if nat_le 4097 (length ops) then Some (at actor 4097) else first_long more (actor + 1)

-- where the rule of the actors is broken: their number is not 1 to 16, or one has more than 4,096 operations
abbrev pub broken_actors : List (List (List ℕ)) → Option Place
broken_actors actors = if nat_le 1 (length actors) && nat_le (length actors) 16 then first_long actors 1 else Some no_place
