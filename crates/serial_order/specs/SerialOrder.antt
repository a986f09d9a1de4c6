-- The order in which the operations of several scripts are done on one thread. A script is told by its length.
use Rattle.std.specs.Prelude.{◌≡◌, ℕ, zero, suc, ◌+◌, ◌==◌, ◌≤◌, nat_lt, max, Bool, true, ◌&&◌, ◌||◌, if◌then◌else◌, List, [], ◌∷◌, ◌++◌}
use Rattle.std.specs.List.{AllByRecursion}
use Rattle.domains.specs.declared.by.By.{By}

-- who is due in the round of this number: each actor that has as many operations, where the first script is this actor's
abbrev pub round_of : List ℕ → ℕ → ℕ → List By
round_of [] actor call = []
round_of (n ∷ ns) actor call =
    if nat_lt n call then round_of ns (actor + 1) call else record { actor = actor; call = call } ∷ round_of ns (actor + 1) call

-- the operations of the first rounds, this many
abbrev pub rounds : ℕ → List ℕ → List By
rounds zero lengths = []
rounds (suc r) lengths = rounds r lengths ++ round_of lengths 1 (suc r)

-- the length of the longest script
abbrev pub longest : List ℕ → ℕ
longest [] = 0
longest (n ∷ ns) = max n (longest ns)

-- in each round every actor that has operations left does its next one, actor by actor, until none has any
abbrev pub serial_order : List ℕ → List By
serial_order lengths = rounds (longest lengths) lengths

-- how many operations the actor of this number has, where the first script is that of actor `first`
abbrev pub operations_from : List ℕ → ℕ → ℕ → ℕ
operations_from [] first actor = 0
operations_from (n ∷ ns) first actor = if first == actor then n else operations_from ns (first + 1) actor

-- how many operations the actor of this number has, from 1
abbrev pub operations_of : List ℕ → ℕ → ℕ
operations_of lengths actor = operations_from lengths 1 actor

-- the actor has an operation of this number, from 1
pub record IsOperation (lengths : List ℕ) (by : By) : Type 0 where
  pub some : 1 ≤ by.call
  pub within : by.call ≤ operations_of lengths by.actor

-- the operations of the actor among these, in their order
abbrev pub calls_of : ℕ → List By → List ℕ
calls_of actor [] = []
calls_of actor (b ∷ bs) = if b.actor == actor then b.call ∷ calls_of actor bs else calls_of actor bs

-- the numbers from 1 to this one
abbrev pub numbers_to : ℕ → List ℕ
numbers_to zero = []
numbers_to (suc n) = numbers_to n ++ suc n ∷ []

-- the operation comes before the other where actors take turns, each doing its next operation
abbrev pub is_earlier : By → By → Bool
is_earlier a b = nat_lt a.call b.call || ((a.call == b.call) && nat_lt a.actor b.actor)

-- each is earlier than all behind it
abbrev pub AreAscending : List By → Type 0
AreAscending [] = Unit {0}
AreAscending (b ∷ bs) = AllByRecursion (λ later. is_earlier b later ≡ true) bs × AreAscending bs
