use Rattle.std.proofs.Common.{◌≡◌, ℕ, List, length, None}
use Rattle.std.specs.BTreeMap.{get_by_text}
use Rattle.std.specs.Prelude.{All}
use Rattle.operation_rules.specs.FirstPlaces.{first_where}
use Rattle.operation_rules.specs.OpRules.{is_outside}
use Rattle.scenario_reader.specs.Numbers.{place_of}
use Rattle.scenario_reader.specs.Resolved.{IsActor, scripts_in}
use Rattle.scenario_reader.proofs.ScriptLists.{joined}
use Rattle.scenario_reader.proofs.scripts.scripts_of.Given as goal

-- the scripts so far and the operations that are left make all scripts
abbrev pub invariant-loop-placed : goal.invariant-loop-placed
invariant-loop-placed l =
    (length l.scripts.items ≡ l.actors)
    × All (IsActor l.actors) l.placed-iterator.rest.items
    × (first_where (is_outside l.shape) l.placed-iterator.rest.items ≡ None)
    × ((names started : List (List ℕ)) → ((q : List ℕ) → get_by_text l.files.numbers q ≡ place_of names 0 q)
    → ((q : List ℕ) → get_by_text l.jobs.numbers q ≡ place_of started 1 q)
    → joined l.scripts.items (scripts_in names started l.placed-iterator.rest.items 1 l.actors) ≡ scripts_in names started l.fn.ops 1 l.actors)
