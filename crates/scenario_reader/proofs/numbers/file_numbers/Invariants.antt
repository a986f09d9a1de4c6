use Rattle.std.proofs.Common.{◌≡◌, ℕ, List, drop}
use Rattle.std.specs.BTreeMap.{get_by_text}
use Rattle.operation_rules.specs.OpRules.{file_names}
use Rattle.scenario_reader.specs.Numbers.{or_else, place_of}
use Rattle.scenario_reader.proofs.numbers.file_numbers.Given as goal

-- the later names and those that are given are all
abbrev pub invariant-loop-file : goal.invariant-loop-file
invariant-loop-file l =
    (l.number ≡ l.file-index)
    × ((q : List ℕ) → or_else (place_of (file_names (drop l.file-index l.files)) l.number q) (get_by_text l.found.numbers q) ≡ place_of (file_names l.files) 0 q)
