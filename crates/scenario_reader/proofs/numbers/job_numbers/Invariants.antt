use Rattle.std.proofs.Common.{◌≡◌, ℕ, ◌+◌, List, drop}
use Rattle.std.specs.BTreeMap.{get_by_text}
use Rattle.scenario_reader.specs.Numbers.{or_else, place_of}
use Rattle.scenario_reader.proofs.numbers.job_numbers.Given as goal

-- the later names and those that are given are all
abbrev pub invariant-loop-job : goal.invariant-loop-job
invariant-loop-job l =
    (l.number ≡ l.job-index + 1)
    × ((q : List ℕ) → or_else (place_of (drop l.job-index l.jobs) l.number q) (get_by_text l.found.numbers q) ≡ place_of l.jobs 1 q)
