-- Parts of the bytes of a file.
use Rattle.std.specs.Prelude.{ℕ, ◌+◌, ◌-◌, ◌*◌, List, take, drop, min, max}
use Rattle.std.specs.List.{flat_map}
use Rattle.pulled_groups.specs.declared.pull_groups.PulledGroup.{PulledGroup}

-- the bytes from `low` on, up to `high`
abbrev pub segment : List ℕ → ℕ → ℕ → List ℕ
segment bytes low high = take (high - low) (drop low bytes)

-- the bytes from `start` on, up to `stop`, that the units of this length hold from the unit `first` on, up to the unit `end`
abbrev pub part_of_units : ℕ → ℕ → ℕ → List ℕ → ℕ → ℕ → List ℕ
part_of_units unit start stop bytes first end = segment bytes (max start (first * unit)) (min stop (end * unit))

-- those that the group holds
abbrev pub part_of_group : ℕ → ℕ → ℕ → List ℕ → PulledGroup → List ℕ
part_of_group unit start stop bytes p = part_of_units unit start stop bytes p.start (p.start + p.group.n)

-- those that the groups hold, one group after the other
abbrev pub parts_of : ℕ → ℕ → ℕ → List ℕ → List PulledGroup → List ℕ
parts_of unit start stop bytes groups = flat_map (part_of_group unit start stop bytes) groups
