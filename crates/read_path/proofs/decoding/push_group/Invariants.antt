use Rattle.std.proofs.Common.{◌≡◌, ℕ, ◌+◌, ◌≤◌, ◌++◌, List, length}
use Rattle.pulled_groups.specs.PullAnswers.{ShowsGroup}
use Rattle.read_path.specs.Segments.{part_of_units}
use Rattle.read_path.proofs.decoding.push_group.Given as goal

-- the data units before this one are appended
abbrev pub invariant-loop-i : goal.invariant-loop-i
invariant-loop-i l =
    (bytes : List ℕ) → l.range.stop ≤ length bytes → ShowsGroup l.unit bytes l.group
    → l.out.items ≡ l.initial.out.items ++ part_of_units l.unit l.range.start l.range.stop bytes l.group.start (l.group.start + l.i)
