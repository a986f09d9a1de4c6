use Rattle.std.proofs.Common.{◌≡◌, ◌+◌, ◌*◌, ◌≤◌, drop}
use Rattle.write_rule.specs.Runs.{begun_by}
use Rattle.write_rule.specs.WriteRuns.{units_up_to}
use Rattle.write_rule.proofs.run.begun_by.Given as goal

-- the groups so far have begun
abbrev pub invariant-loop-n : goal.invariant-loop-n
invariant-loop-n l = record {
  at : l.front.groups ≡ l.n-index;
  units : l.front.units ≡ units_up_to l.fn.widths l.front.groups;
  low : l.front.units ≤ 255 * l.front.groups;
  begun : begun_by l.fn.widths 0 l.unit ≡ l.front.groups + begun_by (drop l.front.groups l.fn.widths) l.front.units l.unit;
}
