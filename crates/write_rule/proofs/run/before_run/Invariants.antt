use Rattle.std.proofs.Common.{◌≡◌, ◌+◌, ◌*◌, ◌≤◌, length, drop}
use Rattle.file_history.specs.Live.{is_filled_up}
use Rattle.write_rule.specs.Runs.{first_from}
use Rattle.write_rule.specs.WriteRuns.{units_up_to}
use Rattle.write_rule.proofs.run.before_run.Given as goal

-- the groups so far stay, and the rest is left
abbrev pub invariant-loop-left : goal.invariant-loop-left
invariant-loop-left l = record {
  left : l.left ≡ drop l.front.groups l.fn.widths;
  units : l.front.units ≡ units_up_to l.fn.widths l.front.groups;
  few : l.front.groups ≤ length l.fn.widths;
  low : l.front.units ≤ 255 * l.front.groups;
  stays : first_from l.fn.widths 0 l.begin (is_filled_up l.write.unit l.write.size l.write.offset l.write.len l.write.width)
      ≡ l.front.groups + first_from l.left l.front.units l.begin (is_filled_up l.write.unit l.write.size l.write.offset l.write.len l.write.width);
}

abbrev pub decreases-loop-left : goal.decreases-loop-left
decreases-loop-left l = length l.left
