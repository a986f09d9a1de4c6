use Rattle.std.proofs.Common.{◌≡◌, take}
use Rattle.file_history.specs.WriteRule.{generations_of}
use Rattle.file_core.specs.FileView.{layout_of}
use Rattle.write_rule.specs.Runs.{widths_of}
use Rattle.write_plans.proofs.map_heads.map_heads.Given as goal

-- the first groups are told
abbrev pub invariant-loop-position : goal.invariant-loop-position
invariant-loop-position g l = record {
  generations : l.heads.generations.items ≡ generations_of (take l.position (layout_of l.fn.file).groups);
  widths : l.heads.widths.items ≡ widths_of (take l.position (layout_of l.fn.file).groups);
}
