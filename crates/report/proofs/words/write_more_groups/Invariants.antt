use Rattle.std.proofs.Common.{◌≡◌, ◌++◌, drop, string_bytes}
use Rattle.report.specs.Words.{more_groups}
use Rattle.report.proofs.words.write_more_groups.Given as goal

-- what is written and what is to come
abbrev pub invariant-loop-group : goal.invariant-loop-group
invariant-loop-group l = string_bytes l.text ++ more_groups (drop l.group-index l.groups) ≡ string_bytes l.fn.text ++ more_groups l.groups
