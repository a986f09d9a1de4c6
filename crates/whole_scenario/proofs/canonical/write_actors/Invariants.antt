use Rattle.std.proofs.Common.{◌≡◌, ◌++◌, drop, string_bytes}
use Rattle.operation_rules.specs.OpRules.{file_names}
use Rattle.whole_scenario.specs.Canonical.{all_actor_lines}
use Rattle.whole_scenario.proofs.canonical.write_actors.Given as goal

-- what is written and the lines to come
abbrev pub invariant-loop-script : goal.invariant-loop-script
invariant-loop-script l =
    string_bytes l.text ++ all_actor_lines (file_names l.files) l.jobs (drop l.script-index l.actors)
    ≡ string_bytes l.fn.text ++ all_actor_lines (file_names l.files) l.jobs l.actors
