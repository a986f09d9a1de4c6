use Rattle.std.proofs.Common.{◌≡◌, ◌++◌, drop, string_bytes}
use Rattle.whole_scenario.specs.Canonical.{all_file_lines}
use Rattle.whole_scenario.proofs.canonical.write_files.Given as goal

-- what is written and the lines to come
abbrev pub invariant-loop-file : goal.invariant-loop-file
invariant-loop-file l = string_bytes l.text ++ all_file_lines (drop l.file-index l.files) ≡ string_bytes l.fn.text ++ all_file_lines l.files
