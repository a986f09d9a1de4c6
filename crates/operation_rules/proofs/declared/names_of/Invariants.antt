use Rattle.std.proofs.Common.{◌≡◌, ◌||◌, ℕ, List, drop}
use Rattle.std.specs.BTreeSet.{contains_text}
use Rattle.operation_rules.specs.OpRules.{has_name, file_names}
use Rattle.operation_rules.proofs.declared.names_of.Given as goal

abbrev pub invariant-loop-file : goal.invariant-loop-file
invariant-loop-file l = (q : List ℕ) → (has_name (file_names (drop l.file-index l.files)) q || contains_text l.names.names q) ≡ has_name (file_names l.files) q
