use Rattle.std.proofs.Common.{◌≡◌, ◌++◌}
use Rattle.first_form.specs.Wholes.{scripts_whole}
use Rattle.first_form.proofs.plain.plain_scripts.Given as goal

-- the scripts so far and those that are left are all scripts
abbrev pub invariant-loop-script : goal.invariant-loop-script
invariant-loop-script l = scripts_whole l.plain ++ l.script-iterator.rest.items ≡ l.fn.scripts
