use Rattle.std.proofs.Common.{◌≡◌, ◌++◌}
use Rattle.first_form.specs.Wholes.{script_whole}
use Rattle.first_form.proofs.plain.plain_script.Given as goal

-- the operations so far and those that are left make the script
abbrev pub invariant-loop-op : goal.invariant-loop-op
invariant-loop-op l = script_whole l.plain ++ l.op-iterator.rest.items ≡ l.fn.script
