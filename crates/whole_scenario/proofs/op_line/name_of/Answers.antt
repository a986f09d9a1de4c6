use Rattle.std.proofs.Common.{◌∙◌, sym, arith}
use Rattle.whole_scenario.proofs.NameLists.{file_name-at, file_name_past}
use Rattle.whole_scenario.proofs.op_line.name_of.Goals as goal

pub returns-in-Some : goal.returns-in-Some
returns-in-Some c =
    rw c.from.ensures at (c.as_str.ensures.value ∙ sym (file_name-at c.args.files.now c.from.result c.in-Some.file.now (omega (arith, c.in-Some.ensures.lookup.3.0)) c.in-Some.ensures.lookup.1))

pub returns-in-None : goal.returns-in-None
returns-in-None c = rw c.from.ensures at (sym (file_name_past c.args.files.now c.from.result c.in-None.ensures.lookup.3))
