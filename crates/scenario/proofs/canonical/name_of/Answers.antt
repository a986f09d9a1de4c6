use Rattle.std.proofs.Common.{◌∙◌, sym, arith}
use Rattle.scenario.proofs.Names.{name_of-at, name_of_past}
use Rattle.scenario.proofs.canonical.name_of.Goals as goal

pub returns-in-Some : goal.returns-in-Some
returns-in-Some c =
    rw c.from.ensures at (c.as_str.ensures.value ∙ sym (name_of-at c.args.files.now c.from.result c.in-Some.file.now (omega (arith, c.in-Some.ensures.lookup.3.0)) c.in-Some.ensures.lookup.1))

pub returns-in-None : goal.returns-in-None
returns-in-None c = rw c.from.ensures at (sym (name_of_past c.args.files.now c.from.result c.in-None.ensures.lookup.3))
