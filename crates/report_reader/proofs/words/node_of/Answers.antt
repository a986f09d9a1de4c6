use Rattle.std.proofs.Common.{◌∙◌, arith, refl}
use Rattle.report_reader.proofs.words.node_of.Goals as goal

pub returns-clause-only : goal.returns-clause-only
returns-clause-only c = λ n some most is.
    let number = c.u8_of.ensures n (omega (arith, most)) is in
    c.new.ensures ∙ c.within.ensures.same (omega (arith, number, some)) (omega (arith, number, most)) ∙ number
