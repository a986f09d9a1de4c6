use Rattle.std.proofs.Common.{◌++◌, ◌∷◌, ◌∙◌, arith, refl}
use Rattle.std.specs.Fmt.{decimal}
use Rattle.report.specs.Words.{places_text}
use Rattle.report_reader.proofs.Cuts.{decimal_lacks}
use Rattle.report_reader.proofs.WordsTold.{group_is, group_spelled}
use Rattle.report_reader.proofs.groups.group_of.Goals as goal

pub returns-clause-only : goal.returns-clause-only
returns-clause-only c = λ g fit is.
    let first = c.cut.ensures.at (decimal g.generation) (decimal g.n ++ 43 ∷ (decimal g.m ++ 64 ∷ places_text g.places)) (decimal_lacks 61 g.generation refl (omega (arith, fit.generation))) (is ∙ group_spelled g) in
    let second = c.cut-2.ensures.at (decimal g.n) (decimal g.m ++ 64 ∷ places_text g.places) (decimal_lacks 43 g.n refl (omega (arith, fit.n))) first.1 in
    let third = c.cut-3.ensures.at (decimal g.m) (places_text g.places) (decimal_lacks 64 g.m refl (omega (arith, fit.m))) second.1 in
    group_is c.u32_of.result c.u8_of.result c.u8_of-2.result c.from_vec.result g (c.u32_of.ensures g.generation fit.generation first.0) (c.u8_of.ensures g.n fit.n second.0)
    (c.u8_of-2.ensures g.m fit.m third.0) (c.from_vec.ensures ∙ c.in_ok-places.ensures.only g.places fit.places third.1)
