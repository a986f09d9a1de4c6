use Rattle.std.proofs.Common.{◌≡◌, Some, None, refl}
use Rattle.std.proofs.lemmas.Str.Pattern.{split_after, split_parts}
use Rattle.report_reader.proofs.Cuts.{lacks_at, not_both}
use Rattle.report_reader.proofs.words.cut.Goals as goal

pub returns-in-Some-clause-at : goal.returns-in-Some-clause-at
returns-in-Some-clause-at c = λ xs ys clean is.
    split_after c.args.mark c.args.text.now xs ys (Some c.in-Some.parts) c.in-Some.ensures.cases c.requires is (lacks_at c.args.mark xs clean)

pub returns-in-Some-clause-none : goal.returns-in-Some-clause-none
returns-in-Some-clause-none c = λ clean.
    let parts = split_parts c.args.mark c.args.text.now (Some c.in-Some.parts) c.in-Some.ensures.cases c.requires in
    absurd (not_both c.args.mark c.args.text.now c.in-Some.parts.0.now c.in-Some.parts.1.now parts.0 clean)

pub returns-in-None-clause-at : goal.returns-in-None-clause-at
returns-in-None-clause-at c = λ xs ys clean is.
    absurd (split_after c.args.mark c.args.text.now xs ys None c.in-None.ensures.cases c.requires is (lacks_at c.args.mark xs clean))
