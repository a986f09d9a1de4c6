use Rattle.std.proofs.Common.{◌≡◌, ◌++◌, ◌∷◌, [], ◌∙◌, ap, refl, sym, rules, append_assoc}
use Rattle.std.specs.Fmt.{decimal}
use Rattle.report_reader.proofs.Cuts.{decimal_lacks, rest_is}
use Rattle.report_reader.proofs.count_line.read_number.Goals as goal

pub returns-in-Some-clause-only : goal.returns-in-Some-clause-only
returns-in-Some-clause-only c = λ n rest wide is.
    let line = c.cut.ensures.at (decimal n) rest (decimal_lacks 10 n refl wide) (is ∙ append_assoc (decimal n) (10 ∷ []) rest) in
    let same : c.u64_of-number.result ≡ n = c.u64_of-number.ensures n wide line.0 in
    (same, rest_is (decimal c.u64_of-number.result ++ 10 ∷ []) (decimal n ++ 10 ∷ []) c.in-Some.rest.now rest c.args.text.now (ap (λ k. decimal k ++ 10 ∷ []) same) (search rules) is)

pub returns-in-None-clause-only : goal.returns-in-None-clause-only
returns-in-None-clause-only c = λ n rest wide is.
    let line = c.cut.ensures.at (decimal n) rest (decimal_lacks 10 n refl wide) (is ∙ append_assoc (decimal n) (10 ∷ []) rest) in
    let same : c.u64_of-number.result ≡ n = c.u64_of-number.ensures n wide line.0 in
    let written : c.as_str.result.now ≡ decimal c.u64_of-number.result ++ 10 ∷ [] = search rules in
    absurd (c.in-None.ensures.only rest (is ∙ ap (λ t. t ++ rest) (ap (λ k. decimal k ++ 10 ∷ []) (sym same) ∙ sym written)))
