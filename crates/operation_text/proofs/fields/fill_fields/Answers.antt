use Rattle.std.proofs.Common.{refl, rules, arith}
use Rattle.operation_text.proofs.DecimalTexts.{lacks-decimal}
use Rattle.operation_text.proofs.fields.fill_fields.Goals as goal

pub returns-in_err-front-clause-only : goal.returns-in_err-front-clause-only
returns-in_err-front-clause-only c = λ start len low some high is.
    let fields = c.in_ok-fields.ensures.only _ is in
    absurd (c.in_err-front.ensures.only _ _ (lacks-decimal 58 start refl (omega (arith, low))) fields)

pub returns-in_err-start-clause-only : goal.returns-in_err-start-clause-only
returns-in_err-start-clause-only c = λ start len low some high is.
    let fields = c.in_ok-fields.ensures.only _ is in
    let parts = c.in_ok-front.ensures.only _ _ (lacks-decimal 58 start refl (omega (arith, low))) fields in
    let found = c.in_err-start.ensures.only start (omega arith) low parts.0 in
    absurd cc

pub returns-in_err-len-clause-only : goal.returns-in_err-len-clause-only
returns-in_err-len-clause-only c = λ start len low some high is.
    let fields = c.in_ok-fields.ensures.only _ is in
    let parts = c.in_ok-front.ensures.only _ _ (lacks-decimal 58 start refl (omega (arith, low))) fields in
    let found = c.in_err-len.ensures.only len some high parts.1 in
    absurd cc

pub returns-clause-only : goal.returns-clause-only
returns-clause-only c = λ start len low some high is.
    let fields = c.in_ok-fields.ensures.only _ is in
    let parts = c.in_ok-front.ensures.only _ _ (lacks-decimal 58 start refl (omega (arith, low))) fields in
    let first = c.in_ok-start.ensures.only start (omega arith) low parts.0 in
    let second = c.in_ok-len.ensures.only len some high parts.1 in
    (search (rules, first), cc)
