use Rattle.std.proofs.Common.{refl, arith}
use Rattle.operation_text.proofs.DecimalTexts.{lacks-decimal}
use Rattle.operation_text.proofs.numbers.offset_before.Goals as goal

pub returns-in_err-front-clause-only : goal.returns-in_err-front-clause-only
returns-in_err-front-clause-only c = λ n rest low is.
    absurd (c.in_err-front.ensures.only _ rest (lacks-decimal 32 n refl (omega (arith, low))) is)

pub returns-in_err-offset-clause-only : goal.returns-in_err-offset-clause-only
returns-in_err-offset-clause-only c = λ n rest low is.
    let parts = c.in_ok-front.ensures.only _ rest (lacks-decimal 32 n refl (omega (arith, low))) is in
    let found = c.in_err-offset.ensures.only n (omega arith) low parts.0 in
    absurd cc

pub returns-clause-only : goal.returns-clause-only
returns-clause-only c = λ n rest low is.
    let parts = c.in_ok-front.ensures.only _ rest (lacks-decimal 32 n refl (omega (arith, low))) is in
    let found = c.in_ok-offset.ensures.only n (omega arith) low parts.0 in
    (cc, parts.1)
