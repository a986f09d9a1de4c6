use Rattle.std.proofs.Common.{sym, arith}
use Rattle.operation_rules.proofs.DigitValues.{too_long}
use Rattle.operation_rules.proofs.outside.is_up_to.Goals as goal

pub returns-in-Err : goal.returns-in-Err
returns-in-Err c =
    too_long c.args.number.now c.as_str.result.now c.args.most c.in-Err.field-0 (sym c.as_str.ensures.value) c.as_str.ensures.number c.in-Err.ensures.value.0 (omega (arith, c.ranges.most.fits))
