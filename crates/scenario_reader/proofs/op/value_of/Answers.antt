use Rattle.std.proofs.Common.{sym, arith}
use Rattle.scenario_reader.proofs.DigitValues.{fits_a_byte}
use Rattle.scenario_reader.proofs.op.value_of.Goals as goal

pub unreachable-requires : goal.unreachable-requires
unreachable-requires c =
    fits_a_byte c.args.number.now c.as_str.result.now c.args.most c.in-Err.field-0 (sym c.as_str.ensures.value) c.as_str.ensures.number c.in-Err.ensures.value.0
    (omega (arith, c.ranges.most.fits)) c.requires
