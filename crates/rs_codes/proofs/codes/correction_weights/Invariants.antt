use Rattle.std.proofs.Common.{◌≡◌, length}
use Rattle.rs_codes.specs.Codes.{AreFirst}
use Rattle.rs_codes.proofs.WeightRows.{AreRows}
use Rattle.rs_codes.proofs.codes.correction_weights.Given as goal

abbrev pub invariant-loop-correction : goal.invariant-loop-correction
invariant-loop-correction l = record {
  first : AreFirst l.n l.positions.items;
  count : length l.rows.units ≡ l.correction;
  rows : AreRows l.n l.positions.items l.rows;
}
