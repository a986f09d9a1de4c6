use Rattle.std.proofs.Common.{◌∙◌, ◌*◌, ℕ, length, ap, sym}
use Rattle.write_rule.specs.NewBytes.{padded_slice}
use Rattle.write_units.proofs.ShownData.{buffer_part}
use Rattle.write_units.proofs.old_data.OldGroup.bytes.Goals as goal

pub returns-clause-part : goal.returns-clause-part
returns-clause-part c = λ bytes is.
    buffer_part bytes c.bytes.result.now c.args.self.now.units.units (length c.args.self.now.units.units) c.args.self.now.units.unit_length
    (c.args.self.now.start * c.args.self.now.units.unit_length) c.bytes.ensures.length c.bytes.ensures.units is
    ∙ ap (λ (k : ℕ). padded_slice bytes (c.args.self.now.start * k) (length c.bytes.result.now)) (sym c.unit_length.ensures)
