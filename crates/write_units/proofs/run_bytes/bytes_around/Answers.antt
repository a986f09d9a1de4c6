use Rattle.std.proofs.Common.{ℕ, ◌+◌, ◌-◌, ◌*◌, length, ap, ◌∙◌}
use Rattle.write_units.specs.GroupUnits.{spans_of}
use Rattle.write_units.specs.Spans.{units_up_to}
use Rattle.write_units.proofs.RunBytes.{last_covers, stays_at}
use Rattle.write_units.proofs.run_bytes.bytes_around.Goals as goal

pub around-requires-clause-last : goal.around-requires-clause-last
around-requires-clause-last c =
    last_covers c.args.unit c.args.size c.args.offset (length c.args.payload.now) c.bytes_up_to-last.result.from (length c.bytes_up_to-last.result.bytes.now) _
    c.args.run.now (spans_of c.args.old.now) c.requires.holds c.requires.covers
    (c.bytes_up_to-last.ensures.length ∙ ap (λ (n : ℕ). units_up_to (spans_of c.args.old.now) (c.args.run.now.start + c.args.run.now.units) * n) c.from-unit.ensures)
    (λ more. c.bytes_up_to-last.ensures.from more
    ∙ ap (λ (n : ℕ). (c.args.run.now.start + c.args.run.now.units - units_up_to (spans_of c.args.old.now) (c.args.run.now.start + c.args.run.now.units)) * n) c.from-unit.ensures)
    c.bytes_up_to-last.ensures.none (ap (λ (n : ℕ). (c.args.run.now.start + c.args.run.now.new_units) * n) c.from-unit.ensures)

pub returns-clause-stays : goal.returns-clause-stays
returns-clause-stays c = λ bytes size is.
    stays_at bytes c.bytes_from-first.result.from (c.args.run.now.start * c.args.unit) _ ((c.args.run.now.start + c.args.run.now.new_units) * c.args.unit) c.args.offset (length c.args.payload.now) c.around.result
    (c.bytes_from-first.ensures.from ∙ ap (λ (n : ℕ). c.args.run.now.start * n) c.from-unit.ensures)
    (ap (λ (n : ℕ). (c.args.run.now.start + c.args.run.now.new_units) * n) c.from-unit.ensures)
    (c.around.ensures.stays bytes size (c.bytes_from-first.ensures.part bytes is) (c.bytes_up_to-last.ensures.part bytes is))
