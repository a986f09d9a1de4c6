use Rattle.std.proofs.Common.{◌*◌, ◌∙◌, ℕ, ap}
use Rattle.write_rule.specs.NewBytes.{bytes_of, padded_slice}
use Rattle.write_rule.proofs.NewBytesByPlace.{slice_length}
use Rattle.write_units.proofs.JoinedUnits.{built, input_count}
use Rattle.write_units.proofs.built_units.group_units.Goals as goal

pub build-requires-clause-data : goal.build-requires-clause-data
build-requires-clause-data c = input_count c.args.unit c.args.n c.in_ok-part.part.items c.from_bytes-input.result c.from_bytes-input.ensures

pub returns-clause-units : goal.returns-clause-units
returns-clause-units c =
    built c.args.unit c.args.n c.args.m (padded_slice (bytes_of c.args.bytes.now) c.args.from (c.args.n * c.args.unit)) c.in_ok-part.part.items c.from_bytes-input.result
    c.build.result c.requires.size.some_data (slice_length (bytes_of c.args.bytes.now) c.args.from (c.args.n * c.args.unit))
    (c.in_ok-part.ensures.part ∙ ap (λ (k : ℕ). padded_slice (bytes_of c.args.bytes.now) c.args.from (k * c.args.unit)) c.from.ensures)
    c.from_bytes-input.ensures c.build.ensures.word c.build.ensures.data
