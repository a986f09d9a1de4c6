use Rattle.std.proofs.Common.{rules, refl}
use Rattle.write_rule.proofs.NewBytesByPlace.{stays_around}
use Rattle.write_rule.proofs.new_bytes.NewBytes.around.Goals as goal

pub returns-clause-stays : goal.returns-clause-stays
returns-clause-stays c old size first last =
    stays_around old c.args.payload.now c.args.first.bytes.now c.args.first.from c.args.to c.args.size c.args.offset c.saturating_sub-kept.result c.max-stop.result _
    size c.requires.low c.requires.first first (search rules) (search rules) (search rules) refl refl
    (c.after_payload.ensures.part old last (search (rules, size)))
