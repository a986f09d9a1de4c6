use Rattle.write_units.proofs.ShownData.{shown_data}
use Rattle.write_units.proofs.old_data.old_group.Goals as goal

pub returns-clause-shown : goal.returns-clause-shown
returns-clause-shown c = λ bytes shows.
    shown_data bytes c.args.pulled.now c.in_ok-units.units.units c.in_ok-units.units.unit_length shows
    (c.in_ok-units.ensures.data shows.word shows.units) c.in_ok-units.ensures.count c.in_ok-units.ensures.length
