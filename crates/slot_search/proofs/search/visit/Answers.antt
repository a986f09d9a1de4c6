-- A visit once as many are drawn as wanted draws nothing.
use Rattle.std.proofs.Common.{arith}
use Rattle.fabric.specs.Views.{fabric_view}
use Rattle.slot_search.proofs.SearchSteps.{IsBefore-enough}
use Rattle.slot_search.proofs.search.visit.Goals as goal

pub returns-then-len-from-clause-order : goal.returns-then-len-from-clause-order
returns-then-len-from-clause-order g c before rest =
    let slots = c.args.search.now.slots in
    let long = slots.ok in
    IsBefore-enough g.S.Slot.place_of (fabric_view c.args.fabric.now) c.args.request.now c.args.round c.args.node before rest c.args.search.now c.requires.search
    (omega (arith, long))
