use Rattle.returned_slots.specs.RackStates.{rack_state}
use Rattle.returned_slots.proofs.ReturnLemmas.{returns-one}
use Rattle.returned_slots.proofs.slots.put_slot.Goals as goal

pub returns : goal.returns
returns g c =
    let state = rack_state g.R.Rack.back g.R.Rack.takes g.R.Rack.puts g.R.Rack.faults in
    let put = c.put.ensures in
    returns-one g.S.Slot.place_of g.S.Slot.content c.args.slot c.put.result (state c.args.rack.now) (state c.put.new.self)
    put.ok put.takes put.puts put.faults put.never_falls (λ told. g.met.R.Rack.tells c.args.rack.now told c.args.slot)
