use Rattle.std.proofs.Common.{◌++◌, sym, ap, subst, ◌∙◌}
use Rattle.returned_slots.specs.RackStates.{rack_state}
use Rattle.returned_slots.specs.Returns.{Returns, free_slots}
use Rattle.returned_slots.proofs.ReturnLemmas.{free_slots-push, returns-none, returns-then}
use Rattle.returned_slots.proofs.slots.put_pools.Goals as goal

pub loop-pool-init : goal.loop-pool-init
loop-pool-init g c = returns-none g.S.Slot.place_of g.S.Slot.content tt _

pub loop-pool-preserved : goal.loop-pool-preserved
loop-pool-preserved g c =
    let state = rack_state g.R.Rack.back g.R.Rack.takes g.R.Rack.puts g.R.Rack.faults in
    let both = returns-then g.S.Slot.place_of g.S.Slot.content (free_slots c.loop-pool.yielded) c.close.result c.loop-pool.outcome c.put_slots-put.result c.and-outcome.result _ _ _
    c.loop-pool.invariant c.put_slots-put.ensures c.and-outcome.ensures in
    let all = ap (λ l. free_slots c.loop-pool.yielded ++ l) c.close.ensures.free ∙ sym (free_slots-push c.loop-pool.yielded c.in-Some.pool) in
    subst (λ l. Returns g.S.Slot.place_of g.S.Slot.content l c.and-outcome.result (state c.args.rack.now) (state c.put_slots-put.new.rack)) all both
