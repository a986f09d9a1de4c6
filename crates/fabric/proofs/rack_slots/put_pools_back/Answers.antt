use Rattle.std.proofs.Common.{◌+◌, ◌∷◌, [], ◌++◌, length, sym, ap, ◌∙◌, arith}
use Rattle.fabric.specs.NewFabric.{free_in}
use Rattle.fabric.proofs.NewPools.{free_in-push}
use Rattle.fabric.proofs.RackCounts.{puts_both}
use Rattle.fabric.proofs.rack_slots.put_pools_back.Goals as goal

pub loop-pool-preserved : goal.loop-pool-preserved
loop-pool-preserved g c =
    let before = c.loop-pool.invariant.3 in
    let after = c.put_back-put.ensures.never_falls in
    let count = ap (λ l. free_in c.loop-pool.yielded + length l) c.close.ensures.free ∙ sym (free_in-push c.loop-pool.yielded c.in-Some.pool) in
    let both = puts_both c.loop-pool.outcome c.put_back-put.result c.and-outcome.result (free_in c.loop-pool.yielded) (length c.close.result) (free_in (c.loop-pool.yielded ++ c.in-Some.pool ∷ []))
    (g.R.Rack.puts c.args.rack.now) (g.R.Rack.puts c.loop-pool.rack) (g.R.Rack.puts c.put_back-put.new.rack)
    (g.R.Rack.faults c.args.rack.now) (g.R.Rack.faults c.loop-pool.rack) (g.R.Rack.faults c.put_back-put.new.rack)
    c.and-outcome.ensures count c.loop-pool.invariant.1 c.loop-pool.invariant.2 before c.put_back-put.ensures.puts c.put_back-put.ensures.fault after in (
      c.put_back-put.ensures.takes ∙ c.loop-pool.invariant.0,
      both.0,
      both.1,
      omega (arith, before, after),
    )
