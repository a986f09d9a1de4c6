use Rattle.std.proofs.Common.{rules, ◌≡◌, ℕ, true, ◌+◌, ◌*◌, ◌≤◌, ◌∷◌, ◌++◌, [], length, Err, OnOk, sym, ap, subst, ◌∙◌, arith, length-append}
use Rattle.std.specs.Prelude.{vec_capacity}
use Rattle.domains.specs.Shape.{is_of}
use Rattle.fabric.specs.Cells.{place_in}
use Rattle.fabric.specs.NewFabric.{AreNewPoolsFrom, IsNewPool}
use Rattle.fabric.specs.RackCounts.{RisesBy}
use Rattle.fabric.specs.declared.fault.OpenFault.TheVariants.{Rack as RackFault}
use Rattle.fabric.proofs.NewPools.{AreNewPoolsFrom-push, free_in-new}
use Rattle.fabric.proofs.RackCounts.{RisesBy-same, RisesBy-then, comes_back, fault_is, times_more}
use Rattle.fabric.proofs.rack_slots.take_pools.Goals as goal

pub returns-in-Err-clause-comes_back : goal.returns-in-Err-clause-comes_back
returns-in-Err-clause-comes_back g c is =
    let how = c.after.ensures (fault_is c.after.result RackFault is) in
    let failed = ap (λ f. Err f) how.0 in
    let place_of = g.S.Slot.place_of in
    let known = c.loop-place.invariant in
    let count = free_in-new place_of c.args.shape 0 c.loop-place.pools.items known.are ∙ ap (λ (n : ℕ). n * c.args.shape.slots) known.many in
    let puts = subst (λ (n : ℕ). OnOk c.put_pools_back.result (RisesBy n (g.R.Rack.puts c.take_pool.new.rack) (g.R.Rack.puts c.put_pools_back.new.rack))) count c.put_pools_back.ensures.puts in
    comes_back c.put_pools_back.result (c.loop-place.place * c.args.shape.slots) (g.R.Rack.takes c.args.rack.now) (g.R.Rack.puts c.args.rack.now) (g.R.Rack.faults c.args.rack.now)
    (g.R.Rack.takes c.loop-place.rack) (g.R.Rack.puts c.loop-place.rack) (g.R.Rack.faults c.loop-place.rack)
    (g.R.Rack.takes c.take_pool.new.rack) (g.R.Rack.puts c.take_pool.new.rack) (g.R.Rack.faults c.take_pool.new.rack)
    (g.R.Rack.takes c.put_pools_back.new.rack) (g.R.Rack.puts c.put_pools_back.new.rack) (g.R.Rack.faults c.put_pools_back.new.rack)
    known.takes known.puts known.faults (c.in-Err.ensures.comes_back failed) (c.in-Err.ensures.rack failed)
    c.put_pools_back.ensures.takes puts c.put_pools_back.ensures.fault c.put_pools_back.ensures.never_falls how.1

pub loop-place-preserved : goal.loop-place-preserved
loop-place-preserved g c =
    let place_of = g.S.Slot.place_of in
    let known = c.loop-place.invariant in
    let pushed : c.push_reserved.new.self.items ≡ c.loop-place.pools.items ++ c.in-Ok-take_pool.pool ∷ [] = search rules in
    let capacity : vec_capacity c.push_reserved.new.self ≡ vec_capacity c.loop-place.pools = search rules in
    let many = known.many in
    let more = ap length pushed ∙ length-append c.loop-place.pools.items (c.in-Ok-take_pool.pool ∷ []) in
    let drive : c.in-Ok-take_pool.pool.drive ≡ c.drive_at.result = c.in-Ok-take_pool.ensures.drive in
    let of : is_of c.args.shape c.in-Ok-take_pool.pool.drive ≡ true = ap (is_of c.args.shape) drive ∙ c.drive_at.ensures.of in
    let next : c.loop-place.place ≡ 0 + length c.loop-place.pools.items = omega (arith, many) in
    let at : place_in c.args.shape c.in-Ok-take_pool.pool.drive ≡ 0 + length c.loop-place.pools.items = ap (place_in c.args.shape) drive ∙ c.drive_at.ensures.place ∙ next in
    let new = subst (λ d. IsNewPool place_of c.args.shape d c.in-Ok-take_pool.pool) (sym drive) c.in-Ok-take_pool.ensures.pool in
    let before = known.faults in
    let after = c.take_pool.ensures.never_falls in
    record {
      many = omega (arith, more, many);
      room = subst (λ (n : ℕ). c.from.result * c.from-2.result ≤ n) (sym capacity) known.room;
      are = subst (AreNewPoolsFrom place_of c.args.shape 0) (sym pushed) (AreNewPoolsFrom-push place_of c.args.shape 0 c.loop-place.pools.items c.in-Ok-take_pool.pool known.are of at new);
      takes = RisesBy-same _ _ _ _ (times_more c.loop-place.place c.args.shape.slots)
          (RisesBy-then (c.loop-place.place * c.args.shape.slots) c.args.shape.slots _ _ _ known.takes c.in-Ok-take_pool.ensures.takes);
      puts = c.in-Ok-take_pool.ensures.puts ∙ known.puts;
      same = c.in-Ok-take_pool.ensures.same ∙ known.same;
      faults = omega (arith, before, after);
    }
