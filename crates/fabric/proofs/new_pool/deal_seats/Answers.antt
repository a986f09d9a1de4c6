use Rattle.std.proofs.Common.{rules, ◌≡◌, ◌<◌, ◌∷◌, ◌++◌, [], length, refl, subst, sym, ap, ◌∙◌, set, arith}
use Rattle.std.specs.Prelude.{slice_get, vec_capacity}
use Rattle.std.proofs.lemmas.List.{length-append}
use Rattle.std.proofs.lemmas.Option.{slice_get_read}
use Rattle.fabric.specs.NewFabric.{DealsSeat}
use Rattle.fabric.specs.declared.hand.Hand.{Hand}
use Rattle.fabric.proofs.SeatsDealt.{AreLeft, AreLeft-none, AreLeft-pop}
use Rattle.fabric.proofs.new_pool.deal_seats.Goals as goal

pub loop-seat-preserved : goal.loop-seat-preserved
loop-seat-preserved g c =
    let popped : c.loop-seat.seats.items ≡ c.pop.new.self.items ++ c.in-Some.seat ∷ [] = search rules in
    let room : vec_capacity c.pop.new.self ≡ vec_capacity c.loop-seat.seats = search rules in
    let number : c.len-number.result ≡ length c.pop.new.self.items = search rules in
    let long = ap length popped ∙ length-append c.pop.new.self.items (c.in-Some.seat ∷ []) in
    let short = c.loop-seat.invariant.0.short in
    let many = c.loop-seat.invariant.0.many in
    let all = c.requires.many in
    let within : c.len-number.result < length c.loop-seat.hands.items = omega (arith, number, long, short, many, all) in
    let at = slice_get_read c.loop-seat.hands.items _ c.len-number.result c.index_mut.result.now refl within c.index_mut.ensures.value in
    let capacity : vec_capacity c.push_reserved.new.self ≡ vec_capacity c.index_mut.result.now.pools = search rules in
    let items : c.push_reserved.new.self.items ≡ c.index_mut.result.now.pools.items ++ c.in-Some.seat ∷ [] = search rules in
    let hand : Hand g.row.S.Denot = record { board = c.index_mut.result.now.board; yard = c.index_mut.result.now.yard; pools = c.push_reserved.new.self; buffers = c.index_mut.result.now.buffers } in (
      subst (λ k. AreLeft DealsSeat c.args.seats.items c.pop.new.self.items c.args.hands.now.items (set c.loop-seat.hands.items k hand)) (sym number)
          (AreLeft-pop DealsSeat _ _ _ _ _ _ c.index_mut.result.now hand c.loop-seat.invariant.0 popped (ap (slice_get c.loop-seat.hands.items) (sym number) ∙ at)
          (record { board = refl; yard = refl; buffers = refl; items = items; capacity = capacity })),
      room ∙ c.loop-seat.invariant.1,
    )

pub returns-clause-dealt : goal.returns-clause-dealt
returns-clause-dealt g c =
    let none : c.loop-seat.seats.items ≡ [] = search rules in
    AreLeft-none DealsSeat _ _ _ _ none c.loop-seat.invariant.0
