use Rattle.std.proofs.Common.{rules, ◌≡◌, ◌<◌, ◌∷◌, ◌++◌, [], length, refl, subst, sym, ap, ◌∙◌, set, arith}
use Rattle.std.specs.Prelude.{slice_get, vec_capacity}
use Rattle.std.proofs.lemmas.List.{length-append}
use Rattle.std.proofs.lemmas.Option.{slice_get_read}
use Rattle.fabric.specs.CloseBuffers.{TakesSeat}
use Rattle.fabric.proofs.SeatsDealt.{AreLeft, AreLeft-none, AreLeft-pop}
use Rattle.fabric.proofs.close_buffers.take_each.Goals as goal

pub loop-seat-preserved : goal.loop-seat-preserved
loop-seat-preserved g c =
    let popped : c.loop-seat.seats.items ≡ c.pop.new.self.items ++ c.in-Some.seat ∷ [] = search rules in
    let place : c.len-place.result ≡ length c.pop.new.self.items = search rules in
    let long = ap length popped ∙ length-append c.pop.new.self.items (c.in-Some.seat ∷ []) in
    let short = c.loop-seat.invariant.short in
    let many = c.loop-seat.invariant.many in
    let all = c.requires.many in
    let within : c.len-place.result < length c.loop-seat.buffers.items = omega (arith, place, long, short, many, all) in
    let at = slice_get_read c.loop-seat.buffers.items _ c.len-place.result c.index_mut.result.now refl within c.index_mut.ensures.value in
    let capacity : vec_capacity c.push_reserved.new.self ≡ vec_capacity c.index_mut.result.now = search rules in
    let items : c.push_reserved.new.self.items ≡ c.index_mut.result.now.items ++ c.in-Some.seat ∷ [] = search rules in
    subst (λ k. AreLeft TakesSeat c.args.seats.items c.pop.new.self.items c.args.buffers.now.items (set c.loop-seat.buffers.items k c.push_reserved.new.self)) (sym place)
    (AreLeft-pop TakesSeat _ _ _ _ _ _ c.index_mut.result.now c.push_reserved.new.self c.loop-seat.invariant popped (ap (slice_get c.loop-seat.buffers.items) (sym place) ∙ at) (record { items = items; capacity = capacity }))

pub returns : goal.returns
returns g c =
    let none : c.loop-seat.seats.items ≡ [] = search rules in
    AreLeft-none TakesSeat _ _ _ _ none c.loop-seat.invariant
