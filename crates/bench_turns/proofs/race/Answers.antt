use Rattle.std.proofs.Common.{rules, ◌∙◌}
use Rattle.turn_cell.proofs.SeatLists.{AreIdleFrom-all, AreIdleFrom-mapped, AreNewFrom-idle}
use Rattle.bench_turns.proofs.race.Goals as goal

pub map_each-seats-requires-clause-accepts : goal.map_each-seats-requires-clause-accepts
map_each-seats-requires-clause-accepts g c κs within =
    let made = c.in-Ok.ensures.ok.1 in
    AreIdleFrom-all _ 0 _ (AreNewFrom-idle _ _ 0 _ made.1)

pub close-requires : goal.close-requires
close-requires g c =
    let made = c.in-Ok.ensures.ok.1 in
    let mapped = c.map_each-seats.ensures.mapped in
    record { seats = (mapped.count ∙ made.0, AreIdleFrom-mapped _ 0 _ _ (AreNewFrom-idle _ _ 0 _ made.1) mapped.count (λ place old new was is. let done = mapped.each place old new was is in search rules)) }
