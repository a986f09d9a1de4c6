use Rattle.std.proofs.Common.{rules, OnOk, OnErr}
use Rattle.std.proofs.lemmas.Result.{IfErr-weaker, on_ok_weaker}
use Rattle.fabric.specs.PoolTurns.{FindsAll, Gives}
use Rattle.fabric.proofs.PoolTurnLemmas.{PoolTurned, pool_turned, finds_all, gives}
use Rattle.turn_cell.specs.Seats.{seat_view, taken}
use Rattle.fabric.proofs.pool_turns.give.Given.{Over}
use Rattle.fabric.proofs.pool_turns.give.Goals as goal

turned : (g : Over) (c : goal.After-seat-1 g) → PoolTurned g.S.Slot.place_of (seat_view c.args.seat.now) (seat_view c.leave.new.self.1.0) (taken c.enter-turn.result) c.state.result.now c.give-given.new.self
turned g c = pool_turned g.S.Slot.place_of _ _ _ _ _ _ _ c.enter-turn.ensures.entered c.state.ensures.value c.give-given.ensures.pool c.leave.ensures.left

pub returns-clause-ok : goal.returns-clause-ok
returns-clause-ok g c =
    let done : OnOk c.give-given.result (Gives g.S.Slot.place_of c.args.held (seat_view c.args.seat.now) (seat_view c.leave.new.self.1.0)) =
    on_ok_weaker c.give-given.result (gives g.S.Slot.place_of _ _ _ _ _ (turned g c) c.args.held) c.give-given.ensures.ok in
    search rules

pub returns-clause-full : goal.returns-clause-full
returns-clause-full g c =
    let done : OnErr c.give-given.result (FindsAll g.S.Slot.place_of (seat_view c.args.seat.now) (seat_view c.leave.new.self.1.0)) =
    finds_all g.S.Slot.place_of _ _ _ _ _ (turned g c) c.give-given.result (IfErr-weaker c.give-given.result _ _ (λ refused kept. kept.0) c.give-given.ensures.kept) c.give-given.ensures.accepts in
    search rules
