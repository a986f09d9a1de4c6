-- The files have room for their logs, and the rack gave each slot before the play began.
use Rattle.std.proofs.Common.{length, ap, arith}
use Rattle.flex_io.specs.Faults.{HasRisen}
use Rattle.returned_slots.specs.RackStates.{rack_state}
use Rattle.returned_slots.proofs.ReturnLemmas.{HasRisen-after}
use Rattle.striped_groups.specs.StoredGroups.{AllTell}
use Rattle.serial_play.specs.PlayedRuns.{log_room}
use Rattle.serial_play.specs.RunEnds.{LeavesRack, ReturnsSlots}
use Rattle.serial_play.specs.declared.logs.RunLogs.{RunLogs}
use Rattle.serial_play.proofs.NewRuns.{new-many}
use Rattle.serial_play.proofs.PlayOutcomes.{tells-later}
use Rattle.serial_play.proofs.play.play_serial.Goals as goal

pub play_on-requires-clause-space : goal.play_on-requires-clause-space
play_on-requires-clause-space g c κs within =
    let s = c.args.scenario.now in
    let many = new-many g.R.Piece.Slot.place_of g.R.Piece.Slot.content g.R.Piece.Slot.len_of s.shape log_room 0 c.as_slice-2.result.now c.in-Ok.files c.in-Ok.ensures in
    let declared = ap length c.as_slice-2.ensures in
    let room = c.in_ok-logs.ensures.capacity in
    let count = c.len.ensures in
    omega (arith, many, declared, room, count)

pub returns-in-Ok-clause-tells : goal.returns-in-Ok-clause-tells
returns-in-Ok-clause-tells g c =
    let s = c.args.scenario.now in
    let place_of = g.R.Piece.Slot.place_of in
    let content = g.R.Piece.Slot.content in
    let before = rack_state g.R.Rack.back g.R.Rack.takes g.R.Rack.puts g.R.Rack.faults c.args.rack.now in
    let taken = rack_state g.R.Rack.back g.R.Rack.takes g.R.Rack.puts g.R.Rack.faults c.open.new.rack in
    let now = rack_state g.R.Rack.back g.R.Rack.takes g.R.Rack.puts g.R.Rack.faults c.play_on.new.rack in
    tells-later (AllTell content) (HasRisen taken.faults now.faults) (HasRisen before.faults now.faults) (λ (l : RunLogs). ReturnsSlots place_of content s l.board l.files taken now)
    (λ (l : RunLogs). LeavesRack place_of content s l.board l.files before now) s c.play_on.result
    (λ l returns. record { taken = taken; takes = c.in_ok-fabric.ensures.takes; puts = c.in_ok-fabric.ensures.puts; back = c.in_ok-fabric.ensures.same; returns = returns })
    (λ rises. HasRisen-after before.faults taken.faults now.faults c.open.ensures.never_falls rises) c.play_on.ensures.tells
