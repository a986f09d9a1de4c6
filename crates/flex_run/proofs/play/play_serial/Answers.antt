use Rattle.std.proofs.Common.{◌≡◌, ◌++◌, ℕ, List, Option, IsSome, sym, ap, subst, ◌∙◌}
use Rattle.report.specs.Script.{HasSerialEpochs}
use Rattle.report.specs.Legal.{IsLegalRunWhere}
use Rattle.report.specs.declared.logs.Logs.{Logs}
use Rattle.flex_run.proofs.StockPlaces.{AreOf-stock}
use Rattle.flex_run.proofs.RunStart.{MayGoOn-form}
use Rattle.flex_run.proofs.RunLegality.{logs_of, IsLegalRun-run, HasSerialEpochs-run, HasRoom-run}
use Rattle.flex_run.proofs.RunEffect.{Leaves-start}
use Rattle.flex_run.proofs.ReturnedSlots.{BringsBack-run}
use Rattle.flex_run.proofs.RackCounts.{RisesBy-same, length_of, length_left}
use Rattle.flex_run.proofs.ResultLemmas.{IfOk-weaken, IfOk-both, OnOk-both}
use Rattle.flex_run.specs.StockOrder.{PutsBack}
use Rattle.flex_run.specs.RackStates.{RackState, rack_state, RisesBy, slot_count}
use Rattle.flex_run.specs.RunReturns.{BringsBack}
use Rattle.flex_run.specs.RunReport.{HasRoomThroughout, LeavesRack}
use Rattle.flex_io.specs.declared.rack.Returned.{Returned}
use Rattle.flex_run.proofs.play.play_serial.Goals as goal

pub new-stock-requires : goal.new-stock-requires
new-stock-requires g c = AreOf-stock g.R.Piece.Slot.place_of c.in_ok-slots.slots c.args.scenario.shape c.in_ok-slots.ensures.order

pub play_script-requires-clause-left : goal.play_script-requires-clause-left
play_script-requires-clause-left g c = λ script one.
    MayGoOn-form g.R.Piece.Slot.place_of c.in_ok-slots.slots c.args.scenario script c.new-file.result c.new-stock.result c.requires one
    c.in_ok-slots.ensures.order c.new-file.ensures c.new-stock.ensures

pub play_script-requires-clause-begins : goal.play_script-requires-clause-begins
play_script-requires-clause-begins g c =
    Leaves-start g.R.Piece.Slot.place_of g.R.Piece.Slot.content c.args.scenario.shape c.in_ok-slots.slots c.new-file.result c.new-stock.result
    c.new-file.ensures c.new-stock.ensures

pub returns-clause-legal : goal.returns-clause-legal
returns-clause-legal g c =
    let known = IsSome (g.R.Rack.back c.args.rack.now) in
    IfOk-weaken c.close.result (λ (logs : Logs). logs ≡ logs_of c.args.scenario c.play_script.new.stock.board c.play_script.new.file.log)
    (IsLegalRunWhere known)
    (λ logs is.
    subst (λ (l : Logs). IsLegalRunWhere known l) (sym is)
    (IsLegalRun-run _ known c.args.scenario c.requires.script c.play_script.new.stock.board c.play_script.new.file.log c.requires c.requires.actors
    (λ told. g.met.R.Rack.tells c.args.rack.now told)
    (c.in_ok-play_script.ensures.logs c.requires.script c.requires.actors)))
    c.close.ensures.logs

pub returns-clause-serial : goal.returns-clause-serial
returns-clause-serial g c =
    IfOk-weaken c.close.result (λ (logs : Logs). logs ≡ logs_of c.args.scenario c.play_script.new.stock.board c.play_script.new.file.log)
    HasSerialEpochs
    (λ logs is.
    subst (λ (l : Logs). HasSerialEpochs l) (sym is)
    (HasSerialEpochs-run _ c.args.scenario c.requires.script c.play_script.new.stock.board c.play_script.new.file.log
    (c.in_ok-play_script.ensures.logs c.requires.script c.requires.actors)))
    c.close.ensures.logs

pub returns-clause-roomy : goal.returns-clause-roomy
returns-clause-roomy g c =
    IfOk-weaken c.close.result (λ (logs : Logs). logs ≡ logs_of c.args.scenario c.play_script.new.stock.board c.play_script.new.file.log)
    HasRoomThroughout
    (λ logs is.
    subst (λ (l : Logs). HasRoomThroughout l) (sym is)
    (HasRoom-run _ c.args.scenario c.requires.script c.play_script.new.stock.board c.play_script.new.file.log
    (c.in_ok-play_script.ensures.logs c.requires.script c.requires.actors)))
    c.close.ensures.logs

pub returns-clause-rack : goal.returns-clause-rack
returns-clause-rack g c =
    let place_of = g.R.Piece.Slot.place_of in
    let content = g.R.Piece.Slot.content in
    let file = c.play_script.new.file in
    let stock = c.play_script.new.stock in
    let before : RackState = rack_state g.R.Rack.back g.R.Rack.takes g.R.Rack.puts g.R.Rack.faults c.args.rack.now in
    let after : RackState = rack_state g.R.Rack.back g.R.Rack.takes g.R.Rack.puts g.R.Rack.faults c.close.new.rack in
    IfOk-both c.close.result (λ (logs : Logs). logs ≡ logs_of c.args.scenario stock.board file.log)
    (λ (logs : Logs). LeavesRack logs before after)
    (PutsBack (g.R.Rack.back c.take_all.new.rack) after.back place_of content (file.units ++ (file.inode ++ (stock.retired ++ stock.free)))
    × RisesBy (length_of file.units file.inode stock.retired stock.free) (g.R.Rack.puts c.take_all.new.rack) after.puts)
    (λ logs is puts.
    subst (λ (l : Logs). LeavesRack l before after) (sym is) (record {
      counts = record {
        takes = subst (λ (n : ℕ). RisesBy (slot_count c.args.scenario.shape) before.takes n) (sym c.close.ensures.takes) c.in_ok-slots.ensures.takes;
        puts = RisesBy-same _ _ _ _
            (length_left place_of content c.in_ok-slots.slots c.args.scenario.shape c.new-file.result c.new-stock.result file stock
            c.new-file.ensures c.new-stock.ensures c.in_ok-slots.ensures.order c.in_ok-play_script.ensures.leaves)
            (subst (λ (n : ℕ). RisesBy (length_of file.units file.inode stock.retired stock.free) n after.puts) c.in_ok-slots.ensures.puts puts.1);
      };
      back = BringsBack-run place_of content c.args.scenario c.requires.script _ c.in_ok-slots.slots c.new-file.result c.new-stock.result file stock before.back after.back
          c.requires c.new-file.ensures c.new-stock.ensures (c.in_ok-play_script.ensures.logs c.requires.script c.requires.actors) c.in_ok-play_script.ensures.leaves
          c.in_ok-slots.ensures.order (λ told. g.met.R.Rack.tells c.args.rack.now told)
          (subst (λ (o : Option (List Returned)). PutsBack o after.back place_of content (file.units ++ (file.inode ++ (stock.retired ++ stock.free)))) c.in_ok-slots.ensures.same puts.0);
    }))
    c.close.ensures.logs (OnOk-both _ _ _ c.close.ensures.back c.close.ensures.puts)
