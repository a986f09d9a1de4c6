use Rattle.std.proofs.Common.{◌≡◌, length, take}
use Rattle.fabric.specs.Views.{IsHandOf, fabric_view, number_of}
use Rattle.serial_play.specs.PlayedRuns.{IsPlayed, KeepsCells}
use Rattle.serial_play.proofs.operations.play_in_order.Given as goal

abbrev pub invariant-loop-by : goal.invariant-loop-by
invariant-loop-by g l = record {
  hand : IsHandOf (fabric_view l.fn.desk.fabric.now) l.desk.hand.now;
  number : number_of l.desk.hand.now ≡ number_of l.fn.desk.hand.now;
  same : KeepsCells l.fn.desk l.desk;
  many : length l.files ≡ length l.fn.files;
  played : IsPlayed g.S.Slot.place_of g.S.Slot.content g.S.Slot.len_of l.scenario (take l.by-index l.order) l.files l.desk.hand.now;
}
