-- The slot goes to a list, or it is lost.
use Rattle.std.proofs.Common.{refl}
use Rattle.std.proofs.lemmas.Bool.{both_ways}
use Rattle.fabric.specs.Views.{fabric_view}
use Rattle.write_path.proofs.ReleasedSlots.{board_refused, board_released}
use Rattle.write_path.proofs.release.release_slot.Goals as goal

pub returns-in-Ok-clause-keeps : goal.returns-in-Ok-clause-keeps
returns-in-Ok-clause-keeps g c = record {
  hand = c.release.ensures.hand;
  number = c.release.ensures.number;
  board = board_released g.S.Slot.place_of (fabric_view c.args.fabric.now).shape c.args.view.now c.args.held c.args.hand.now c.release.new.hand c.in-Ok.ensures.ok;
}

pub returns-in-Ok-clause-released : goal.returns-in-Ok-clause-released
returns-in-Ok-clause-released g c went = record { went = c.in-Ok.ensures.ok; less = c.in-Ok.ensures.less }

pub returns-in-Err-clause-keeps : goal.returns-in-Err-clause-keeps
returns-in-Err-clause-keeps g c = record {
  hand = c.release.ensures.hand;
  number = c.release.ensures.number;
  board = board_refused g.S.Slot.place_of (fabric_view c.args.fabric.now).shape c.args.view.now c.args.held c.args.hand.now c.release.new.hand c.in-Err.ensures.refused;
}
