use Rattle.std.proofs.Common.{◌++◌, List, map, ap, subst, ◌∙◌}
use Rattle.board.specs.History.{log_of}
use Rattle.fabric.specs.ClosedFabric.{ArePoolsOf, AreYardOf, IsExact}
use Rattle.fabric.specs.Views.{fabric_view}
use Rattle.fabric.specs.declared.hand.Hand.{Hand}
use Rattle.file_cells.specs.FileEnds.{slots_of_files}
use Rattle.returned_slots.specs.Returns.{free_slots}
use Rattle.returned_slots.proofs.ReturnLemmas.{returns-then}
use Rattle.serial_play.proofs.cells.close_cells.Goals as goal

pub returns : goal.returns
returns g c hand alone =
    let place_of = g.S.Slot.place_of in
    let shape = (fabric_view c.args.cells.fabric).shape in
    let files = c.close_files-files.ensures in
    let ends = c.close_fabric-board.ensures.ends in
    record {
      board_is = c.close-board.ensures.log ∙ ap log_of (c.close_fabric-board.ensures.board.lone hand.board (ap (map (λ (h : Hand g.row.S.Denot). h.board)) alone));
      logs_are = files.logs_are;
      waited = ends.waited;
      retired = ends.retired;
      pools = ends.pools;
      of_yard = subst (λ (hands : List (Hand g.row.S.Denot)). AreYardOf place_of shape hands ends.waited ends.retired) alone ends.of_yard;
      of_pools = subst (λ (hands : List (Hand g.row.S.Denot)). ArePoolsOf place_of shape hands ends.pools) alone ends.of_pools;
      exact = subst (λ (hands : List (Hand g.row.S.Denot)). IsExact place_of shape hands ends.pools ends.waited ends.retired) alone ends.exact;
      returns = returns-then place_of g.S.Slot.content (slots_of_files c.args.cells.files) (ends.waited ++ ends.retired ++ free_slots ends.pools) c.close_files-files.result.1
          c.close_fabric-board.result.1 c.and.result _ _ _ files.returns ends.returns c.and.ensures;
    }
