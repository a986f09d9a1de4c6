-- The run begins with nothing played, and ends as its operations and the close tell.
use Rattle.std.proofs.Common.{[], List, length, slice_get, OnOk, sym, ap, subst, ◌∙◌}
use Rattle.std.specs.List.{AllByRecursion}
use Rattle.std.specs.Result.{IsErrOf}
use Rattle.actor_operations.specs.declared.stop.Stop.TheVariants.{LogFull}
use Rattle.domains.specs.Shape.{Shape}
use Rattle.domains.specs.declared.by.By.{By}
use Rattle.fabric.specs.Views.{fabric_view}
use Rattle.fabric.specs.declared.hand.Hand.{Hand}
use Rattle.file_cells.specs.OpenFiles.{IsOpen}
use Rattle.file_cells.specs.declared.open_file.OpenFile.{OpenFile}
use Rattle.flex_io.specs.Faults.{HasRisen}
use Rattle.returned_slots.specs.RackStates.{RackState, rack_state}
use Rattle.striped_groups.specs.StoredGroups.{AllTell}
use Rattle.serial_play.specs.Outcomes.{EndsCells, PlayTells}
use Rattle.serial_play.specs.PlayedRuns.{IsPlayed, IsStoppedFull}
use Rattle.serial_play.specs.RunEnds.{ReturnsSlots}
use Rattle.serial_play.specs.declared.logs.RunLogs.{RunLogs}
use Rattle.serial_play.proofs.LoneHands.{all-open, lone, none-before, written}
use Rattle.serial_play.proofs.NewRuns.{new_run}
use Rattle.serial_play.proofs.PlayOutcomes.{play-tells}
use Rattle.serial_play.proofs.play.play_on.Goals as goal
use Rattle.serial_play.proofs.play.play_on.Given.{Over}

pub play_operations-played-requires-clause-begins : goal.play_operations-played-requires-clause-begins
play_operations-played-requires-clause-begins g c κs within =
    let s = c.args.scenario.now in
    let hands = c.args.cells.hands in
    let hand = c.in-Some.hand in
    let none = none-before hands c.into_vec-hands.result.items c.pop.new.self.items hand c.into_vec-hands.ensures c.in-Some.ensures.items (c.requires.hands.0 ∙ c.requires.one) in
    let all = lone hands c.into_vec-hands.result.items c.pop.new.self.items hand c.into_vec-hands.ensures c.in-Some.ensures.items none in
    subst (λ (files : List (OpenFile g.row.R-Piece.Denot)). IsPlayed g.R.Piece.Slot.place_of g.R.Piece.Slot.content g.R.Piece.Slot.len_of s [] files hand)
    (sym (c.deref_mut.ensures.value ∙ c.into_vec-files.ensures))
    (new_run g.R.Piece.Slot.place_of g.R.Piece.Slot.content g.R.Piece.Slot.len_of s c.args.cells.files hand c.requires.files
    (c.requires.hand 0 hand (ap (λ (l : List (Hand g.row.R-Piece.Denot)). slice_get l 0) all)))

pub close_cells-logs-requires-clause-open : goal.close_cells-logs-requires-clause-open
close_cells-logs-requires-clause-open g c κs within =
    let after = c.play_operations-played.new.files in
    let back = c.from_vec-2.ensures
    ∙ written after c.into_vec-files.result.items c.into_vec-files.result.len (c.play_operations-played.ensures.many ∙ ap length c.deref_mut.ensures.value) c.into_vec-files.result.ok.0 in
    subst (λ (files : List (OpenFile g.row.R-Piece.Denot)). AllByRecursion IsOpen files) (sym back) (all-open c.args.scenario.now.shape after c.play_operations-played.ensures.open)

-- the files and the hand after the operations, and what the close tells of them
module _ (g : Over) (c : goal.After-outcome g) where
  abbrev after : List (OpenFile g.row.R-Piece.Denot)
  after = c.play_operations-played.new.files

  abbrev hand_after : Hand g.row.R-Piece.Denot
  hand_after = c.play_operations-played.new.hand

  abbrev begun : RackState
  begun = rack_state g.R.Rack.back g.R.Rack.takes g.R.Rack.puts g.R.Rack.faults c.args.rack.now

  abbrev left : RackState
  left = rack_state g.R.Rack.back g.R.Rack.takes g.R.Rack.puts g.R.Rack.faults c.close_cells-logs.new.rack

  closes : EndsCells g.R.Piece.Slot.place_of g.R.Piece.Slot.content c.args.scenario.now.shape hand_after after c.close_cells-logs.result.0.board c.close_cells-logs.result.0.files c.close_cells-logs.result.1 begun left
  closes =
      let hands = c.args.cells.hands in
      let none = none-before hands c.into_vec-hands.result.items c.pop.new.self.items c.in-Some.hand c.into_vec-hands.ensures c.in-Some.ensures.items (c.requires.hands.0 ∙ c.requires.one) in
      let all = lone c.from_vec.result c.push_reserved.new.self.items c.pop.new.self.items hand_after (sym c.from_vec.ensures) c.push_reserved.ensures.items none in
      let back = c.from_vec-2.ensures
      ∙ written after c.into_vec-files.result.items c.into_vec-files.result.len (c.play_operations-played.ensures.many ∙ ap length c.deref_mut.ensures.value) c.into_vec-files.result.ok.0 in
      subst (λ (x : Shape). EndsCells g.R.Piece.Slot.place_of g.R.Piece.Slot.content x hand_after after c.close_cells-logs.result.0.board c.close_cells-logs.result.0.files c.close_cells-logs.result.1 begun left) c.requires.shape
      (subst (λ (files : List (OpenFile g.row.R-Piece.Denot)). EndsCells g.R.Piece.Slot.place_of g.R.Piece.Slot.content (fabric_view c.args.cells.fabric).shape hand_after files
      c.close_cells-logs.result.0.board c.close_cells-logs.result.0.files c.close_cells-logs.result.1 begun left) back (c.close_cells-logs.ensures hand_after all))

pub returns-clause-tells : goal.returns-clause-tells
returns-clause-tells g c =
    let s = c.args.scenario.now in
    let place_of = g.R.Piece.Slot.place_of in
    let content = g.R.Piece.Slot.content in
    let len_of = g.R.Piece.Slot.len_of in
    let before = begun g c in
    let now = left g c in
    subst (PlayTells (AllTell content) (λ (l : RunLogs). ReturnsSlots place_of content s l.board l.files before now) (HasRisen before.faults now.faults) s) (sym c.outcome.ensures)
    (play-tells place_of content len_of s c.requires.playable c.requires.few (after g c) (hand_after g c) c.close_cells-logs.result.0 before now c.play_operations-played.result
    c.close_cells-logs.result.1
    (subst (λ (order : List By). OnOk c.play_operations-played.result (IsPlayed place_of content len_of s order (after g c) (hand_after g c))) c.requires.order c.play_operations-played.ensures.played)
    (subst (λ (order : List By). IsErrOf c.play_operations-played.result LogFull → IsStoppedFull place_of content len_of s order (after g c) (hand_after g c)) c.requires.order
    c.play_operations-played.ensures.full) (closes g c))

pub returns-clause-never_falls : goal.returns-clause-never_falls
returns-clause-never_falls g c = (closes g c).returns.never_falls
