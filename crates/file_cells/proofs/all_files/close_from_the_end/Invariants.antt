use Rattle.std.proofs.Common.{◌≡◌, ◌+◌, ◌++◌, ◌≤◌, length, reverse}
use Rattle.std.specs.Prelude.{vec_capacity}
use Rattle.std.specs.List.{AllByRecursion}
use Rattle.file_core.specs.StoredPlaces.{slots_of}
use Rattle.file_cells.specs.FileEnds.{logs_of_files}
use Rattle.file_cells.specs.OpenFiles.{IsOpen, state_of}
use Rattle.returned_slots.specs.RackStates.{rack_state}
use Rattle.file_cells.proofs.FilesReturned.{ReturningEach}
use Rattle.file_cells.proofs.all_files.close_from_the_end.Given as goal

abbrev pub decreases-loop-file : goal.decreases-loop-file
decreases-loop-file g l = length l.files.items

abbrev pub invariant-loop-file : goal.invariant-loop-file
invariant-loop-file g l = record {
  returning : ReturningEach g.S.Slot.place_of g.S.Slot.content (λ f. slots_of (state_of f)) (reverse l.fn.files.items) (reverse l.files.items) l.outcome
      (rack_state g.R.Rack.back g.R.Rack.takes g.R.Rack.puts g.R.Rack.faults l.fn.rack) (rack_state g.R.Rack.back g.R.Rack.takes g.R.Rack.puts g.R.Rack.faults l.rack);
  are : AllByRecursion IsOpen (reverse l.files.items);
  logs : l.logs.items ++ logs_of_files (reverse l.files.items) ≡ logs_of_files (reverse l.fn.files.items);
  space : length l.files.items + length l.logs.items ≤ vec_capacity l.logs;
}
