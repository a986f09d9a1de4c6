use Rattle.std.proofs.Common.{length}
use Rattle.std.specs.List.{AllByRecursion}
use Rattle.file_cells.specs.OpenFiles.{HoldsNone}
use Rattle.file_cells.proofs.all_files.end_new.Given as goal

abbrev pub decreases-loop-file : goal.decreases-loop-file
decreases-loop-file g l = length l.files.items

abbrev pub invariant-loop-file : goal.invariant-loop-file
invariant-loop-file g l = AllByRecursion HoldsNone l.files.items
