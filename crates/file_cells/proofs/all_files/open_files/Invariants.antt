use Rattle.std.proofs.Common.{◌≡◌, ◌≤◌, length, take}
use Rattle.std.specs.Prelude.{vec_capacity}
use Rattle.file_cells.specs.OpenFiles.{AreNew}
use Rattle.file_cells.proofs.all_files.open_files.Given as goal

abbrev pub invariant-loop-file : goal.invariant-loop-file
invariant-loop-file g l = record {
  many : length l.opened.items ≡ l.file-index;
  numbered : l.number ≡ l.file-index;
  space : length l.files ≤ vec_capacity l.opened;
  new : AreNew g.S.Slot.place_of g.S.Slot.content g.S.Slot.len_of l.shape l.room (take l.file-index l.files) 0 l.opened.items;
}
