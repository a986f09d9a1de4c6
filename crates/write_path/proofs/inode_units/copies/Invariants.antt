use Rattle.write_path.proofs.InodeCopies.{AreCopies}
use Rattle.write_path.proofs.inode_units.copies.Given as goal

abbrev pub invariant-loop-copy : goal.invariant-loop-copy
invariant-loop-copy l = AreCopies l._copy l.fn.bytes l.units.unit_length l.units.units
