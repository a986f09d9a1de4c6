use Rattle.std.proofs.Common.{◌≡◌}
use Rattle.bench_yard.proofs.put_all.Given as goal

abbrev pub invariant-loop-slot : goal.invariant-loop-slot
invariant-loop-slot l = l.yard.shape ≡ record { nodes = 1; drives = 10; slots = 4000; unit = 8 }

abbrev pub invariant-loop-before : goal.invariant-loop-before
invariant-loop-before l = l.yard.shape ≡ record { nodes = 1; drives = 10; slots = 4000; unit = 8 }
