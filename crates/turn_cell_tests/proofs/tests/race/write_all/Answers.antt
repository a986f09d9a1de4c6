use Rattle.std.proofs.Common.{◌∙◌}
use Rattle.turn_cell_tests.proofs.WrittenNumbers.{next_counted, next_written}
use Rattle.turn_cell_tests.proofs.tests.race.write_all.Goals as goal

pub loop-done-preserved : goal.loop-done-preserved
loop-done-preserved g c =
    let i = c.loop-done.invariant in
    let e = c.in-Ok.ensures in
    record {
      idle = e.idle;
      same = e.same ∙ i.same;
      written = next_written _ _ _ _ _ i.same e.ok i.written;
      tally = next_counted _ _ _ _ _ _ c.loop-done-test.true c.ranges.count.fits i.same e.tally i.tally;
    }
