use Rattle.range_writes.proofs.PulledWrite.{pull_tells}
use Rattle.range_writes.proofs.pulled_write.pull_for_write.Goals as goal

pub returns-clause-tells : goal.returns-clause-tells
returns-clause-tells g c =
    pull_tells g.S.Slot.place_of g.S.Slot.content g.S.Slot.len_of g.S.Slot.reads c.pull.result c.args.view.now c.args.offset c.args.len c.args.width c.args.file.now c.pull.new.self c.requires.file (record {
      pulled = c.pull.ensures.pulled;
      absent = c.pull.ensures.absent;
      unknown = c.pull.ensures.unknown;
      lost = c.pull.ensures.lost;
      refused = c.pull.ensures.refused;
      kept = c.pull.ensures.kept;
      same = c.pull.ensures.same;
      same_inode = c.pull.ensures.same_inode;
      decodes = c.pull.ensures.decodes;
      shown = c.pull.ensures.shown;
    })
