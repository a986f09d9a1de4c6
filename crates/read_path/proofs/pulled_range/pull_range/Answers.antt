use Rattle.std.proofs.Common.{ℕ, subst}
use Rattle.read_path.specs.PulledRanges.{PullTells}
use Rattle.read_path.proofs.PulledRange.{pull_tells}
use Rattle.read_path.proofs.pulled_range.pull_range.Goals as goal

pub returns-clause-tells : goal.returns-clause-tells
returns-clause-tells g c =
    subst (λ (n : ℕ). PullTells g.S.Slot.place_of g.S.Slot.content g.S.Slot.len_of g.S.Slot.reads c.pull.result c.args.view.now c.args.offset n c.args.file.now c.pull.new.self) c.from.ensures
    (pull_tells g.S.Slot.place_of g.S.Slot.content g.S.Slot.len_of g.S.Slot.reads c.pull.result c.args.view.now c.args.offset c.from.result c.args.file.now c.pull.new.self (record {
      pulled = c.pull.ensures.pulled;
      look = c.pull.ensures.look;
      absent = c.pull.ensures.absent;
      unknown = c.pull.ensures.unknown;
      lost = c.pull.ensures.lost;
      refused = c.pull.ensures.refused;
      kept = c.pull.ensures.kept;
      same = c.pull.ensures.same;
      same_inode = c.pull.ensures.same_inode;
      decodes = c.pull.ensures.decodes;
      shown = c.pull.ensures.shown;
    }))
