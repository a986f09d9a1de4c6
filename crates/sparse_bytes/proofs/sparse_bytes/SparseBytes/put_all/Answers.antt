use Rattle.std.proofs.Common.{rules, arith}
use Rattle.sparse_bytes.proofs.PageLemmas.{put_step}
use Rattle.sparse_bytes.proofs.sparse_bytes.SparseBytes.put_all.Goals as goal

pub pages-preserved : goal.pages-preserved
pages-preserved c = (
  put_step c.args.self.now.pages c.pages.self.pages c.put.new.self.pages c.args.offset c.args.bytes.now c.pages.at c.pages.rest.now c.min-count.result c.pages.invariant.0
      (omega (arith, c.min-count.ensures)) (omega (arith, c.min-count.ensures)) c.in_ok-put.ensures.put,
  search rules,
)
