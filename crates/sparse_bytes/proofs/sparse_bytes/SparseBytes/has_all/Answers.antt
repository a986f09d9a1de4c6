use Rattle.std.proofs.Common.{rules, arith}
use Rattle.sparse_bytes.proofs.PageLemmas.{show_step}
use Rattle.sparse_bytes.proofs.sparse_bytes.SparseBytes.has_all.Goals as goal

pub pages-preserved : goal.pages-preserved
pages-preserved c =
    show_step c.args.self.now.pages c.args.offset c.args.bytes.now c.pages.at c.pages.rest.now c.min-count.result c.pages.invariant
    (omega (arith, c.min-count.ensures)) (omega (arith, c.min-count.ensures)) (search rules)
