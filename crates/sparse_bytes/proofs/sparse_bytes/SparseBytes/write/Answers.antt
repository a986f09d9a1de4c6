use Rattle.std.proofs.Common.{rules}
use Rattle.sparse_bytes.proofs.PageLemmas.{holds_written}
use Rattle.sparse_bytes.proofs.sparse_bytes.SparseBytes.write.Goals as goal

pub returns : goal.returns
returns c = record {
  written = λ bytes was. holds_written c.args.self.now _ c.args.offset c.args.payload.now bytes c.in_ok-put_all.ensures.put (search rules) was;
}
