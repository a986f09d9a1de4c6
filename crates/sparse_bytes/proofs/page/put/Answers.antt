use Rattle.std.proofs.Common.{rules}
use Rattle.sparse_bytes.proofs.PageLemmas.{put_cut}
use Rattle.sparse_bytes.proofs.page.put.Goals as goal

pub returns : goal.returns
returns c =
    put_cut c.args.page.now.items c.args.bytes.now c.resize.new.self.items c.deref_mut.result.now c.copy_from_slice.new.self c.args.start
    c.resize.new.self.len c.max.result (search rules) (search rules) (search rules) (search rules) (search rules)
