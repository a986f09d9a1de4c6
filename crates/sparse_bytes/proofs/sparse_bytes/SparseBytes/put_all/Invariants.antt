use Rattle.std.proofs.Common.{◌≡◌, length}
use Rattle.sparse_bytes.proofs.PageLemmas.{IsPutBefore}
use Rattle.sparse_bytes.proofs.sparse_bytes.SparseBytes.put_all.Given as goal

-- the bytes before `at` stand in the pages
abbrev pub invariant-pages : goal.invariant-pages
invariant-pages l = IsPutBefore l.fn.self.pages l.fn.offset l.fn.bytes l.self.pages l.at l.rest × (l.self.size ≡ l.fn.self.size)

abbrev pub decreases-pages : goal.decreases-pages
decreases-pages l = length l.rest
