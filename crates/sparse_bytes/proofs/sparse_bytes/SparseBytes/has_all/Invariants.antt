use Rattle.std.proofs.Common.{length}
use Rattle.sparse_bytes.proofs.PageLemmas.{IsShownBefore}
use Rattle.sparse_bytes.proofs.sparse_bytes.SparseBytes.has_all.Given as goal

-- the bytes before `at` are shown
abbrev pub invariant-pages : goal.invariant-pages
invariant-pages l = IsShownBefore l.self.pages l.fn.offset l.fn.bytes l.at l.rest

abbrev pub decreases-pages : goal.decreases-pages
decreases-pages l = length l.rest
