use Rattle.std.proofs.Common.{rules}
use Rattle.sparse_bytes.proofs.PageLemmas.{same_if_shown, shown_if_same, zeros_if_shown}
use Rattle.sparse_bytes.proofs.page.shows.Goals as goal

pub returns-then-not-are_same : goal.returns-then-not-are_same
returns-then-not-are_same c =
    (λ is. search rules, λ shown. absurd (search (rules, same_if_shown c.args.page.now c.args.bytes.now c.args.start c.min.result (search rules) c.min-told.result (search rules) shown)))

pub returns : goal.returns
returns c = (
  λ is. shown_if_same c.args.page.now c.args.bytes.now c.args.start c.min.result (search rules) c.min-told.result (search rules) (c.are_same.ensures.0 (search rules)) (c.are_zeros.ensures.0 is),
  λ shown. c.are_zeros.ensures.1 (zeros_if_shown c.args.page.now c.args.bytes.now c.args.start c.min.result (search rules) c.min-told.result (search rules) shown),
)
