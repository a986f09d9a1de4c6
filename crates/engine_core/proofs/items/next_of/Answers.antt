use Rattle.std.proofs.Common.{ℕ, ◌<◌, length, sym, ap, ◌∙◌, arith}
use Rattle.std.specs.Prelude.{slice_index_or}
use Rattle.engine_core.specs.Tasks.{next_of}
use Rattle.engine_core.proofs.ItemLookups.{if_any, next_beyond, next_inside}
use Rattle.engine_core.proofs.items.next_of.Goals as goal

pub returns-then-at-items-clause-value : goal.returns-then-at-items-clause-value
returns-then-at-items-clause-value c = sym (next_beyond c.args.item c.args.items.now (omega (arith, c.if-at-items.true, c.from-at.ensures)))

pub returns-clause-value : goal.returns-clause-value
returns-clause-value c =
    let inside : c.args.item < length c.args.items.now = omega (arith, c.if-at-items.false, c.from-at.ensures) in
    let found = c.item_at.result in
    c.next_in.ensures ∙ ap next_of (c.item_at.ensures found) ∙ ap (λ (n : ℕ). next_of (slice_index_or c.args.items.now n found)) c.from-at.ensures ∙ sym (next_inside c.args.item c.args.items.now found inside)

pub returns-clause-within : goal.returns-clause-within
returns-clause-within c = if_any c.next_in.result (omega (arith, c.if-at-items.false, c.from-at.ensures))
