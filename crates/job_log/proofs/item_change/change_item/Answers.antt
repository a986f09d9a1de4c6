use Rattle.std.proofs.Common.{◌<◌, length, ap, sym, ◌∙◌, arith}
use Rattle.std.specs.Prelude.{slice_set}
use Rattle.checkpoints.specs.declared.checkpoint.ItemSaved.{ItemSaved}
use Rattle.job_log.specs.Changes.{after_change}
use Rattle.job_log.proofs.ChangedItems.{at_item-beyond, at_item-inside}
use Rattle.job_log.proofs.item_change.change_item.Goals as goal

pub returns-then-at-len-clause-items : goal.returns-then-at-len-clause-items
returns-then-at-len-clause-items c =
    let items = c.args.items.now.items in
    let len = c.args.items.now.ok.0 in
    let inside : c.args.at < length items = omega (arith, len, c.len.ensures, c.if-at-len.true) in
    ap (λ (x : ItemSaved). slice_set items c.args.at x) (c.changed.ensures ∙ ap (after_change c.args.change) c.index.ensures)
    ∙ sym (at_item-inside c.args.at (after_change c.args.change) items c.index.result.now inside)

pub returns-else-at-len-clause-items : goal.returns-else-at-len-clause-items
returns-else-at-len-clause-items c =
    let len = c.args.items.now.ok.0 in
    sym (at_item-beyond c.args.at (after_change c.args.change) c.args.items.now.items (omega (arith, len, c.len.ensures, c.if-at-len.false)))
