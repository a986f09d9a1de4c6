use Rattle.std.proofs.Common.{◌≡◌, ◌++◌, ◌∷◌, [], map}
use Rattle.std.proofs.lemmas.Result.{err_from_is_err_and}
use Rattle.std.proofs.lemmas.List.{map_push}
use Rattle.field_readers.specs.FieldReaders.{each}
use Rattle.checkpoints.specs.CheckpointFields.{item_at, raw_item, stays}
use Rattle.field_readers.proofs.EachInTurn.{ends, goes_on}
use Rattle.checkpoints.proofs.reading.items_of.Goals as goal

pub returns-in_err-item : goal.returns-in_err-item
returns-in_err-item c =
    let p = err_from_is_err_and c.from_residual.result c.from_residual.ensures.1 in
    rw (p.1, p.2) (ends item_at stays c.in_err-item.field-0.0 (map raw_item c.loop-item.items.items) c.args.count c.loop-item._item 0 c.loop-item.rest.now (each item_at stays c.args.count 0 c.args.bytes.now) c.loop-item-test.true c.in_err-item.ensures c.loop-item.invariant)

pub loop-item-preserved : goal.loop-item-preserved
loop-item-preserved c =
    let n = c.in_ok-item.item in
    let e : map raw_item c.push.new.self.items ≡ map raw_item c.loop-item.items.items ++ raw_item n ∷ [] = rw c.in_ok-push.ensures.items (map_push raw_item c.loop-item.items.items n) in
    rw e (goes_on item_at stays (map raw_item c.loop-item.items.items) c.args.count c.loop-item._item 0 c.loop-item.rest.now (raw_item n) c.in_ok-item.after.now (each item_at stays c.args.count 0 c.args.bytes.now) c.loop-item-test.true c.in_ok-item.ensures c.loop-item.invariant)
