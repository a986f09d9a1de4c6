use Rattle.std.proofs.Common.{length, get_or, ap, ◌∙◌, arith}
use Rattle.galois.specs.Field.{field_sum}
use Rattle.lane_kernels.proofs.HalfLemmas.{looked_up-product}
use Rattle.lane_kernels.proofs.LaneLemmas.{AddsLookedUp-then}
use Rattle.lane_kernels.proofs.multiples.mul_add.Goals as goal

pub returns : goal.returns
returns c k within =
    let table = c.half_products-table.result in
    let input = c.args.input.now in
    let whole = AddsLookedUp-then table 0 _ (length c.add_blocks.new.out) input c.args.out.now c.add_blocks.new.out c.add_tail.new.out
    (omega arith) (omega arith) c.add_blocks.ensures c.add_tail.ensures in
    whole.added k (omega arith) (omega arith)
    ∙ ap (field_sum (get_or c.args.out.now k 0))
    (looked_up-product c.args.c table (get_or input k 0) c.half_products-table.ensures (c.type_inv.input k).fits)
