use Rattle.std.proofs.Common.{◌≡◌, ℕ, ◌+◌, ◌*◌, [], get_or, subst, ap, refl, arith, ◌∙◌}
use Rattle.lane_kernels.specs.Rows.{PutsColumns, row_total}
use Rattle.lane_kernels.proofs.RowLemmas.{PutsColumns-then}
use Rattle.lane_kernels.proofs.rows.put_block.Goals as goal

pub loop-part-preserved : goal.loop-part-preserved
loop-part-preserved g c =
    let part = c.loop-part.part in
    let at = c.args.at in
    let width = part * 32 in
    let next : width + 32 ≡ (part + 1) * 32 = omega arith in
    let total : ℕ → ℕ → ℕ = λ r k. row_total c.args.tables.now g.row.M r c.args.inputs.now c.args.len k c.args.count in
    let value : ℕ → ℕ → ℕ = λ r k. total r (at + k) in
    let sums = get_or c.block_sums-sums.result part [] in
    subst (λ n. PutsColumns g.row.M c.args.len at n value c.args.out.now c.put_vectors.new.out) next
    (PutsColumns-then g.row.M c.args.len at width (at + width) 32 value (λ r k. get_or (get_or sums r []) k 0) c.args.out.now
    c.loop-part.out c.put_vectors.new.out refl c.loop-part.invariant c.put_vectors.ensures
    (λ r k below within. ((c.block_sums-sums.ensures part (omega arith)).row r below).each k within ∙ ap (total r) (omega arith)))
