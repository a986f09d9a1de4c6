use Rattle.std.proofs.Common.{ℕ, get_or, sym, ap, ◌∙◌, arith}
use Rattle.galois.specs.Field.{field_product}
use Rattle.galois.proofs.FieldProducts.{zero-product, product-zero}
use Rattle.galois.proofs.TableEntries.{product_by_tables}
use Rattle.galois.proofs.field.mul.Goals as goal
use Rattle.galois.proofs.field.mul.Goals.{then-a-eq0-via-then-a-eq0, then-a-eq0-via-else-a-eq0+then-b-eq0}

pub returns-then-a-eq0 : goal.returns-then-a-eq0
returns-then-a-eq0 c =
    elim c.then-a-eq0.branch [
      | then-a-eq0-via-then-a-eq0 w ↦ sym (ap (λ n. field_product n c.args.b) w.if-a-eq0.true ∙ zero-product c.args.b)
      | then-a-eq0-via-else-a-eq0+then-b-eq0 w ↦ sym (ap (field_product c.args.a) w.if-b-eq0.true ∙ product-zero c.args.a (omega arith))
    ]

pub returns : goal.returns
returns c =
    let table = c.logarithms-logarithms.result.now in
    product_by_tables table c.powers.result.now c.args.a c.args.b c.from-2.result c.from-4.result
    c.logarithms-logarithms.ensures c.powers.ensures (omega arith) (omega arith) (omega arith) (omega arith)
    (c.from-2.ensures ∙ ap (λ (i : ℕ). get_or table i 0) c.from.ensures)
    (c.from-4.ensures ∙ ap (λ (i : ℕ). get_or table i 0) c.from-3.ensures)
