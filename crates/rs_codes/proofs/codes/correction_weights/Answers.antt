use Rattle.std.proofs.Common.{◌+◌, ◌∷◌, length-append, ℕ, List, [], length, ap, sym, subst, ◌∙◌}
use Rattle.rs_codes.specs.Weights.{AreWeights}
use Rattle.rs_codes.specs.Units.{UnitList}
use Rattle.rs_codes.proofs.UnitBuffers.{unit_list}
use Rattle.rs_codes.proofs.WeightRows.{rows_none, rows_more}
use Rattle.rs_codes.proofs.codes.correction_weights.Goals as goal

pub loop-correction-init : goal.loop-correction-init
loop-correction-init c = record {
  first = c.in_ok-positions.ensures;
  count = ap (λ (v : UnitList). length v.units) c.new-rows.ensures;
  rows = rows_none c.args.n c.in_ok-positions.positions.items c.new-rows.result (c.new-rows.ensures ∙ ap (λ (l : ℕ). unit_list l []) c.from.ensures);
}

pub loop-correction-preserved : goal.loop-correction-preserved
loop-correction-preserved c =
    let r = c.loop-correction.correction in
    let ps = c.in_ok-positions.positions.items in
    let ws = c.deref-in-loop-correction.result.now in
    let P : List ℕ → Type 0 = λ l. AreWeights l (c.args.n + r) ws in
    let weights = subst P c.deref.ensures.value (subst (AreWeights c.deref.result.now (c.args.n + r)) (sym c.deref-in-loop-correction.ensures.value) c.in_ok-row.ensures) in
    record {
      first = c.loop-correction.invariant.first;
      count = ap (λ (v : UnitList). length v.units) c.in_ok-push.ensures.ok ∙ length-append c.loop-correction.rows.units (ws ∷ []) ∙ ap (λ (n : ℕ). n + 1) c.loop-correction.invariant.count;
      rows = rows_more c.args.n r ps ws c.loop-correction.rows c.push.new.self c.loop-correction.invariant.rows c.loop-correction.invariant.count
          weights c.in_ok-push.ensures.ok;
    }

pub returns-clause-weights : goal.returns-clause-weights
returns-clause-weights c = record {
  positions = c.in_ok-positions.positions.items;
  first = c.loop-correction.invariant.first;
  width = c.loop-correction.invariant.rows.width;
  each = c.loop-correction.invariant.rows.each;
}
