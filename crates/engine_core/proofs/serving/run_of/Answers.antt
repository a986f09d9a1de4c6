use Rattle.std.proofs.Common.{◌≡◌, ℕ, ◌+◌, true, false, sym, ap, ◌∙◌, arith, rules}
use Rattle.engine_core.proofs.TaskLemmas.{run_ends, run_full, run_goes, run_stops}
use Rattle.engine_core.proofs.serving.run_of.Goals as goal

pub returns-then-count-most : goal.returns-then-count-most
returns-then-count-most c = run_full c.args.most c.loop-item.count c.loop-item.item-index c.args.items.now c.loop-item.invariant.run c.if-count-most.true

pub returns-then-not-is_to_do : goal.returns-then-not-is_to_do
returns-then-not-is_to_do c =
    let other : c.is_to_do.result ≡ false = search rules in
    run_stops c.args.most c.loop-item.count c.loop-item.item-index c.args.items.now _ c.loop-item.invariant.run (omega (arith, c.if-count-most.false, c.loop-item.invariant.count)) c.loop-item-test.true (sym c.is_to_do.ensures ∙ other)

pub loop-item-preserved : goal.loop-item-preserved
loop-item-preserved c =
    let here : c.is_to_do.result ≡ true = search rules in record {
      count = omega (arith, c.if-count-most.false, c.loop-item.invariant.count);
      same = ap (λ (n : ℕ). n + 1) c.loop-item.invariant.same;
      run = run_goes c.args.most c.loop-item.count c.loop-item.item-index c.args.items.now _ c.loop-item.invariant.run c.loop-item-test.true (sym c.is_to_do.ensures ∙ here);
    }

pub returns : goal.returns
returns c = run_ends c.args.most c.loop-item.count c.loop-item.item-index c.args.items.now c.loop-item.invariant.run c.loop-item.invariant.count c.loop-item-test.false
