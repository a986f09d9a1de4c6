use Rattle.std.proofs.Common.{List, ℕ, refl, subst}
use Rattle.scenario_rules.specs.Places.{all_places, AreOps}
use Rattle.scenario_rules.proofs.RuleOrder.{OpsOf-given, all_kept, failed_too, ops_fault}
use Rattle.scenario_rules.proofs.reading.named_of.Goals as goal

pub returns-in_err-check_ops-clause-refused : goal.returns-in_err-check_ops-clause-refused
returns-in_err-check_ops-clause-refused c =
    let of =
    OpsOf-given c.args.draft.now c.in_ok-outline.outline.shape c.in_ok-outline.outline.files c.as_slice-2.result.now c.in_ok-ops.ops c.as_slice-3.result.now
    c.as_slice.result.now c.in_ok-outline.ensures.shape.0 c.as_slice-2.ensures c.in_ok-outline.ensures.files c.as_slice-3.ensures c.as_slice.ensures c.in_ok-ops.ensures.found in
    failed_too c.from_residual-in_err-check_ops.result c.in_err-check_ops.field-0.0 _ c.from_residual-in_err-check_ops.ensures.1
    (ops_fault c.args.draft.now c.in_ok-outline.outline.shape c.as_slice-2.result.now c.as_slice-3.result.now c.in_err-check_ops.field-0.0
    (c.in_ok-outline.ensures.kept refl) of c.in_err-check_ops.ensures.refused)

pub returns-clause-found : goal.returns-clause-found
returns-clause-found c =
    let of =
    OpsOf-given c.args.draft.now c.in_ok-outline.outline.shape c.in_ok-outline.outline.files c.as_slice-2.result.now c.in_ok-ops.ops c.as_slice-3.result.now
    c.as_slice.result.now c.in_ok-outline.ensures.shape.0 c.as_slice-2.ensures c.in_ok-outline.ensures.files c.as_slice-3.ensures c.as_slice.ensures c.in_ok-ops.ensures.found in
    record {
      kept =
          all_kept c.args.draft.now c.in_ok-outline.outline.shape c.as_slice-2.result.now c.as_slice-3.result.now (c.in_ok-outline.ensures.kept refl) of
          (c.in_ok-check_ops.ensures.kept refl);
      shape = c.in_ok-outline.ensures.shape.0;
      workers = c.in_ok-outline.ensures.shape.1;
      files = c.in_ok-outline.ensures.files;
      actors = c.len.ensures;
      ops = subst (λ (as_ : List (List (List ℕ))). AreOps (all_places as_ 1) c.in_ok-ops.ops) c.as_slice.ensures c.in_ok-ops.ensures.found;
    }
