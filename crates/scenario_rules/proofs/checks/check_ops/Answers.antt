use Rattle.std.proofs.Common.{[], ◌∷◌, refl, sym, ◌∙◌}
use Rattle.operation_rules.specs.OpRules.{file_names}
use Rattle.scenario_rules.specs.Rules.{OpsBreak}
use Rattle.scenario_rules.specs.declared.rule.Rule.TheVariants.{Name, Drive, Job, Jobs, Reads, Unbuilt}
use Rattle.scenario_rules.proofs.RuleOrder.{bad_at, failed_too, if_err, no_place_found}
use Rattle.scenario_rules.proofs.checks.check_ops.Goals as goal

pub returns-in_err-names_declared-clause-refused : goal.returns-in_err-names_declared-clause-refused
returns-in_err-names_declared-clause-refused c =
    let breaks = OpsBreak c.args.shape (file_names c.args.files.now) c.args.ops.now in
    failed_too c.from_residual.result c.in_err-names_declared.field-0.0 _ c.from_residual.ensures.1
    (bad_at breaks [] Name (Drive ∷ Job ∷ Jobs ∷ Reads ∷ Unbuilt ∷ []) _ c.in_err-names_declared.field-0.0 c.in_err-names_declared.ensures.broken (λ p is. is) tt)

pub returns-in_err-unbroken-clause-refused : goal.returns-in_err-unbroken-clause-refused
returns-in_err-unbroken-clause-refused c =
    let breaks = OpsBreak c.args.shape (file_names c.args.files.now) c.args.ops.now in
    let first = no_place_found _ _ refl (c.in_ok-names_declared.ensures.kept refl) in
    failed_too c.from_residual-in_err-unbroken.result c.in_err-unbroken.field-0.0 _ c.from_residual-in_err-unbroken.ensures.1
    (bad_at breaks (Name ∷ []) Drive (Job ∷ Jobs ∷ Reads ∷ Unbuilt ∷ []) c.first_outside.result c.in_err-unbroken.field-0.0 c.in_err-unbroken.ensures.broken
    (λ p is. sym c.first_outside.ensures ∙ is) (first, tt))
