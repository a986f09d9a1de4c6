use Rattle.std.proofs.Common.{[], ◌∷◌, refl, sym, ap, ◌∙◌}
use Rattle.scenario_rules.specs.Actors.{broken_actors}
use Rattle.scenario_rules.specs.Rules.{IsBroken, number_rules}
use Rattle.scenario_rules.specs.declared.rule.Rule.TheVariants.{Files, Actors}
use Rattle.scenario_rules.proofs.RuleOrder.{AllKept-join, failed_too, fault_within, file_fault, no_place_found, actors_short}
use Rattle.scenario_rules.proofs.checks.outline_of.Goals as goal

pub returns-in_err-numbers-clause-refused : goal.returns-in_err-numbers-clause-refused
returns-in_err-numbers-clause-refused c =
    failed_too c.from_residual.result c.in_err-numbers.field-0.0 _ c.from_residual.ensures.1
    (fault_within (IsBroken c.args.draft.now) number_rules (Files ∷ Actors ∷ []) c.in_err-numbers.field-0.0 c.in_err-numbers.ensures.refused)

pub returns-in_err-files-clause-refused : goal.returns-in_err-files-clause-refused
returns-in_err-files-clause-refused c =
    failed_too c.from_residual-in_err-files.result c.in_err-files.field-0.0 _ c.from_residual-in_err-files.ensures.1
    (file_fault c.args.draft.now c.in_err-files.field-0.0 (c.in_ok-numbers.ensures.kept refl) c.in_err-files.ensures.refused)

pub returns-clause-short : goal.returns-clause-short
returns-clause-short c = λ ok.
    actors_short c.args.draft.now.actors (ap broken_actors (sym c.as_slice.ensures) ∙ (sym c.broken_actors.ensures ∙ c.in_ok-unbroken.ensures.kept refl))

pub returns-clause-kept : goal.returns-clause-kept
returns-clause-kept c = λ ok.
    AllKept-join (IsBroken c.args.draft.now) number_rules (Files ∷ Actors ∷ []) (c.in_ok-numbers.ensures.kept refl) (
      λ p broken. broken.1 (c.in_ok-files.ensures.kept refl),
      (
        no_place_found c.broken_actors.result (broken_actors c.args.draft.now.actors) (c.broken_actors.ensures ∙ ap broken_actors c.as_slice.ensures)
            (c.in_ok-unbroken.ensures.kept refl),
        tt,
      ),
    )
