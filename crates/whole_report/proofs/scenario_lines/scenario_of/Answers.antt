use Rattle.whole_report.proofs.OneScenario.{kept_only, refused_none, spells_here}
use Rattle.whole_report.proofs.scenario_lines.scenario_of.Goals as goal

pub returns-in-Ok-clause-only : goal.returns-in-Ok-clause-only
returns-in-Ok-clause-only c =
    kept_only c.canonical_text_spells.ensures c.args.text.now c.in-Ok.scenario c.kept_if_canonical.result c.in-Ok.ensures.only c.kept_if_canonical.ensures.only

pub returns-in-Err-Bad-clause-only : goal.returns-in-Err-Bad-clause-only
returns-in-Err-Bad-clause-only c = λ s kept is.
    absurd (refused_none c.read.result c.in-Err-Bad.field-0 c.in-Err-Bad.field-0-0 s c.in-Err-Bad.is c.in-Err-Bad.field-0-is
    (c.read.ensures.only s (spells_here c.canonical_text_spells.ensures c.args.text.now s kept is)))
