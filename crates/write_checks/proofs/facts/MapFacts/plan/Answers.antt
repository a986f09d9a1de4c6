use Rattle.std.proofs.Common.{rules, ℕ, Option, Some, ap, subst, sym, ◌∙◌}
use Rattle.domains.specs.DriveSet.{has}
use Rattle.write_checks.proofs.WidthsFound.{no_width, width_is}
use Rattle.write_checks.specs.Plans.{IsPlan}
use Rattle.write_checks.proofs.facts.MapFacts.plan.Goals as goal

pub returns-in-Ok : goal.returns-in-Ok
returns-in-Ok c now l are =
    let f = c.args.self.now.file in
    let P : ℕ → Type 0 = λ n. IsPlan c.plan_of_width.result now l c.args.offset c.args.len n in
    record {
      wide = sym (width_is f.shape f.usable.now now l f.requested c.unit-unit.ensures.within are.file.usable_is are.file.requested_is)
          ∙ c.in-Ok.ensures.ok ∙ ap (λ (n : ℕ). let o : Option ℕ = Some n in o) (sym c.plan_of_width.ensures.width);
      plan = subst P (sym c.plan_of_width.ensures.width) (c.plan_of_width.ensures.plan now l are);
    }

pub returns-in-Err : goal.returns-in-Err
returns-in-Err c now l are =
    let f = c.args.self.now.file in
    sym (width_is f.shape f.usable.now now l f.requested c.unit-unit.ensures.within are.file.usable_is are.file.requested_is)
    ∙ no_width f.requested f.shape (has f.usable.now) (λ enough. search (rules, c.in-Err.ensures.accepts.1 enough))
