use Rattle.std.proofs.Common.{rules, sym, refl, ◌∙◌}
use Rattle.std.proofs.lemmas.Bool.{false≢true}
use Rattle.domains.specs.DriveSet.{has}
use Rattle.domains.specs.Level.{IsLevel}
use Rattle.write_plans.proofs.WidthsFound.{some_wide, too_few, width_found}
use Rattle.write_plans.proofs.plan.plan_write.Goals as goal

pub plan_of_width-requires-clause-wide : goal.plan_of_width-requires-clause-wide
plan_of_width-requires-clause-wide g c κs within =
    width_found c.args.file.now c.args.view.now c.args.look.now _ c.args.usable.now c.requires.file.cluster c.requires.look c.requires.usable
    c.args.shape.now c.requires.shape c.in-Ok.most c.in-Ok.ensures.ok

pub plan_of_width-requires-clause-some_wide : goal.plan_of_width-requires-clause-some_wide
plan_of_width-requires-clause-some_wide g c κs within =
    let level : IsLevel c.args.look.now.level = search rules in
    some_wide c.args.look.now.level c.args.shape.now (has c.args.usable.now) c.in-Ok.most level (c.in-Ok.ensures.accepts.0 refl) c.in-Ok.ensures.ok

pub returns-in-Err : goal.returns-in-Err
returns-in-Err g c = record {
  tells = (
    sym c.requires.look.present ∙ c.if-not-look.false,
    too_few c.args.file.now c.args.view.now c.args.look.now _ c.args.usable.now c.requires.file.cluster c.requires.look c.requires.usable
        c.args.shape.now c.requires.shape c.in-Err.fault c.in-Err.ensures.too_few.0 c.in-Err.ensures.too_few.1
        (λ enough. false≢true (c.in-Err.ensures.accepts.1 enough)),
  );
}
