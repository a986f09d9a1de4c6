use Rattle.std.proofs.Common.{length, refl}
use Rattle.write_checks.proofs.PlanLemmas.{plan_is, run_is, run_small}
use Rattle.write_checks.proofs.facts.MapFacts.plan_of_width.Goals as goal

pub groups_after-groups-requires-clause-few : goal.groups_after-groups-requires-clause-few
groups_after-groups-requires-clause-few c =
    let f = c.args.self.now in
    let some = c.requires.known in
    let run = c.replaced_run-run.result in
    run_small f some.now some.l some.are some.there c.args.offset c.args.len c.args.width run
    (run_is f some.now some.l some.are some.there c.args.offset c.args.len c.args.width run c.replaced_run-run.ensures.run) c.requires.within

pub returns-clause-plan : goal.returns-clause-plan
returns-clause-plan c now l are =
    let f = c.args.self.now in
    let there = c.requires.known.there in
    let run = c.replaced_run-run.result in
    plan_is f now l are there c.args.offset c.args.len c.args.width (length f.widths.now) c.groups_after-groups.result run
    (run_is f now l are there c.args.offset c.args.len c.args.width run c.replaced_run-run.ensures.run) refl c.groups_after-groups.ensures.count
