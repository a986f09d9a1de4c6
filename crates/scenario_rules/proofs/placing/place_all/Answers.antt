use Rattle.std.proofs.Common.{◌≤◌, [], length, List, ℕ, refl, subst, arith}
use Rattle.scenario_rules.specs.Places.{all_places, script_places, IsOpStop}
use Rattle.scenario_rules.proofs.PlacedTexts.{Placing-start, Placing-actor, Placing-end, stopped_too, all_read, all_places-here, all_places-past}
use Rattle.scenario_rules.proofs.placing.place_all.Goals as goal

pub loop-texts-init : goal.loop-texts-init
loop-texts-init c = record {
  number = refl;
  placing = Placing-start (all_places c.args.actors.now 1) _ [] c.new-placed.result refl c.new-placed.ensures;
}

pub returns-in_err-place_script-clause-stopped : goal.returns-in_err-place_script-clause-stopped
returns-in_err-place_script-clause-stopped c =
    let stop : IsOpStop (script_places c.texts-item.result c.loop-texts.actor 1) c.in_err-place_script.field-0.0 =
    subst (λ (t : List (List ℕ)). IsOpStop (script_places t c.loop-texts.actor 1) c.in_err-place_script.field-0.0) c.as_slice.ensures c.in_err-place_script.ensures.stopped in
    stopped_too c.from_residual.result c.in_err-place_script.field-0.0 _ _ _ _ _ _ c.from_residual.ensures.1
    (all_places-here c.args.actors.now c.loop-texts.texts-index c.texts-item.result c.loop-texts.actor c.loop-texts-test.true c.texts-item.is)
    stop c.loop-texts.invariant.placing

pub loop-texts-preserved : goal.loop-texts-preserved
loop-texts-preserved c =
    let number = c.loop-texts.invariant.number in
    record {
      number = omega (arith, number);
      placing =
          Placing-actor _ _ _ _ _ _ c.texts-item.result c.as_slice.result.now c.loop-texts.actor c.as_slice.ensures
          (all_places-here c.args.actors.now c.loop-texts.texts-index c.texts-item.result c.loop-texts.actor c.loop-texts-test.true c.texts-item.is)
          c.in_ok-place_script.ensures.found c.loop-texts.invariant.placing;
    }

pub returns-clause-found : goal.returns-clause-found
returns-clause-found c =
    let past : length c.args.actors.now ≤ c.loop-texts.texts-index = omega arith in
    all_read _ _ (Placing-end _ _ _ _ (all_places-past c.args.actors.now c.loop-texts.texts-index c.loop-texts.actor past) c.loop-texts.invariant.placing)
