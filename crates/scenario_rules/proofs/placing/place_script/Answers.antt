use Rattle.std.proofs.Common.{◌≤◌, length, List, ℕ, refl, sym, ap, ◌∙◌, subst, arith}
use Rattle.std.specs.Result.{is_ok}
use Rattle.scenario_rules.specs.Places.{script_places, SpellsOnly}
use Rattle.scenario_rules.proofs.PlacedTexts.{on_ok, Placing-start, Placing-step, Placing-end, script_places-here, script_places-past}
use Rattle.scenario_rules.proofs.placing.place_script.Goals as goal

pub loop-text-init : goal.loop-text-init
loop-text-init c = record {
  number = refl;
  placing = Placing-start (script_places c.args.texts.now c.args.actor 1) _ c.args.placed.now c.args.placed.now refl refl;
}

pub loop-text-preserved : goal.loop-text-preserved
loop-text-preserved c =
    let spells : SpellsOnly c.text-item.result c.in_ok-what.what = subst (λ (t : List ℕ). SpellsOnly t c.in_ok-what.what) c.as_str.ensures c.in_ok-what.ensures.found in
    let pushed = on_ok c.push.result (sym c.map_err.ensures.variant ∙ ap is_ok c.in_ok-map_err.was) c.push.ensures.ok in
    let number = c.loop-text.invariant.number in
    record {
      number = omega (arith, number);
      placing =
          Placing-step _ _ _ _ _ _ _ _ (script_places-here c.args.texts.now c.loop-text.text-index c.text-item.result c.args.actor c.loop-text.op c.loop-text-test.true c.text-item.is)
          pushed refl spells c.loop-text.invariant.placing;
    }

pub returns-clause-found : goal.returns-clause-found
returns-clause-found c =
    let past : length c.args.texts.now ≤ c.loop-text.text-index = omega arith in
    Placing-end _ _ _ _ (script_places-past c.args.texts.now c.loop-text.text-index c.args.actor c.loop-text.op past) c.loop-text.invariant.placing
