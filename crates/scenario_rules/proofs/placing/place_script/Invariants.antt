use Rattle.std.proofs.Common.{◌≡◌, ◌+◌, drop}
use Rattle.scenario_rules.specs.Places.{script_places}
use Rattle.scenario_rules.proofs.PlacedTexts.{Placing}
use Rattle.scenario_rules.proofs.placing.place_script.Given as goal

abbrev pub invariant-loop-text : goal.invariant-loop-text
invariant-loop-text l = record {
  number : l.op ≡ l.text-index + 1;
  placing : Placing (script_places l.texts l.actor 1) (script_places (drop l.text-index l.texts) l.actor l.op) l.fn.placed l.placed;
}
