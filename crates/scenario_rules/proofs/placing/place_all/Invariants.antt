use Rattle.std.proofs.Common.{◌≡◌, ◌+◌, [], drop}
use Rattle.scenario_rules.specs.Places.{all_places}
use Rattle.scenario_rules.proofs.PlacedTexts.{Placing}
use Rattle.scenario_rules.proofs.placing.place_all.Given as goal

abbrev pub invariant-loop-texts : goal.invariant-loop-texts
invariant-loop-texts l = record {
  number : l.actor ≡ l.texts-index + 1;
  placing : Placing (all_places l.actors 1) (all_places (drop l.texts-index l.actors) l.actor) [] l.placed;
}
