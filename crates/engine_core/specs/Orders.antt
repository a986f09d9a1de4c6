-- What an order tells the one who gave it.
use Rattle.std.specs.Prelude.{Result, Ok, Err}
use Rattle.engine_history.specs.declared.entry.OrderEffect.{OrderEffect}
use Rattle.engine_history.specs.declared.entry.OrderEffect.TheVariants as effect
use Rattle.engine_core.specs.declared.orders.NotActive.{NotActive}
use Rattle.engine_core.specs.declared.orders.Told.{Told}
use Rattle.engine_core.specs.declared.orders.Told.TheVariants.{Changed, Same}

abbrev pub effect_told : Result Told NotActive → OrderEffect
effect_told (Ok Changed) = effect.Changed
effect_told (Ok Same) = effect.Same
effect_told (Err refused) = effect.NotActive
