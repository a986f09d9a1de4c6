use Rattle.engine_history.proofs.BegunItems.{none_touches}
use Rattle.engine_history.proofs.laws.what_a_seat_has_begun_no_other_touches.Goals as goal

pub returns : goal.returns
returns c = none_touches
