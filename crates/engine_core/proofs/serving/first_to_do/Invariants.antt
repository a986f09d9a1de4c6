use Rattle.std.proofs.Common.{◌≡◌, ◌+◌, drop}
use Rattle.std.specs.List.{position_or_len}
use Rattle.engine_history.specs.Items.{is_to_do}
use Rattle.engine_core.proofs.serving.first_to_do.Given as goal

abbrev pub invariant-loop-at : goal.invariant-loop-at
invariant-loop-at l = l.at + position_or_len is_to_do (drop l.at l.items) ≡ position_or_len is_to_do l.items
