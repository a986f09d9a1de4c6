use Rattle.std.proofs.Common.{◌≡◌, ◌+◌, drop}
use Rattle.std.specs.List.{position_or_len}
use Rattle.engine_history.specs.Items.{is_out}
use Rattle.engine_core.proofs.outs.first_out_among.Given as goal

abbrev pub invariant-loop-item : goal.invariant-loop-item
invariant-loop-item l = record { whole : l.before + position_or_len is_out (drop l.item-index l.items) ≡ position_or_len is_out l.items; same : l.before ≡ l.item-index }
