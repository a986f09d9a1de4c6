use Rattle.std.proofs.Common.{◌≡◌, ◌+◌, ◌++◌, List, length, reverse, vec_len, vec_capacity}
use Rattle.map_changes.proofs.run.pop_run.Given as goal

abbrev pub invariant-loop-done : goal.invariant-loop-done
invariant-loop-done g l =
    ((run : List g.row.T.Denot) × (l.initial.items.items ≡ l.items.items ++ run) × (length run ≡ l._done) × (l.gone.items ≡ l.initial.gone.items ++ reverse run))
    × (vec_capacity l.items ≡ vec_capacity l.initial.items) × (vec_capacity l.gone ≡ vec_capacity l.initial.gone)
    × (vec_len l.items + l._done ≡ vec_len l.initial.items) × (vec_len l.gone ≡ vec_len l.initial.gone + l._done)
