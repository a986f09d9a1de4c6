use Rattle.std.proofs.Common.{inl, inr, refl}
use Rattle.scenario_table.proofs.members.take_number_or.Goals as goal

pub returns-then-is_first-clause-only : goal.returns-then-is_first-clause-only
returns-then-is_first-clause-only c = λ n rest is.
    let first = c.if-is_first.ensures.found refl in
    elim is [ inl here ↦ c.take_number.ensures.only n rest here | inr other ↦ absurd (other.2 first.0 first.1 first.2) ]
