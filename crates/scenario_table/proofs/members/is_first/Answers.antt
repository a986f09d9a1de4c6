use Rattle.std.proofs.Common.{◌∙◌, sym}
use Rattle.std.proofs.lemmas.Bool.Decides.{Decides-eqb}
use Rattle.std.proofs.lemmas.Slice.Eq.{slice_eq-Decides}
use Rattle.scenario_table.proofs.TableViews.{members_view-first_key, first_key-members_view}
use Rattle.scenario_table.proofs.members.is_first.Goals as goal

pub returns-in-Some-clause-found : goal.returns-in-Some-clause-found
returns-in-Some-clause-found c = λ yes.
    members_view-first_key c.args.members.now.entries (c.in-Some.first.now, c.in-Some.field-0-1.now) c.args.key.now c.in-Some.ensures.first
    (sym c.as_str.ensures.value ∙ (slice_eq-Decides Decides-eqb c.as_str.result.now c.args.key.now c.eq.result c.eq.ensures).0 yes)

pub returns-in-Some-clause-none : goal.returns-in-Some-clause-none
returns-in-Some-clause-none c = λ d rest there.
    (slice_eq-Decides Decides-eqb c.as_str.result.now c.args.key.now c.eq.result c.eq.ensures).1
    (c.as_str.ensures.value ∙ first_key-members_view c.args.members.now.entries (c.in-Some.first.now, c.in-Some.field-0-1.now) c.args.key.now d rest c.in-Some.ensures.first there)
