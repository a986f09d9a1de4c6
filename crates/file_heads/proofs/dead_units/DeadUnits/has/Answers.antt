use Rattle.std.proofs.Common.{◌+◌, ◌-◌, ◌∙◌, List, ap, drop, subst, take}
use Rattle.file_history.specs.Layout.{Unit_}
use Rattle.file_heads.specs.DeadUnits.{DeadList, StartsAt, names}
use Rattle.file_heads.proofs.DeadUnitLookups.{names-between}
use Rattle.file_heads.proofs.dead_units.DeadUnits.has.Goals as goal

pub returns : goal.returns
returns c =
    let units = c.self.inside.units.items in
    let range = c.range_of-start.result in
    let starts = subst (λ (us : List Unit_). StartsAt us c.args.generation range.0) c.deref.ensures.value c.range_of-start.ensures.start in
    let ends = subst (λ (us : List Unit_). StartsAt us (c.args.generation + 1) range.1) c.deref.ensures.value c.range_of-start.ensures.end in
    c.names.ensures
    ∙ ap (λ (us : List Unit_). names (take (range.1 - range.0) (drop range.0 us)) c.args.generation c.args.position) c.deref-2.ensures.value
    ∙ names-between units c.args.generation c.args.position range.0 range.1 starts ends
    ∙ ap (λ (d : DeadList). names d.items c.args.generation c.args.position) c.self.view_is
