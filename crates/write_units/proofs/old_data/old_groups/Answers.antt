use Rattle.std.proofs.Common.{subst, sym}
use Rattle.std.specs.List.{AllByRecursion}
use Rattle.write_units.specs.GroupUnits.{IsOldGroup}
use Rattle.write_units.proofs.old_data.old_groups.Goals as goal

pub returns-clause-shown : goal.returns-clause-shown
returns-clause-shown c = λ bytes shows.
    c.in_ok-push_groups.ensures.shown bytes shows (subst (AllByRecursion (IsOldGroup bytes)) (sym c.new-old.ensures.items) tt)
