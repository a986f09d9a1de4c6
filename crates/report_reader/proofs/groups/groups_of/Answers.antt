use Rattle.std.specs.List.{AllByRecursion}
use Rattle.std.proofs.Common.{◌≡◌, codes, List, ◌∙◌, sym, subst, refl, rules}
use Rattle.domains.specs.declared.group.Group.{Group}
use Rattle.report_reader.specs.Lines.{IsGroup, groups_tail}
use Rattle.report_reader.proofs.Cuts.{told_apart, told_same}
use Rattle.report_reader.proofs.GroupsParted.{GroupsParted, groups_end, groups_never, groups_step}
use Rattle.report_reader.proofs.Parted.{all_push, empty}
use Rattle.report_reader.proofs.groups.groups_of.Goals as goal

pub groups-init : goal.groups-init
groups-init c = (
  search rules,
  (
    λ all i are is. record { left = all; whole = rw c.new-groups.ensures.items refl; are = are; is = c.groups_part-rest.ensures all i are is },
    subst (AllByRecursion IsGroup) (sym c.new-groups.ensures.items) tt,
  ),
)

pub groups-preserved : goal.groups-preserved
groups-preserved c = (
  search rules,
  (
    λ all i are is.
        subst (λ (xs : List Group). GroupsParted all i xs c.cut.result.1.now) (sym c.in_ok-push.ensures.items)
        (groups_step all i c.groups.groups.items c.groups.rest.now c.cut.result.0.now c.cut.result.1.now c.in_ok-group.group (c.groups.invariant.1.0 all i are is)
        c.cut.ensures.at (λ same. told_apart c.cut.result.0.now (codes "inode") same (sym c.eq.ensures ∙ c.if-eq.false)) c.in_ok-group.ensures.only),
    subst (AllByRecursion IsGroup) (sym c.in_ok-push.ensures.items) (all_push IsGroup c.groups.groups.items c.in_ok-group.group c.groups.invariant.1.1 c.in_ok-group.ensures.fits),
  ),
)

pub returns-then-eq-clause-only : goal.returns-then-eq-clause-only
returns-then-eq-clause-only c = λ gs i are is.
    groups_end gs i c.groups.groups.items c.groups.rest.now c.cut.result.0.now c.cut.result.1.now (c.groups.invariant.1.0 gs i are is) c.cut.ensures.at
    (told_same c.cut.result.0.now (codes "inode") (sym c.eq.ensures ∙ c.if-eq.true))

pub returns-clause-only : goal.returns-clause-only
returns-clause-only c = λ gs i are is.
    absurd (groups_never gs i c.groups.groups.items c.groups.rest.now (c.groups.invariant.1.0 gs i are is) (empty c.groups.rest.now (sym c.is_empty.ensures ∙ c.groups-test.false)))
