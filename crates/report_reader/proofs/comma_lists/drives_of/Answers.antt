use Rattle.std.specs.List.{AllByRecursion}
use Rattle.std.proofs.Common.{◌≡◌, ◌∙◌, ℕ, ◌≤◌, List, length, subst, sym, rules}
use Rattle.domains.specs.Drive.{Drive, IsDrive}
use Rattle.scenario.specs.Ops.{drive_text}
use Rattle.report_reader.proofs.Parted.{Parted, all_push, empty, ends, nonempty, drive_piece, starts, step}
use Rattle.report_reader.proofs.WordsTold.{drives_text-is}
use Rattle.report_reader.proofs.comma_lists.drives_of.Goals as goal

pub drives-init : goal.drives-init
drives-init c = (
  search rules,
  (
    λ all are is. subst (λ (xs : List Drive). Parted drive_text IsDrive all xs c.elements-rest.result.now) (sym c.new-drives.ensures.items)
        (starts drive_text IsDrive drive_piece all are c.args.text.now c.elements-rest.result.now (is ∙ drives_text-is all) c.elements-rest.ensures.dash c.elements-rest.ensures.other),
    subst (AllByRecursion IsDrive) (sym c.new-drives.ensures.items) tt,
  ),
)

pub drives-preserved : goal.drives-preserved
drives-preserved c = (
  search rules,
  (
    λ all are is.
        let some : 1 ≤ length c.drives.rest.now = nonempty c.drives.rest.now (sym c.is_empty.ensures ∙ c.drives-test.true) in
        subst (λ (xs : List Drive). Parted drive_text IsDrive all xs c.cut.result.1.now) (sym c.in_ok-push.ensures.items)
        (step drive_text IsDrive drive_piece all c.drives.drives.items c.drives.rest.now c.cut.result.0.now c.cut.result.1.now c.drive_of.result (c.drives.invariant.1.0 all are is) some
        c.cut.ensures.at c.cut.ensures.none c.drive_of.ensures.only),
    subst (AllByRecursion IsDrive) (sym c.in_ok-push.ensures.items) (all_push IsDrive c.drives.drives.items c.drive_of.result c.drives.invariant.1.1 c.drive_of.ensures.fits),
  ),
)

pub returns-clause-only : goal.returns-clause-only
returns-clause-only c = λ all are is.
    ends drive_text IsDrive drive_piece all c.drives.drives.items c.drives.rest.now (c.drives.invariant.1.0 all are is) (empty c.drives.rest.now (sym c.is_empty.ensures ∙ c.drives-test.false))
