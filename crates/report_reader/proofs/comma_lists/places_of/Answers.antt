use Rattle.std.specs.List.{AllByRecursion}
use Rattle.std.proofs.Common.{◌≡◌, ◌∙◌, ℕ, ◌≤◌, List, length, subst, sym, rules}
use Rattle.domains.specs.Place.{Place, IsPlace}
use Rattle.report.specs.Words.{place_text}
use Rattle.report_reader.proofs.Parted.{Parted, all_push, empty, ends, nonempty, place_piece, starts, step}
use Rattle.report_reader.proofs.WordsTold.{places_text-is}
use Rattle.report_reader.proofs.comma_lists.places_of.Goals as goal

pub places-init : goal.places-init
places-init c = (
  search rules,
  (
    λ all are is. subst (λ (xs : List Place). Parted place_text IsPlace all xs c.elements-rest.result.now) (sym c.new-places.ensures.items)
        (starts place_text IsPlace place_piece all are c.args.text.now c.elements-rest.result.now (is ∙ places_text-is all) c.elements-rest.ensures.dash c.elements-rest.ensures.other),
    subst (AllByRecursion IsPlace) (sym c.new-places.ensures.items) tt,
  ),
)

pub places-preserved : goal.places-preserved
places-preserved c = (
  search rules,
  (
    λ all are is.
        let some : 1 ≤ length c.places.rest.now = nonempty c.places.rest.now (sym c.is_empty.ensures ∙ c.places-test.true) in
        subst (λ (xs : List Place). Parted place_text IsPlace all xs c.cut.result.1.now) (sym c.in_ok-push.ensures.items)
        (step place_text IsPlace place_piece all c.places.places.items c.places.rest.now c.cut.result.0.now c.cut.result.1.now c.place_of.result (c.places.invariant.1.0 all are is) some
        c.cut.ensures.at c.cut.ensures.none c.place_of.ensures.only),
    subst (AllByRecursion IsPlace) (sym c.in_ok-push.ensures.items) (all_push IsPlace c.places.places.items c.place_of.result c.places.invariant.1.1 c.place_of.ensures.fits),
  ),
)

pub returns-clause-only : goal.returns-clause-only
returns-clause-only c = λ all are is.
    ends place_text IsPlace place_piece all c.places.places.items c.places.rest.now (c.places.invariant.1.0 all are is) (empty c.places.rest.now (sym c.is_empty.ensures ∙ c.places-test.false))
