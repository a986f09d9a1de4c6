use Rattle.std.specs.List.{AllByRecursion}
use Rattle.std.proofs.Common.{◌≡◌, ◌∙◌, ℕ, ◌≤◌, List, length, subst, sym, rules}
use Rattle.report_reader.specs.Lines.{IsGeneration}
use Rattle.std.specs.Fmt.{decimal}
use Rattle.report_reader.proofs.Parted.{Parted, all_push, empty, ends, nonempty, generation_piece, starts, step}
use Rattle.report_reader.proofs.WordsTold.{numbers_text-is}
use Rattle.report_reader.proofs.comma_lists.generations_of.Goals as goal

pub generations-init : goal.generations-init
generations-init c = (
  search rules,
  (
    λ all are is. subst (λ (xs : List ℕ). Parted decimal IsGeneration all xs c.elements-rest.result.now) (sym c.new-generations.ensures.items)
        (starts decimal IsGeneration generation_piece all are c.args.text.now c.elements-rest.result.now (is ∙ numbers_text-is all) c.elements-rest.ensures.dash c.elements-rest.ensures.other),
    subst (AllByRecursion IsGeneration) (sym c.new-generations.ensures.items) tt,
  ),
)

pub generations-preserved : goal.generations-preserved
generations-preserved c = (
  search rules,
  (
    λ all are is.
        let some : 1 ≤ length c.generations.rest.now = nonempty c.generations.rest.now (sym c.is_empty.ensures ∙ c.generations-test.true) in
        subst (λ (xs : List ℕ). Parted decimal IsGeneration all xs c.cut.result.1.now) (sym c.in_ok-push.ensures.items)
        (step decimal IsGeneration generation_piece all c.generations.generations.items c.generations.rest.now c.cut.result.0.now c.cut.result.1.now c.u32_of.result (c.generations.invariant.1.0 all are is) some
        c.cut.ensures.at c.cut.ensures.none c.u32_of.ensures),
    subst (AllByRecursion IsGeneration) (sym c.in_ok-push.ensures.items) (all_push IsGeneration c.generations.generations.items c.u32_of.result c.generations.invariant.1.1 (search rules)),
  ),
)

pub returns-clause-only : goal.returns-clause-only
returns-clause-only c = λ all are is.
    ends decimal IsGeneration generation_piece all c.generations.generations.items c.generations.rest.now (c.generations.invariant.1.0 all are is) (empty c.generations.rest.now (sym c.is_empty.ensures ∙ c.generations-test.false))
