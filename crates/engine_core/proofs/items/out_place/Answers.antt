use Rattle.std.proofs.Common.{◌≡◌, ℕ, ◌+◌, ◌*◌, ◌<◌, ◌≤◌, length, Some, sym, ap, ◌∙◌, arith, rules}
use Rattle.engine_history.specs.Jobs.{find_job}
use Rattle.engine_history.specs.Steps.{out_of}
use Rattle.engine_core.specs.Tasks.{next_among}
use Rattle.engine_core.proofs.ItemLookups.{is_out_where, not_out}
use Rattle.engine_core.proofs.OutItems.{out_within}
use Rattle.engine_core.proofs.items.out_place.Goals as goal

pub returns-in_default-next_of : goal.returns-in_default-next_of
returns-in_default-next_of c =
    let j = c.index-jobs-at.result in
    let found : find_job c.args.job c.args.jobs.now ≡ Some j = search rules in
    ap (λ o. out_of o c.args.item) found ∙ not_out c.args.item j.items (ap (next_among c.args.item) (sym c.items.ensures.value) ∙ sym c.next_of.ensures.value ∙ c.in_default-next_of.is)

pub returns : goal.returns
returns c =
    let j = c.index-jobs-at.result in
    let found : find_job c.args.job c.args.jobs.now ≡ Some j = search rules in
    let out = is_out_where c.args.item j.items c.in-Some-next_of._next (ap (next_among c.args.item) (sym c.items.ensures.value) ∙ sym c.next_of.ensures.value ∙ c.in-Some-next_of.is) in
    let inside = out_within c.args.item j.items out in
    let many : length j.items ≤ 256 = search rules in
    let few : c.args.item < 256 = omega (arith, inside, many) in (
      c.in-Some.at,
      sym c.place_of.ensures.value ∙ c.in-Some.is,
      ap (λ (n : ℕ). c.in-Some.at * 256 + n) c.from.ensures,
      omega (arith, few, c.from.ensures, c.in-Some.ensures.within, c.requires),
      ap (λ o. out_of o c.args.item) found ∙ out,
      few,
    )
