use Rattle.std.proofs.Common.{◌≡◌, ℕ, ◌+◌, ◌*◌, ◌<◌, Some, sym, ap, ◌∙◌, arith, rules}
use Rattle.engine_history.specs.Jobs.{find_job}
use Rattle.engine_history.specs.Steps.{out_of}
use Rattle.engine_core.specs.Tasks.{work_in}
use Rattle.engine_core.proofs.DueEntries.{found_job}
use Rattle.engine_core.proofs.ItemLookups.{is_out_where, work_tells}
use Rattle.engine_core.proofs.items.work_of.Goals as goal

pub returns : goal.returns
returns c =
    let job = c.args.task.now.job in
    let j = c.index-jobs-at.result in
    let found : find_job job c.args.jobs.now ≡ Some j = search rules in
    let work = sym c.work_in.ensures.work ∙ c.in-Some-work_in.is in
    let tells = work_tells j c.args.task.now.phase c.args.item c.in-Some-work_in.work work in
    let few : c.args.item < 256 = search rules in (
      c.in-Some.at,
      sym c.place_of.ensures.value ∙ c.in-Some.is,
      ap (λ (n : ℕ). c.in-Some.at * 256 + n) c.from.ensures,
      omega (arith, few, c.from.ensures, c.in-Some.ensures.within, c.requires),
      ap (λ o. work_in o c.args.task.now.phase c.args.item) found ∙ work,
      ap (λ o. out_of o c.args.item) found ∙ is_out_where c.args.item j.items tells.next tells.at,
      few,
      tells.job ∙ found_job job c.args.jobs.now j found,
      tells.same,
    )
