use Rattle.std.proofs.Common.{◌≡◌, ◌∙◌, true, false, None, Some, IsSome, List, ap, subst, sym}
use Rattle.std.specs.List.{find}
use Rattle.job_rules.specs.Rank.{in_rank}
use Rattle.job_rules.specs.Chosen.{chosen, has_job}
use Rattle.job_rules.specs.Why.{counted_by, excluded_by, is_leaving, kept_before, or_else}
use Rattle.job_rules.specs.declared.rank.JobView.{JobView}
use Rattle.job_rules.proofs.WaitingJobs.{some_waits, why-leaving, why-none_leaving, why-not_kept}
use Rattle.job_rules.proofs.waits.why.Goals as goal

pub waits_for-requires : goal.waits_for-requires
waits_for-requires c =
    let kept : c.chosen-kept.result ≡ chosen c.args.jobs.now = c.chosen-kept.ensures in
    let out : has_job c.args.job (chosen c.args.jobs.now) ≡ false = ap (has_job c.args.job) (sym kept) ∙ sym c.if-not-has.ensures in
    subst (λ (ks : List JobView). IsSome (or_else (excluded_by (kept_before c.view_of-own.result ks)) (counted_by ks))) (sym kept)
    (some_waits c.args.jobs.now c.args.job c.view_of-own.result c.requires.apart c.view_of-own.ensures c.if-own.false out)

pub returns-then-not-has : goal.returns-then-not-has
returns-then-not-has c =
    let kept : c.chosen-kept.result ≡ chosen c.args.jobs.now = c.chosen-kept.ensures in
    let out : has_job c.args.job (chosen c.args.jobs.now) ≡ false = ap (has_job c.args.job) (sym kept) ∙ sym c.if-not-has.ensures in
    c.waits_for.ensures
    ∙ ap (λ (ks : List JobView). or_else (excluded_by (kept_before c.view_of-own.result ks)) (counted_by ks)) kept
    ∙ sym (why-not_kept c.args.jobs.now c.args.job c.view_of-own.result c.view_of-own.ensures c.if-own.false out)

pub returns-in-Some : goal.returns-in-Some
returns-in-Some c =
    let kept : c.chosen-kept.result ≡ chosen c.args.jobs.now = c.chosen-kept.ensures in
    let runs : has_job c.args.job (chosen c.args.jobs.now) ≡ true = ap (has_job c.args.job) (sym kept) ∙ sym c.if-not-has.ensures in
    let leaving : find (is_leaving c.view_of-own.result (chosen c.args.jobs.now)) (in_rank c.args.jobs.now) ≡ Some c.in-Some.other =
    ap (λ (ks : List JobView). find (is_leaving c.view_of-own.result ks) (in_rank c.args.jobs.now)) (sym kept) ∙ sym c.first_leaving.ensures ∙ c.in-Some.is in
    why-leaving c.args.jobs.now c.args.job c.view_of-own.result c.in-Some.other c.view_of-own.ensures c.if-own.false runs leaving

pub returns : goal.returns
returns c =
    let kept : c.chosen-kept.result ≡ chosen c.args.jobs.now = c.chosen-kept.ensures in
    let runs : has_job c.args.job (chosen c.args.jobs.now) ≡ true = ap (has_job c.args.job) (sym kept) ∙ sym c.if-not-has.ensures in
    let none : find (is_leaving c.view_of-own.result (chosen c.args.jobs.now)) (in_rank c.args.jobs.now) ≡ None =
    ap (λ (ks : List JobView). find (is_leaving c.view_of-own.result ks) (in_rank c.args.jobs.now)) (sym kept) ∙ sym c.first_leaving.ensures ∙ c.in_default.is in
    c.three_out.ensures ∙ sym (why-none_leaving c.args.jobs.now c.args.job c.view_of-own.result c.view_of-own.ensures c.if-own.false runs none)
