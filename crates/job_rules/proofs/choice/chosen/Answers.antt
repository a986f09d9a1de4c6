use Rattle.std.proofs.Common.{ℕ, ◌+◌, length, length-append, [], ◌∷◌, Some, sym, ap, ◌∙◌, arith}
use Rattle.std.specs.List.{filter}
use Rattle.job_rules.specs.Rank.{in_rank, is_after}
use Rattle.job_rules.specs.Chosen.{keep}
use Rattle.job_rules.proofs.KeptJobs.{keep-full, keep-last, keep-next}
use Rattle.job_rules.proofs.RankedLists.{filter-is_after}
use Rattle.job_rules.proofs.choice.chosen.Goals as goal

pub loop-turn-init : goal.loop-turn-init
loop-turn-init c = record {
  left = ap (λ vs. keep vs c.new-kept.result) (filter-is_after (in_rank c.args.jobs.now)) ∙ ap (λ kept. keep (in_rank c.args.jobs.now) kept) c.new-kept.ensures;
  count = ap length c.new-kept.ensures;
}

pub returns-in_default : goal.returns-in_default
returns-in_default c =
    sym (keep-last c.args.jobs.now c.loop-turn.last c.loop-turn.kept (cc)) ∙ c.loop-turn.invariant.left

pub loop-turn-preserved : goal.loop-turn-preserved
loop-turn-preserved c = record {
  left =
      ap (λ kept. keep (filter (is_after (Some c.in-Some.next)) (in_rank c.args.jobs.now)) kept) c.push.ensures
      ∙ sym (keep-next c.args.jobs.now c.loop-turn.last c.loop-turn.kept c.in-Some.next c.requires (cc)) ∙ c.loop-turn.invariant.left;
  count = ap length c.push.ensures ∙ length-append c.loop-turn.kept (c.in-Some.next ∷ []) ∙ ap (λ (n : ℕ). n + 1) c.loop-turn.invariant.count;
}

pub returns : goal.returns
returns c =
    sym (keep-full (filter (is_after c.loop-turn.last) (in_rank c.args.jobs.now)) c.loop-turn.kept (omega arith)) ∙ c.loop-turn.invariant.left
