use Rattle.std.proofs.Common.{◌≡◌, length}
use Rattle.std.specs.List.{filter}
use Rattle.job_rules.specs.Rank.{in_rank, is_after}
use Rattle.job_rules.specs.Chosen.{chosen, keep}
use Rattle.job_rules.proofs.choice.chosen.Given as goal

abbrev pub invariant-loop-turn : goal.invariant-loop-turn
invariant-loop-turn l = record {
  left : keep (filter (is_after l.last) (in_rank l.jobs)) l.kept ≡ chosen l.jobs;
  count : length l.kept ≡ l._turn;
}
