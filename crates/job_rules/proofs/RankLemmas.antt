-- Rank is an order: each job before all that it ranks before.
use Rattle.std.proofs.Common.{◌≡◌, ◌≢◌, true, false, arith}
use Rattle.std.proofs.lemmas.Bool.Decides.{nat_tests}
use Rattle.job_rules.specs.Rank.{rank_before}
use Rattle.job_rules.specs.declared.rank.JobView.{JobView}

pub rank_along : (a b c : JobView) → rank_before a b ≡ true → rank_before b c ≡ true → rank_before a c ≡ true
rank_along a b c ab bc = grind (arith, nat_tests)

pub rank_not_back : (a b : JobView) → rank_before a b ≡ true → rank_before b a ≡ false
rank_not_back a b ab = grind (arith, nat_tests)

pub rank_not_along : (a b c : JobView) → rank_before a b ≡ false → rank_before b c ≡ false → rank_before a c ≡ false
rank_not_along a b c ab bc = grind (arith, nat_tests)

pub rank_either : (a b : JobView) → a.started ≢ b.started → rank_before a b ≡ false → rank_before b a ≡ true
rank_either a b apart ab = grind (arith, nat_tests)
