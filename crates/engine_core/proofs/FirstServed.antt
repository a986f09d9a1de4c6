-- The first in rank of those that are served.
use Rattle.std.proofs.Common.{◌≡◌, Bool, true, false, cond, Option, Some, None, refl, ap, sym, ◌∙◌}
use Rattle.job_rules.specs.Rank.{earlier}
use Rattle.job_rules.specs.declared.rank.JobView.{JobView}
use Rattle.engine_core.specs.Tasks.{is_sooner}

-- a job that ranks before the first one so far is earlier
pub takes : (first : Option JobView) (v : JobView) (served : Bool) → is_sooner first v ≡ true → served ≡ true → (let one : Option JobView = Some v in one) ≡ cond served (earlier first v) first
takes None v served before serves = ap (λ t. cond t (earlier None v) None) (sym serves)
takes (Some best) v served before serves = sym (ap (λ t. cond t (Some v) (Some best)) before) ∙ ap (λ t. cond t (earlier (Some best) v) (Some best)) (sym serves)

-- one that does not leaves it
pub stays : (first : Option JobView) (v : JobView) (served : Bool) → is_sooner first v ≡ false → first ≡ cond served (earlier first v) first
stays None v served before = absurd cc
stays (Some best) v true before = sym (ap (λ t. cond t (Some v) (Some best)) before)
stays (Some best) v false before = refl

pub stays_idle : (first : Option JobView) (v : JobView) (served : Bool) → served ≡ false → first ≡ cond served (earlier first v) first
stays_idle first v served idle = ap (λ t. cond t (earlier first v) first) (sym idle)
