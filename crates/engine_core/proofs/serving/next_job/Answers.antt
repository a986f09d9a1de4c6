use Rattle.std.proofs.Common.{List, ap, ◌∙◌, arith}
use Rattle.std.specs.List.{find}
use Rattle.job_rules.specs.Rank.{in_rank}
use Rattle.job_rules.specs.declared.rank.JobView.{JobView}
use Rattle.engine_history.specs.Steps.{is_served}
use Rattle.job_rules.proofs.FirstInRank.{walked}
use Rattle.engine_core.proofs.serving.next_job.Goals as goal

pub returns : goal.returns
returns c =
    walked (is_served c.args.jobs.now) c.args.views.now c.loop-view.view-index c.loop-view.first (omega arith) c.loop-view.invariant
    ∙ ap (λ (vs : List JobView). find (is_served c.args.jobs.now) (in_rank vs)) c.requires.views
