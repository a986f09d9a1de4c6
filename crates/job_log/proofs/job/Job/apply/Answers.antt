use Rattle.std.proofs.Common.{ap, sym, ◌∙◌}
use Rattle.checkpoints.specs.declared.checkpoint.ItemSaved.{ItemSaved}
use Rattle.engine_history.specs.Items.{at_item}
use Rattle.engine_history.specs.Jobs.{with_items}
use Rattle.engine_history.specs.declared.entry.EngineEvent.{EngineEvent}
use Rattle.job_log.specs.Changes.{changed}
use Rattle.job_log.proofs.job.Job.apply.Goals as goal

pub returns-in-Progress : goal.returns-in-Progress
returns-in-Progress c = c.change.ensures ∙ ap (λ (e : EngineEvent). changed (record { shape = c.args.shape; files = c.args.files }) e c.args.self.now) (sym c.in-Progress.is)

pub returns-in-GiveBack : goal.returns-in-GiveBack
returns-in-GiveBack c = c.change-in-GiveBack.ensures ∙ ap (λ (e : EngineEvent). changed (record { shape = c.args.shape; files = c.args.files }) e c.args.self.now) (sym c.in-GiveBack.is)

pub returns-in-Done : goal.returns-in-Done
returns-in-Done c =
    c.change-in-Done.ensures
    ∙ ap (λ (x : ItemSaved). with_items (at_item c.in-Done.item (λ i. x)) c.args.self.now) c.ended.ensures
    ∙ ap (λ (e : EngineEvent). changed (record { shape = c.args.shape; files = c.args.files }) e c.args.self.now) (sym c.in-Done.is)
