use Rattle.std.proofs.Common.{◌≡◌, ◌+◌, not, ◌||◌, List, ap, sym, ◌∙◌}
use Rattle.checkpoints.specs.declared.checkpoint.ItemSaved.{ItemSaved}
use Rattle.job_rules.specs.Kinds.{phase_at}
use Rattle.std.specs.List.{list_all}
use Rattle.engine_history.specs.Items.{is_whole, new_items}
use Rattle.engine_history.specs.Jobs.{Field, in_next_phase, items_in}
use Rattle.engine_history.specs.declared.job.JobState.{JobState}
use Rattle.job_log.specs.Changes.{count_in}
use Rattle.job_log.proofs.ChangedItems.{items_in-count}
use Rattle.job_log.proofs.job.Job.begin_next_phase.Goals as goal

pub returns : goal.returns
returns c =
    let inside = c.self.inside in
    let field : Field = record { shape = c.args.shape; files = c.args.files } in
    let items : c.renew.new.items.items ≡ items_in field inside.bars (phase_at inside.kind (inside.phase + 1)) =
    c.renew.ensures.items ∙ ap new_items (c.count_in-count.ensures.value inside.bars c.self.invariant.counted ∙ ap (λ p. count_in field inside.bars p) c.phase.ensures)
    ∙ sym (items_in-count field inside.bars (phase_at inside.kind (inside.phase + 1))) in
    let earlier = c.is_partial-self-inside.ensures ∙ ap (λ (l : List ItemSaved). inside.earlier || not (list_all is_whole l)) c.deref.ensures.value in
    (λ i.
    let made : JobState = record {
      job = inside.job;
      kind = inside.kind;
      priority = inside.priority;
      order = inside.order;
      bars = inside.bars;
      paused = inside.paused;
      cancelled = inside.cancelled;
      finished = inside.finished;
      phase = inside.phase + 1;
      earlier = earlier i;
      items = items i;
    } in
    made)
    ∙ ap (in_next_phase field) c.self.view_is
