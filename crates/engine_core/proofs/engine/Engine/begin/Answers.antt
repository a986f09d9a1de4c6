use Rattle.std.proofs.Common.{◌≡◌, ℕ, ◌<◌, List, length, Option, Some, None, refl, sym, ap, subst, ◌∙◌, arith}
use Rattle.std.specs.Prelude.{slice_index_or, slice_set}
use Rattle.std.proofs.lemmas.List.{get_or-set_same}
use Rattle.job_rules.specs.declared.job.JobId.{JobId}
use Rattle.engine_core.specs.EngineTurns.{HasBegun}
use Rattle.engine_history.specs.declared.job.JobState.{JobState}
use Rattle.job_log.specs.JobLog.{jobs_of}
use Rattle.engine_core.specs.BegunItems.{begun_at, place_in}
use Rattle.engine_core.specs.EngineView.{IsEngine}
use Rattle.engine_core.specs.Items.{IsWorkAt}
use Rattle.engine_core.specs.declared.begun.Begun.{Begun}
use Rattle.job_log.proofs.JobPlaces.{placed_within}
use Rattle.engine_core.proofs.BegunLemmas.{begun-some}
use Rattle.engine_core.proofs.EngineAfterEntries.{job_of_out}
use Rattle.engine_core.proofs.engine.Engine.begin.Goals as goal

pub invariant_of-self : goal.invariant_of-self
invariant_of-self c =
    let log = c.self.inside.log in
    let begun = c.self.inside.begun.items in
    let task = c.args.task.now in
    let w = subst (λ (js : List JobState). IsWorkAt js task c.args.item c.work_of.result) c.jobs.ensures.value c.work_of.ensures in
    let h = subst (λ o. IsWorkAt (jobs_of log) task c.args.item o) c.in-Some.is w in
    let within = placed_within task.job (jobs_of log) h.0 h.1 in
    let all = begun-some log.field (jobs_of log) log.notes begun log.seat task.job h.0 c.args.item (job_of_out (jobs_of log) task.job c.args.item h.5).0 refl h.1 h.6 within c.jobs.ensures.log.few h.5 c.self.invariant.0.begun in (
      subst (λ (places : List (Option Begun)). IsEngine (record { log = log; begun = places }))
          (sym (λ i. slice_set begun (h.2 i) (Some (record { seat = c.seat.ensures i; at = c.entries.ensures i }))))
          (record { due_none = c.self.invariant.0.due_none; begun = all }),
      c.self.invariant.1,
    )

pub returns-clause-has : goal.returns-clause-has
returns-clause-has c =
    let log = c.self.inside.log in
    let begun = c.self.inside.begun.items in
    let task = c.args.task.now in
    let w = subst (λ (js : List JobState). IsWorkAt js task c.args.item c.work_of.result) c.jobs.ensures.value c.work_of.ensures in
    let h = subst (λ o. IsWorkAt (jobs_of log) task c.args.item o) c.in-Some.is w in
    let b : Begun = record { seat = c.seat.result; at = c.entries.result } in
    let places = slice_set begun c.in-Some.place (Some b) in
    let sized = c.self.invariant.0.begun.sized in
    let room : c.in-Some.place < length begun = omega (arith, h.3, sized) in
    let here : slice_index_or places (place_in h.0 c.args.item) None ≡ Some b = subst (λ (n : ℕ). slice_index_or places n None ≡ Some b) h.2 (get_or-set_same begun c.in-Some.place (Some b) None room) in
    let at = c.entries.ensures in
    let has : HasBegun log.seat (record { log = log; begun = places }) task.job c.args.item = record {
      order = h.0;
      placed = h.1;
      few = h.6;
      begun = b;
      here = ap (λ o. begun_at places o c.args.item) h.1 ∙ here;
      own = c.seat.ensures;
      early = omega (arith, at);
    } in
    subst (λ (x : ℕ × JobId × ℕ). HasBegun x.0 (record { log = log; begun = places }) x.1 x.2) (λ i. ((c.self.view_is i).log.seat, sym h.7 i, sym h.8 i)) has
