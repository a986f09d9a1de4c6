-- At every point of a legal log at most three jobs have items out, and no two of them share a set.
use Rattle.std.proofs.Common.{◌≡◌, ℕ, true, false, cond, not, ◌||◌, List, [], ◌∷◌, ◌++◌, length, Option, Some, None, refl, sym, ap, ◌∙◌, subst, arith, append_assoc}
use Rattle.std.proofs.lemmas.List.{append-nil}
use Rattle.std.specs.List.{list_all}
use Rattle.domains.specs.declared.by.By.{By}
use Rattle.job_rules.specs.Kinds.{phase_at}
use Rattle.job_rules.specs.declared.job.JobId.{JobId}
use Rattle.job_rules.specs.declared.phase.Phase.{Phase}
use Rattle.engine_history.specs.Items.{come_to, ended, given_back, handed_out, has_ended, items_from}
use Rattle.engine_history.specs.Jobs.{after_event, is_started, jobs_after, new_job}
use Rattle.engine_history.specs.JobsWithItemsOut.{AreRunning}
use Rattle.engine_history.specs.Steps.{AreLegalFrom, IsStepWhere, World, due, end_of_phase, or_due}
use Rattle.engine_history.specs.declared.end.End.{End}
use Rattle.engine_history.specs.declared.end.End.TheVariants as end
use Rattle.engine_history.specs.declared.entry.EngineEntry.{EngineEntry}
use Rattle.engine_history.specs.declared.entry.EngineEvent.{EngineEvent}
use Rattle.engine_history.specs.declared.entry.EngineEvent.TheVariants as event
use Rattle.engine_history.specs.declared.entry.OrderEffect.TheVariants as effect
use Rattle.engine_history.specs.declared.job.JobState.{JobState}
use Rattle.engine_history.proofs.LongerLogs.{jobs_after-push}
use Rattle.engine_history.proofs.RunningJobs.{IsLower, Keeps, lower-come_to, lower-given_back}
use Rattle.engine_history.proofs.KeptByEntries.{keeps-finish, keeps-item, keeps-order, keeps-phase, keeps-start, none-items_in}
use Rattle.engine_history.proofs.ServedJobs.{keeps-hand_out}

end_no_hand_out : (j : JobState) (phase : Option Phase) (job : JobId) (p first count : ℕ) → end_of_phase j phase ≡ event.HandOut job p first count → ⊥
end_no_hand_out j None job p first count same = cc
end_no_hand_out j (Some phase) job p first count same = cc

due_no_hand_out : (jobs : List JobState) (job : JobId) (p first count : ℕ) → due jobs ≡ Some (event.HandOut job p first count) → ⊥
due_no_hand_out [] job p first count is_due = cc
due_no_hand_out (j ∷ js) job p first count is_due =
    elim ((j.finished || j.cancelled) || not (list_all has_ended j.items)) as (λ t. or_due (cond t None (Some (end_of_phase j (phase_at j.kind j.phase)))) (due js) ≡ Some (event.HandOut job p first count) → ⊥) [
      | true ↦ λ later. due_no_hand_out js job p first count later
      | false ↦ λ now. let same : end_of_phase j (phase_at j.kind j.phase) ≡ event.HandOut job p first count = cc in end_no_hand_out j (phase_at j.kind j.phase) job p first count same
    ] is_due

lower-ended : (how : End) → IsLower (λ i. ended how)
lower-ended end.Whole i out = absurd cc
lower-ended (end.Lost lost) i out = absurd cc
lower-ended (end.Short short) i out = absurd cc

keeps-event : (world : World) (jobs : List JobState) (log own : List EngineEntry) (by : By) (e : EngineEvent) → Keeps jobs → IsStepWhere world jobs log own (record { by = by; event = e }) (due jobs)
    → Keeps (after_event world.field e jobs)
keeps-event world jobs log own by (event.Start job kind priority epoch bars) keeps step =
    elim (is_started job jobs) as (λ t. is_started job jobs ≡ t → Keeps (cond t jobs (jobs ++ new_job world.field (length jobs) job kind priority bars ∷ []))) [
      | true ↦ λ _. keeps
      | false ↦ λ fresh. keeps-start jobs (new_job world.field (length jobs) job kind priority bars) keeps fresh refl (none-items_in world.field bars (phase_at kind 0))
    ] refl
keeps-event world jobs log own by (event.JobsFull job) keeps step = keeps
keeps-event world jobs log own by (event.Order job order effect.Changed) keeps step = keeps-order job order jobs keeps
keeps-event world jobs log own by (event.Order job order effect.Same) keeps step = keeps
keeps-event world jobs log own by (event.Order job order effect.NotActive) keeps step = keeps
keeps-event world jobs log own by (event.HandOut job phase first count) keeps step = found (due jobs) refl step
  where
    found : (o : Option EngineEvent) → due jobs ≡ o → IsStepWhere world jobs log own (record { by = by; event = event.HandOut job phase first count }) o → Keeps (after_event world.field (event.HandOut job phase first count) jobs)
    found None is free = keeps-hand_out job (items_from first count handed_out) jobs keeps free.served
    found (Some d) is due_now = absurd (due_no_hand_out jobs job phase first count (is ∙ ap (λ (x : EngineEvent). let made : Option EngineEvent = Some x in made) (sym due_now.0)))
keeps-event world jobs log own by (event.Progress job item next) keeps step = keeps-item job item (come_to next) jobs (lower-come_to next) keeps
keeps-event world jobs log own by (event.GiveBack job item next) keeps step = keeps-item job item (given_back next) jobs (lower-given_back next) keeps
keeps-event world jobs log own by (event.Done job item how) keeps step = keeps-item job item (λ i. ended how) jobs (lower-ended how) keeps
keeps-event world jobs log own by (event.PhaseEnd job phase) keeps step = keeps-phase world.field job jobs keeps
keeps-event world jobs log own by (event.Finish job result) keeps step = found (due jobs) refl step
  where
    found : (o : Option EngineEvent) → due jobs ≡ o → IsStepWhere world jobs log own (record { by = by; event = event.Finish job result }) o → Keeps (after_event world.field (event.Finish job result) jobs)
    found None is free = absurd free
    found (Some d) is due_now = keeps-finish jobs job result keeps (is ∙ ap (λ (x : EngineEvent). let made : Option EngineEvent = Some x in made) (sym due_now.0))
keeps-event world jobs log own by event.Restart keeps step = keeps
keeps-event world jobs log own by (event.Work asked steps) keeps step = keeps
keeps-event world jobs log own by (event.Drain steps) keeps step = keeps

keeps-log : (world : World) (log more : List EngineEntry) → Keeps (jobs_after world.field log) → AreLegalFrom world log more → Keeps (jobs_after world.field (log ++ more))
keeps-log world log [] keeps legal = subst (λ (l : List EngineEntry). Keeps (jobs_after world.field l)) (sym (append-nil log)) keeps
keeps-log world log (e ∷ es) keeps legal =
    let here : Keeps (after_event world.field e.event (jobs_after world.field log)) = keeps-event world (jobs_after world.field log) log log e.by e.event keeps legal.0 in
    let then : Keeps (jobs_after world.field (log ++ e ∷ [])) = subst Keeps (sym (jobs_after-push world.field log e)) here in
    subst (λ (l : List EngineEntry). Keeps (jobs_after world.field l)) (append_assoc log (e ∷ []) es) (keeps-log world (log ++ e ∷ []) es then legal.1)

legal-front : (world : World) (before log more : List EngineEntry) → AreLegalFrom world before (log ++ more) → AreLegalFrom world before log
legal-front world before [] more legal = tt
legal-front world before (e ∷ es) more legal = (legal.0, legal-front world (before ++ e ∷ []) es more legal.1)

pub running_at_each_point : (world : World) (log more : List EngineEntry) → AreLegalFrom world [] (log ++ more) → AreRunning (jobs_after world.field log)
running_at_each_point world log more legal =
    (keeps-log world [] log (record { other = tt; below = tt; idle = tt; running = record { few = omega arith; apart = tt } }) (legal-front world [] log more legal)).running
