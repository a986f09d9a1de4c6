use Rattle.std.proofs.Common.{◌≡◌, ◌∙◌, ◌<◌, ◌≤◌, List, [], ◌∷◌, ◌++◌, length, ap, sym, subst, min, vec_len, vec_capacity, arith}
use Rattle.engine_history.specs.Jobs.{Field}
use Rattle.engine_history.specs.declared.entry.EngineEntry.{EngineEntry}
use Rattle.engine_history.specs.declared.job.JobState.{JobState}
use Rattle.job_log.specs.Jobs.{AreApart, AreSound}
use Rattle.job_log.specs.JobLog.{Fits, IsKeptLog, JobLogView, stamped, with_entry}
use Rattle.job_log.specs.contracts.job_log.JobLog.{the_view}
use Rattle.job_log.specs.declared.entry_stamp.EntryStamp.{EntryStamp}
use Rattle.job_log.proofs.JobsOfLogs.{started_after}
use Rattle.job_log.proofs.EntriesOfJobs.{length-after}
use Rattle.job_log.proofs.LogAfterEntry.{IsKeptLog-push}
use Rattle.job_log.proofs.SoundJobs.{sound-after}
use Rattle.job_log.proofs.StampedEntries.{below_memory, below_room, jobs_inside, spare_less, stamped_push, with_entry_is}
use Rattle.job_log.proofs.job_log.JobLog.append.Goals as goal

-- what is known once the method has read its fields
module _ (c : goal.After-push_reserved-2) where
  abbrev field : Field
  field = record { shape = c.self.inside.shape; files = c.self.inside.files }

  abbrev entry : EngineEntry
  entry = record { by = c.args.by; event = c.args.event }

  spare : 1 ≤ (the_view c.self.inside).spare
  spare = subst (λ (l : JobLogView). 1 ≤ l.spare) (sym c.self.view_is) c.requires.spare

  fits : Fits c.self.inside.jobs.items c.args.event
  fits = subst (λ (js : List JobState). Fits js c.args.event) (sym (jobs_inside c.self.inside c.args.self.now c.self.view_is c.self.invariant.stamped_each c.self.invariant.jobs_now)) c.requires.fits

pub change_jobs-requires-clause-apart : goal.change_jobs-requires-clause-apart
change_jobs-requires-clause-apart c =
    subst AreApart (sym c.self.invariant.jobs_now) (started_after (record { shape = c.self.inside.shape; files = c.self.inside.files }) c.self.inside.entries.items).apart

pub change_jobs-requires-clause-fits : goal.change_jobs-requires-clause-fits
change_jobs-requires-clause-fits c =
    subst (λ (js : List JobState). Fits js c.args.event) (sym (jobs_inside c.self.inside c.args.self.now c.self.view_is c.self.invariant.stamped_each c.self.invariant.jobs_now)) c.requires.fits

pub push_reserved-requires : goal.push_reserved-requires
push_reserved-requires c =
    let spare : 1 ≤ (the_view c.self.inside).spare = subst (λ (l : JobLogView). 1 ≤ l.spare) (sym c.self.view_is) c.requires.spare in
    let inside = c.self.inside in
    let below = (below_memory (vec_capacity inside.entries) (vec_capacity inside.stamps) inside.room (vec_len inside.entries) spare).1 in
    omega (arith, below, c.self.invariant.stamped_each, inside.entries.ok.0, inside.stamps.ok.0)

pub returns : goal.returns
returns c =
    let inside = c.self.inside in
    let first = c.push_reserved.ensures in
    let second = c.push_reserved-2.ensures in
    let stamp : EntryStamp = record { turn = inside.turns; seat = inside.seat } in
    let notes : stamped c.push_reserved.new.self.items c.push_reserved-2.new.self.items ≡ stamped inside.stamps.items inside.entries.items ++ record { turn = inside.turns; seat = inside.seat; entry = entry c } ∷ [] =
    ap (λ (l : List EntryStamp). stamped l c.push_reserved-2.new.self.items) first.items
    ∙ ap (stamped (inside.stamps.items ++ stamp ∷ [])) second.items
    ∙ stamped_push inside.stamps.items inside.entries.items stamp (entry c) c.self.invariant.stamped_each in
    let less = spare_less (vec_capacity inside.entries) (vec_capacity inside.stamps) inside.room (vec_len inside.entries) (vec_capacity c.push_reserved-2.new.self) (vec_capacity c.push_reserved.new.self) (vec_len c.push_reserved-2.new.self) second.capacity first.capacity second.len in
    with_entry_is (the_view inside) _ _ (entry c) notes less ∙ ap (λ (l : JobLogView). with_entry l (entry c)) c.self.view_is

pub invariant_of-self : goal.invariant_of-self
invariant_of-self c =
    let inside = c.self.inside in
    let stamp : EntryStamp = record { turn = inside.turns; seat = inside.seat } in
    let below = below_room (min (vec_capacity inside.entries) (vec_capacity inside.stamps)) inside.room (vec_len inside.entries) (spare c) in
    let apart = subst AreApart (sym c.self.invariant.jobs_now) (started_after (field c) inside.entries.items).apart in
    let now = c.change_jobs.ensures.jobs in
    let sound = subst AreSound (sym now) (sound-after (field c) c.args.event inside.jobs.items apart (fits c) c.self.invariant.sound) in
    let count = ap (λ (js : List JobState). length js) now ∙ length-after (field c) c.args.event inside.jobs.items (fits c) in
    let few = c.self.invariant.few in
    let roomy = c.self.invariant.roomy in
    let room = c.change_jobs.ensures.capacity in
    let kept = IsKeptLog-push inside.shape inside.files inside.room inside.stamps.items inside.entries.items inside.jobs.items c.change_jobs.new.jobs.items (vec_capacity inside.jobs) (vec_capacity c.change_jobs.new.jobs) stamp (entry c)
    c.self.invariant (subst (λ n. n < inside.room) inside.entries.ok.0 below) now sound (omega (arith, count, few)) (omega (arith, roomy, room)) in
    subst (λ (x : List EngineEntry × List EntryStamp). IsKeptLog inside.shape inside.files inside.room x.1 x.0 c.change_jobs.new.jobs.items (vec_capacity c.change_jobs.new.jobs)) (λ i. (sym c.push_reserved-2.ensures.items i, sym c.push_reserved.ensures.items i)) kept
