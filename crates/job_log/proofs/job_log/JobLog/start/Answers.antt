use Rattle.std.proofs.Common.{◌≡◌, ◌∙◌, ◌<◌, ◌≤◌, Bool, cond, false, List, [], ◌∷◌, ◌++◌, length, length-append, ap, sym, subst, min, vec_len, vec_capacity, arith}
use Rattle.engine_history.specs.Jobs.{Field, after_event, is_started, new_job}
use Rattle.engine_history.specs.declared.entry.EngineEntry.{EngineEntry}
use Rattle.engine_history.specs.declared.entry.EngineEvent.TheVariants.{Start}
use Rattle.engine_history.specs.declared.job.JobState.{JobState}
use Rattle.job_log.specs.Jobs.{AreSound}
use Rattle.job_log.specs.JobLog.{IsKeptLog, JobLogView, jobs_of, stamped, with_entry}
use Rattle.job_log.specs.contracts.job_log.JobLog.{the_view}
use Rattle.job_log.specs.declared.entry_stamp.EntryStamp.{EntryStamp}
use Rattle.job_log.proofs.LogAfterEntry.{IsKeptLog-push}
use Rattle.job_log.proofs.SoundJobs.{sound-last, sound-new_job}
use Rattle.job_log.proofs.StampedEntries.{below_room, jobs_inside, spare_less, stamped_push, with_entry_is}
use Rattle.job_log.proofs.job_log.JobLog.start.Goals as goal

pub push_reserved-requires : goal.push_reserved-requires
push_reserved-requires c =
    let inside = c.self.inside in
    let jobs = jobs_inside inside c.args.self.now c.self.view_is c.self.invariant.stamped_each c.self.invariant.jobs_now in
    let count = ap (λ (js : List JobState). length js) jobs in
    omega (arith, count, c.requires.room, c.self.invariant.roomy, inside.jobs.ok.0)

module _ (c : goal.After-push_reserved-3) where
  abbrev field : Field
  field = record { shape = c.self.inside.shape; files = c.self.inside.files }

  abbrev entry : EngineEntry
  entry = record { by = c.args.by; event = Start c.args.job c.args.kind c.args.priority c.args.epoch c.args.bars }

  abbrev started : JobState
  started = new_job field (length c.self.inside.jobs.items) c.args.job c.args.kind c.args.priority c.args.bars

  jobs_are : c.self.inside.jobs.items ≡ jobs_of c.args.self.now
  jobs_are = jobs_inside c.self.inside c.args.self.now c.self.view_is c.self.invariant.stamped_each c.self.invariant.jobs_now

  started_is : c.in_ok-started.started ≡ started
  started_is = c.in_ok-started.ensures ∙ ap (λ n. new_job field n c.args.job c.args.kind c.args.priority c.args.bars) (c.len-order.ensures ∙ c.self.inside.jobs.ok.0)

  pushed : c.push_reserved.new.self.items ≡ c.self.inside.jobs.items ++ started ∷ []
  pushed = c.push_reserved.ensures.items ∙ ap (λ (j : JobState). c.self.inside.jobs.items ++ j ∷ []) started_is

  fresh : is_started c.args.job c.self.inside.jobs.items ≡ false
  fresh = ap (λ (js : List JobState). is_started c.args.job js) jobs_are ∙ c.requires.fresh

pub returns-clause-ok : goal.returns-clause-ok
returns-clause-ok c =
    let inside = c.self.inside in
    let first = c.push_reserved-2.ensures in
    let second = c.push_reserved-3.ensures in
    let stamp : EntryStamp = record { turn = inside.turns; seat = inside.seat } in
    let notes : stamped c.push_reserved-2.new.self.items c.push_reserved-3.new.self.items ≡ stamped inside.stamps.items inside.entries.items ++ record { turn = inside.turns; seat = inside.seat; entry = entry c } ∷ [] =
    ap (λ (l : List EntryStamp). stamped l c.push_reserved-3.new.self.items) first.items
    ∙ ap (stamped (inside.stamps.items ++ stamp ∷ [])) second.items
    ∙ stamped_push inside.stamps.items inside.entries.items stamp (entry c) c.self.invariant.stamped_each in
    let less = spare_less (vec_capacity inside.entries) (vec_capacity inside.stamps) inside.room (vec_len inside.entries) (vec_capacity c.push_reserved-3.new.self) (vec_capacity c.push_reserved-2.new.self) (vec_len c.push_reserved-3.new.self) second.capacity first.capacity second.len in
    with_entry_is (the_view inside) _ _ (entry c) notes less ∙ ap (λ (l : JobLogView). with_entry l (entry c)) c.self.view_is

pub invariant_of-self : goal.invariant_of-self
invariant_of-self c =
    let inside = c.self.inside in
    let jobs = inside.jobs.items in
    let stamp : EntryStamp = record { turn = inside.turns; seat = inside.seat } in
    let spare : 1 ≤ (the_view inside).spare = subst (λ (l : JobLogView). 1 ≤ l.spare) (sym c.self.view_is) c.requires.spare in
    let below = below_room (min (vec_capacity inside.entries) (vec_capacity inside.stamps)) inside.room (vec_len inside.entries) spare in
    let now : c.push_reserved.new.self.items ≡ after_event (field c) (entry c).event jobs = pushed c ∙ sym (ap (λ (t : Bool). cond t jobs (jobs ++ started c ∷ [])) (fresh c)) in
    let sound = subst AreSound (sym (pushed c)) (sound-last jobs (started c) c.self.invariant.sound
    (sound-new_job (field c) (length jobs) c.args.job c.args.kind c.args.priority c.args.bars c.number_of-number.ensures.small c.requires.some_priority c.requires.priority c.requires.bars)) in
    let count = ap (λ (js : List JobState). length js) (pushed c) ∙ length-append jobs (started c ∷ []) in
    let before = ap (λ (js : List JobState). length js) (jobs_are c) in
    let room = c.requires.room in
    let roomy = c.self.invariant.roomy in
    let kept = IsKeptLog-push inside.shape inside.files inside.room inside.stamps.items inside.entries.items jobs c.push_reserved.new.self.items (vec_capacity inside.jobs) (vec_capacity c.push_reserved.new.self) stamp (entry c)
    c.self.invariant (subst (λ n. n < inside.room) inside.entries.ok.0 below) now sound (omega (arith, count, before, room)) (omega (arith, roomy, c.push_reserved.ensures.capacity)) in
    subst (λ (x : List EngineEntry × List EntryStamp). IsKeptLog inside.shape inside.files inside.room x.1 x.0 c.push_reserved.new.self.items (vec_capacity c.push_reserved.new.self)) (λ i. (sym c.push_reserved-3.ensures.items i, sym c.push_reserved-2.ensures.items i)) kept
