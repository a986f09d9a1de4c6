use Rattle.std.proofs.Common.{◌≡◌, ◌<◌, length, Some, None, ap, sym, subst, ◌∙◌, arith}
use Rattle.std.specs.Prelude.{slice_index_or, slice_set}
use Rattle.engine_history.specs.Jobs.{Field}
use Rattle.engine_history.specs.declared.job.JobState.{JobState}
use Rattle.job_log.specs.Changes.{changed, job_of}
use Rattle.job_log.specs.Jobs.{IsRoomFor, place_of}
use Rattle.job_log.proofs.JobPlaces.{at_job-none, none_placed, placed, placed_within}
use Rattle.job_log.proofs.EntriesOfJobs.{after_event-named, at_named, room_for}
use Rattle.job_log.proofs.job_log.change_jobs.Goals as goal

pub returns-in_default-place_of-clause-jobs : goal.returns-in_default-place_of-clause-jobs
returns-in_default-place_of-clause-jobs c =
    let field : Field = record { shape = c.args.shape; files = c.args.files } in
    let jobs = c.args.jobs.now.items in
    let event = c.args.event.now in
    let named : job_of event ≡ Some c.in-Some.job = sym c.job_of.ensures ∙ c.in-Some.is in
    let nowhere : place_of c.in-Some.job jobs ≡ None = ap (place_of c.in-Some.job) (sym c.deref.ensures.value) ∙ sym c.place_of.ensures.value ∙ c.in_default-place_of.is in
    sym (after_event-named field event jobs c.requires.fits ∙ ap (λ o. at_named o (changed field event) jobs) named ∙ at_job-none c.in-Some.job (changed field event) jobs (none_placed c.in-Some.job jobs nowhere))

pub index_mut-requires : goal.index_mut-requires
index_mut-requires c =
    let jobs = c.args.jobs.now.items in
    let place : place_of c.in-Some.job jobs ≡ Some c.in-Some-place_of.at = ap (place_of c.in-Some.job) (sym c.deref.ensures.value) ∙ sym c.place_of.ensures.value ∙ c.in-Some-place_of.is in
    let within : c.in-Some-place_of.at < length jobs = placed_within c.in-Some.job jobs c.in-Some-place_of.at place in
    omega (arith, within, c.args.jobs.now.ok.0)

pub apply-requires : goal.apply-requires
apply-requires c =
    let jobs = c.args.jobs.now.items in
    let at = c.in-Some-place_of.at in
    let j = c.index_mut.result.now in
    let named : job_of c.args.event.now ≡ Some c.in-Some.job = sym c.job_of.ensures ∙ c.in-Some.is in
    let place : place_of c.in-Some.job jobs ≡ Some at = ap (place_of c.in-Some.job) (sym c.deref.ensures.value) ∙ sym c.place_of.ensures.value ∙ c.in-Some-place_of.is in
    subst (λ (k : JobState). IsRoomFor c.args.files k c.args.event.now) (sym c.index_mut.ensures.value)
    (room_for c.args.files c.in-Some.job jobs (slice_index_or jobs at j) c.args.event.now c.requires.files c.requires.fits named (placed c.in-Some.job jobs at j place).found)

pub returns-clause-jobs : goal.returns-clause-jobs
returns-clause-jobs c =
    let field : Field = record { shape = c.args.shape; files = c.args.files } in
    let jobs = c.args.jobs.now.items in
    let event = c.args.event.now in
    let at = c.in-Some-place_of.at in
    let j = c.index_mut.result.now in
    let named : job_of event ≡ Some c.in-Some.job = sym c.job_of.ensures ∙ c.in-Some.is in
    let place : place_of c.in-Some.job jobs ≡ Some at = ap (place_of c.in-Some.job) (sym c.deref.ensures.value) ∙ sym c.place_of.ensures.value ∙ c.in-Some-place_of.is in
    ap (λ (k : JobState). slice_set jobs at k) (c.apply.ensures ∙ ap (changed field event) c.index_mut.ensures.value)
    ∙ sym (after_event-named field event jobs c.requires.fits ∙ ap (λ o. at_named o (changed field event) jobs) named ∙ (placed c.in-Some.job jobs at j place).set (changed field event) c.requires.apart)
