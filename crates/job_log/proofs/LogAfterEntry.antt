-- What a log keeps, with one more entry.
use Rattle.std.proofs.Common.{◌≡◌, ℕ, ◌+◌, ◌<◌, ◌≤◌, List, [], ◌∷◌, ◌++◌, length, length-append, ap, sym, ◌∙◌, arith}
use Rattle.domains.specs.Shape.{Shape}
use Rattle.engine_history.specs.Jobs.{Field, after_event}
use Rattle.engine_history.specs.declared.entry.EngineEntry.{EngineEntry}
use Rattle.engine_history.specs.declared.job.JobState.{JobState}
use Rattle.engine_history.proofs.LongerLogs.{jobs_after-push}
use Rattle.job_log.specs.Jobs.{AreSound}
use Rattle.job_log.specs.JobLog.{IsKeptLog}
use Rattle.job_log.specs.declared.entry_stamp.EntryStamp.{EntryStamp}

one_more : {A : Type 0} (xs : List A) (x : A) → length (xs ++ x ∷ []) ≡ length xs + 1
one_more xs x = length-append xs (x ∷ [])

pub IsKeptLog-push : (shape : Shape) (files room : ℕ) (ss : List EntryStamp) (es : List EngineEntry) (old now : List JobState) (job_room room_now : ℕ) (s : EntryStamp) (e : EngineEntry)
    → IsKeptLog shape files room ss es old job_room → length es < room → now ≡ after_event (record { shape = shape; files = files }) e.event old
    → AreSound now → length now ≤ 64 → 64 ≤ room_now → IsKeptLog shape files room (ss ++ s ∷ []) (es ++ e ∷ []) now room_now
IsKeptLog-push shape files room ss es old now job_room room_now s e kept below is sound few roomy =
    let field : Field = record { shape = shape; files = files } in
    let entries = one_more es e in
    let stamps = one_more ss s in
    let same = kept.stamped_each in record {
      stamped_each = omega (arith, entries, stamps, same);
      within = omega (arith, entries, below);
      small = kept.small;
      jobs_now = is ∙ ap (after_event field e.event) kept.jobs_now ∙ sym (jobs_after-push field es e);
      field = kept.field;
      sound = sound;
      few = few;
      roomy = roomy;
    }
