-- The reader of a checkpoint, and what it reads of its types.
use Rattle.std.proofs.Common.{◌≡◌, ℕ, ◌^◌, ◌<◌, ◌≤◌, true, false, List, [], ◌∷◌, ◌++◌, length, map, Result, Ok, refl, sym, ap, subst, ◌∙◌, arith, eqb, eq-eqb, lit≤}
use Rattle.std.proofs.lemmas.Bool.Decides.{nat_tests}
use Rattle.std.proofs.lemmas.List.{length-map}
use Rattle.std.specs.List.{list_any}
use Rattle.std.specs.Int.{w16, w32, to_be_bytes}
use Rattle.domains.specs.Drive.{Drive, IsDrive, same_drive}
use Rattle.domains.specs.DriveSet.{has}
use Rattle.domains.specs.declared.drive_set.DriveSet.{DriveSet}
use Rattle.job_rules.specs.Kinds.{code_of}
use Rattle.job_rules.specs.declared.kind.JobKind.{JobKind}
use Rattle.checkpoints.specs.declared.checkpoint.ItemSaved.{ItemSaved}
use Rattle.checkpoints.specs.declared.checkpoint.JobSaved.{JobSaved}
use Rattle.field_readers.specs.declared.fault.Broken.{Broken}
use Rattle.checkpoints.specs.declared.fault.CheckpointRule.{CheckpointRule}
use Rattle.checkpoints.specs.declared.fault.CheckpointRule.TheVariants as rule
use Rattle.checkpoints.specs.Saved.{drives_of, flag}
use Rattle.field_readers.specs.FieldReaders.{byte, each, word}
use Rattle.checkpoints.specs.CheckpointFields.{RawJob, RawJobs, RawTail, above, drive_at, item_at, job_at, jobs_at, phase_count, raw_drive, raw_item, raw_job, stays, tail_at, this_drive}
use Rattle.field_readers.proofs.Readers.{AreSo, IsReader, IsWithin, both_reader, byte_reader, each_reader, texts, wide16, wide32, word_reader}
use Rattle.checkpoints.proofs.JobReaders.{TailFits, drive_set_is, drives_reader, items_reader, tail_reader, tail_text}

abbrev pub job_text : RawJob → List ℕ
job_text j =
    to_be_bytes w16 j.0 ++ ((j.1.0 ∷ []) ++ ((j.1.1.0 ∷ []) ++ (to_be_bytes w16 j.1.1.1.0 ++ ((j.1.1.1.1.0 ∷ []) ++ ((j.1.1.1.1.1.0 ∷ []) ++ tail_text j.1.1.1.1.1.1)))))

abbrev pub JobFits : ℕ → ℕ → RawJob → Type 0
JobFits started least j =
    IsWithin least 65536 j.0
    × (IsWithin 0 10 j.1.0
    × (IsWithin 1 11 j.1.1.0
    × (IsWithin 0 started j.1.1.1.0 × (IsWithin 0 2 j.1.1.1.1.0 × (IsWithin 0 (phase_count j.1.0) j.1.1.1.1.1.0 × TailFits j.1.1.1.1.1.1)))))

pub job_reader : (started least : ℕ) → started ≤ 65536 → IsReader (job_at started least) job_text (JobFits started least)
unfolding job_at
job_reader started least few =
    both_reader (word w16 rule.Job least 65536) (to_be_bytes w16) (IsWithin least 65536) _ _ _ (word_reader w16 (2 ^ 16) wide16 rule.Job least 65536 (lit≤ tt)) (λ job _.
    both_reader (byte rule.Kind 0 10) (λ n. n ∷ []) (IsWithin 0 10) _ _ _ (byte_reader rule.Kind 0 10) (λ kind _.
    both_reader (byte rule.Priority 1 11) (λ n. n ∷ []) (IsWithin 1 11) _ _ _ (byte_reader rule.Priority 1 11) (λ priority _.
    both_reader (word w16 rule.Order 0 started) (to_be_bytes w16) (IsWithin 0 started) _ _ _ (word_reader w16 (2 ^ 16) wide16 rule.Order 0 started few) (λ order _.
    both_reader (byte rule.Paused 0 2) (λ n. n ∷ []) (IsWithin 0 2) _ _ _ (byte_reader rule.Paused 0 2) (λ paused _.
    both_reader (byte rule.Phase 0 (phase_count kind)) (λ n. n ∷ []) (IsWithin 0 (phase_count kind)) (λ phase. tail_at) (λ phase. tail_text) (λ phase. TailFits)
    (byte_reader rule.Phase 0 (phase_count kind)) (λ phase _. tail_reader))))))

abbrev pub jobs_text : RawJobs → List ℕ
jobs_text c = to_be_bytes w32 c.0 ++ ((c.1.0 ∷ []) ++ (to_be_bytes w16 c.1.1.0 ++ ((c.1.1.1.0 ∷ []) ++ texts job_text c.1.1.1.1)))

abbrev pub JobsFit : RawJobs → Type 0
JobsFit c =
    IsWithin 0x464A4350 0x464A4351 c.0
    × (IsWithin 1 2 c.1.0 × (IsWithin 0 65 c.1.1.0 × (IsWithin 0 65 c.1.1.1.0 × AreSo (JobFits c.1.1.0) above c.1.1.1.0 0 c.1.1.1.1)))

pub jobs_reader : IsReader jobs_at jobs_text JobsFit
unfolding jobs_at
jobs_reader =
    both_reader (word w32 rule.Mark 0x464A4350 0x464A4351) (to_be_bytes w32) (IsWithin 0x464A4350 0x464A4351) _ _ _ (word_reader w32 (2 ^ 32) wide32 rule.Mark 0x464A4350 0x464A4351 (lit≤ tt)) (λ mark _.
    both_reader (byte rule.Format 1 2) (λ n. n ∷ []) (IsWithin 1 2) _ _ _ (byte_reader rule.Format 1 2) (λ format _.
    both_reader (word w16 rule.Started 0 65) (to_be_bytes w16) (IsWithin 0 65) _ _ _ (word_reader w16 (2 ^ 16) wide16 rule.Started 0 65 (lit≤ tt)) (λ started fits.
    both_reader (byte rule.Jobs 0 65) (λ n. n ∷ []) (IsWithin 0 65) (λ jobs. each (job_at started) above jobs 0) (λ jobs. texts job_text) (λ jobs. AreSo (JobFits started) above jobs 0)
    (byte_reader rule.Jobs 0 65) (λ jobs _. each_reader (job_at started) above job_text (JobFits started) (λ least. job_reader started least (few started fits.1)) jobs 0))))
  where
    few : (started : ℕ) → started < 65 → started ≤ 65536
    few started below = omega arith

-- ---- what the code reads

pub flag-read : (n : ℕ) → IsWithin 0 2 n → flag (eqb n 1) ≡ n
flag-read n h =
    elim (eqb n 1) as (λ t. eqb n 1 ≡ t → flag t ≡ n) [
      | true ↦ λ same. let one : n ≡ 1 = grind (arith, nat_tests) in sym one
      | false ↦ λ other.
          let below : n < 2 = h.1 in
          let apart : n ≡ 1 → ⊥ = λ same. let yes : eqb n 1 ≡ true = eq-eqb n 1 same in cc in
          omega arith
    ] refl

pub tail_is : (bytes : List ℕ) (count : ℕ) (r1 : List ℕ) (drives : List Drive) (r2 : List ℕ) (earlier : ℕ) (r3 : List ℕ) (n : ℕ) (r4 : List ℕ) (items : List ItemSaved) (r5 : List ℕ) (set : DriveSet)
    → byte rule.Bars 0 201 bytes ≡ Ok (count, r1) → each drive_at this_drive count (0, 0) r1 ≡ Ok (map raw_drive drives, r2)
    → byte rule.Earlier 0 2 r2 ≡ Ok (earlier, r3) → word w16 rule.Items 0 257 r3 ≡ Ok (n, r4) → each item_at stays n 0 r4 ≡ Ok (map raw_item items, r5)
    → ((d : Drive) → IsDrive d → has set d ≡ list_any (same_drive d) drives)
    → tail_at bytes ≡ Ok ((length (drives_of set), (map raw_drive (drives_of set), (flag (eqb earlier 1), (length items, map raw_item items)))), r5)
unfolding tail_at
tail_is bytes count r1 drives r2 earlier r3 n r4 items r5 set e1 e2 e3 e4 e5 holds =
    let many = (drives_reader count).fits r1 (map raw_drive drives, r2) e2 in
    let bars : drives_of set ≡ drives = drive_set_is set drives many.1 holds in
    let count_is : length drives ≡ count = sym (length-map drives raw_drive) ∙ many.0 in
    let earlier_is : flag (eqb earlier 1) ≡ earlier = flag-read earlier ((byte_reader rule.Earlier 0 2).fits r2 (earlier, r3) e3) in
    let items_is : length items ≡ n = sym (length-map items raw_item) ∙ ((items_reader n).fits r4 (map raw_item items, r5) e5).0 in
    rw (bars, count_is, earlier_is, items_is, e1, e2, e3, e4, e5) refl

pub job_is : (started least : ℕ) (bytes : List ℕ) (number : ℕ) (r1 : List ℕ) (code : ℕ) (r2 : List ℕ) (priority : ℕ) (r3 : List ℕ) (order : ℕ) (r4 : List ℕ) (paused : ℕ) (r5 : List ℕ) (phase : ℕ) (r6 : List ℕ) (tail : RawTail) (r7 : List ℕ) (kind : JobKind)
    → word w16 rule.Job least 65536 bytes ≡ Ok (number, r1) → byte rule.Kind 0 10 r1 ≡ Ok (code, r2) → code_of kind ≡ code
    → byte rule.Priority 1 11 r2 ≡ Ok (priority, r3) → word w16 rule.Order 0 started r3 ≡ Ok (order, r4)
    → byte rule.Paused 0 2 r4 ≡ Ok (paused, r5) → byte rule.Phase 0 (phase_count (code_of kind)) r5 ≡ Ok (phase, r6) → tail_at r6 ≡ Ok (tail, r7)
    → job_at started least bytes ≡ Ok ((number, (code_of kind, (priority, (order, (flag (eqb paused 1), (phase, tail)))))), r7)
unfolding job_at
job_is started least bytes number r1 code r2 priority r3 order r4 paused r5 phase r6 tail r7 kind e1 e2 same e3 e4 e5 e6 e7 =
    let paused_is : flag (eqb paused 1) ≡ paused = flag-read paused ((byte_reader rule.Paused 0 2).fits r4 (paused, r5) e5) in
    let e6' : byte rule.Phase 0 (phase_count code) r5 ≡ Ok (phase, r6) = subst (λ (c : ℕ). byte rule.Phase 0 (phase_count c) r5 ≡ Ok (phase, r6)) same e6 in
    rw (same, paused_is, e1, e2, e3, e4, e5, e6', e7) refl

pub checkpoint_is : (bytes : List ℕ) (mark : ℕ) (r1 : List ℕ) (format : ℕ) (r2 : List ℕ) (started : ℕ) (r3 : List ℕ) (count : ℕ) (r4 : List ℕ) (jobs : List JobSaved) (r5 : List ℕ)
    → word w32 rule.Mark 0x464A4350 0x464A4351 bytes ≡ Ok (mark, r1) → byte rule.Format 1 2 r1 ≡ Ok (format, r2) → word w16 rule.Started 0 65 r2 ≡ Ok (started, r3)
    → byte rule.Jobs 0 65 r3 ≡ Ok (count, r4) → each (job_at started) above count 0 r4 ≡ Ok (map raw_job jobs, r5)
    → jobs_at bytes ≡ Ok ((0x464A4350, (1, (started, (length jobs, map raw_job jobs)))), r5)
unfolding jobs_at
checkpoint_is bytes mark r1 format r2 started r3 count r4 jobs r5 e1 e2 e3 e4 e5 =
    let within_mark = (word_reader w32 (2 ^ 32) wide32 rule.Mark 0x464A4350 0x464A4351 (lit≤ tt)).fits bytes (mark, r1) e1 in
    let within_format = (byte_reader rule.Format 1 2).fits r1 (format, r2) e2 in
    let within_started = (word_reader w16 (2 ^ 16) wide16 rule.Started 0 65 (lit≤ tt)).fits r2 (started, r3) e3 in
    let few : started ≤ 65536 = omega (arith, within_started.1) in
    let mark_is : 0x464A4350 ≡ mark = omega (arith, within_mark.0, within_mark.1) in
    let format_is : 1 ≡ format = omega (arith, within_format.0, within_format.1) in
    let many = (each_reader (job_at started) above job_text (JobFits started) (λ least. job_reader started least few) count 0).fits r4 (map raw_job jobs, r5) e5 in
    let count_is : length jobs ≡ count = sym (length-map jobs raw_job) ∙ many.0 in
    let so : jobs_at bytes ≡ Ok ((mark, (format, (started, (count, map raw_job jobs)))), r5) = rw (e1, e2, e3, e4, e5) refl in
    so
    ∙ ap (λ (m : ℕ). let x : RawJobs × List ℕ = ((m, (format, (started, (count, map raw_job jobs)))), r5) in let made : Result (RawJobs × List ℕ) (Broken CheckpointRule) = Ok x in made) (sym mark_is)
    ∙ ap (λ (m : ℕ). let x : RawJobs × List ℕ = ((0x464A4350, (m, (started, (count, map raw_job jobs)))), r5) in let made : Result (RawJobs × List ℕ) (Broken CheckpointRule) = Ok x in made) (sym format_is)
    ∙ ap (λ (m : ℕ). let x : RawJobs × List ℕ = ((0x464A4350, (1, (started, (m, map raw_job jobs)))), r5) in let made : Result (RawJobs × List ℕ) (Broken CheckpointRule) = Ok x in made) (sym count_is)
