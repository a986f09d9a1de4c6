-- The numbers of a checkpoint's fields are spelled as the checkpoint is, and fit where it keeps the rules.
use Rattle.std.proofs.Common.{◌≡◌, ℕ, ◌+◌, ◌<◌, ◌≤◌, Bool, true, false, cond, List, [], ◌∷◌, ◌++◌, length, map, Result, Ok, Err, refl, sym, ap, subst, ◌∙◌, append_assoc, arith, eqb}
use Rattle.std.proofs.lemmas.Bool.{eqb-true}
use Rattle.std.proofs.lemmas.List.{append-nil, length-map, nil_from_length}
use Rattle.std.specs.List.{AllByRecursion}
use Rattle.std.specs.Int.{w16, to_be_bytes}
use Rattle.domains.specs.Drive.{Drive, IsDrive}
use Rattle.domains.specs.declared.drive_set.DriveSet.{DriveSet}
use Rattle.job_rules.specs.Kinds.{code_of, phases_of}
use Rattle.job_rules.specs.declared.kind.JobKind.{JobKind}
use Rattle.job_rules.specs.declared.kind.JobKind.TheVariants.{FlexProtect, AutoBalance, SetProtectPlus, Collect, MultiScan, Upgrade, IntegrityScan, MediaScan, SmartPools, SyncCopy}
use Rattle.checkpoints.specs.declared.checkpoint.Checkpoint.{Checkpoint}
use Rattle.checkpoints.specs.declared.checkpoint.ItemSaved.{ItemSaved}
use Rattle.checkpoints.specs.declared.checkpoint.ItemSaved.TheVariants.{ToDo, Out, Whole, Lost, Short}
use Rattle.checkpoints.specs.declared.checkpoint.JobSaved.{JobSaved}
use Rattle.checkpoints.specs.declared.fault.CheckpointFault.{CheckpointFault}
use Rattle.checkpoints.specs.declared.fault.CheckpointRule.TheVariants as rule
use Rattle.checkpoints.specs.Saved.{AreJobs, AreShort, IsCheckpoint, IsItem, IsJob, checkpoint_bytes, drives_bytes, drives_of, flag, item_bytes, items_bytes, job_bytes, jobs_bytes}
use Rattle.field_readers.specs.FieldReaders.{broken}
use Rattle.checkpoints.specs.CheckpointFields.{Answers, above, all_of, jobs_at, phase_count, raw_drive, raw_item, raw_job, raw_jobs, raw_tail, stays, this_drive}
use Rattle.checkpoints.proofs.KindCodes.{below-phase, count-phases, phase-below}
use Rattle.checkpoints.proofs.SetOfDrives.{ascending-drives_of, drive-drives_of}
use Rattle.checkpoints.proofs.AllDrives.{AllAbove}
use Rattle.field_readers.proofs.Readers.{EachFits, IsBytes, IsWithin, bind_ok, test_ok, texts}
use Rattle.checkpoints.proofs.JobReaders.{DriveFits, ItemFits, TailFits, each_drive_fits, drive_text, item_text}
use Rattle.checkpoints.proofs.CheckpointReader.{JobFits, JobsFit, job_text, jobs_reader, jobs_text}

-- ---- spelling

texts-drives : (ds : List Drive) → texts drive_text (map raw_drive ds) ≡ drives_bytes ds
texts-drives [] = refl
texts-drives (d ∷ ds) = ap (λ (rest : List ℕ). d.node ∷ d.drive ∷ rest) (texts-drives ds)

item_spelled : (i : ItemSaved) → item_text (raw_item i) ≡ item_bytes i
item_spelled (ToDo next) = refl
item_spelled (Out next) = refl
item_spelled Whole = refl
item_spelled Lost = refl
item_spelled Short = refl

texts-items : (is : List ItemSaved) → texts item_text (map raw_item is) ≡ items_bytes is
texts-items [] = refl
texts-items (i ∷ is) = ap (λ (text : List ℕ). text ++ texts item_text (map raw_item is)) (item_spelled i) ∙ ap (λ (rest : List ℕ). item_bytes i ++ rest) (texts-items is)

four_parts : (a b c d : List ℕ) → a ++ (b ++ (c ++ d)) ≡ ((a ++ b) ++ c) ++ d
four_parts a b c d = sym (append_assoc (a ++ b) c d ∙ append_assoc a b (c ++ d))

job_spelled : (j : JobSaved) → job_text (raw_job j) ≡ job_bytes j
unfolding job_bytes
job_spelled j =
    let front : List ℕ → List ℕ = λ rest. to_be_bytes w16 j.job.number ++ (code_of j.kind ∷ j.priority ∷ (to_be_bytes w16 j.order ++ (flag j.paused ∷ j.phase ∷ length (drives_of j.bars) ∷ rest))) in
    ap front
    (ap (λ (text : List ℕ). text ++ ((flag j.earlier ∷ []) ++ (to_be_bytes w16 (length j.items) ++ texts item_text (map raw_item j.items)))) (texts-drives (drives_of j.bars))
    ∙ ap (λ (text : List ℕ). drives_bytes (drives_of j.bars) ++ ((flag j.earlier ∷ []) ++ (to_be_bytes w16 (length j.items) ++ text))) (texts-items j.items)
    ∙ four_parts (drives_bytes (drives_of j.bars)) (flag j.earlier ∷ []) (to_be_bytes w16 (length j.items)) (items_bytes j.items))

texts-jobs : (js : List JobSaved) → texts job_text (map raw_job js) ≡ jobs_bytes js
texts-jobs [] = refl
texts-jobs (j ∷ js) = ap (λ (text : List ℕ). text ++ texts job_text (map raw_job js)) (job_spelled j) ∙ ap (λ (rest : List ℕ). job_bytes j ++ rest) (texts-jobs js)

checkpoint_spelled : (c : Checkpoint) → jobs_text (raw_jobs c) ≡ checkpoint_bytes c
unfolding checkpoint_bytes
checkpoint_spelled c =
    let front : List ℕ → List ℕ = λ rest. 0x46 ∷ 0x4A ∷ 0x43 ∷ 0x50 ∷ 1 ∷ (to_be_bytes w16 c.started ++ (length c.jobs ∷ rest)) in
    ap front (texts-jobs c.jobs)

-- ---- the rules

item_fits : (i : ItemSaved) → IsItem i → ItemFits 0 (raw_item i)
item_fits (ToDo next) h = ((omega arith, omega arith), (omega arith, omega arith))
item_fits (Out next) h = ((omega arith, omega arith), (omega arith, omega arith))
item_fits Whole h = ((omega arith, omega arith), refl)
item_fits Lost h = ((omega arith, omega arith), refl)
item_fits Short h = ((omega arith, omega arith), refl)

fit_item : (i : ItemSaved) → ItemFits 0 (raw_item i) → IsItem i
fit_item (ToDo next) h = let below : next < 258 = h.1.1 in omega arith
fit_item (Out next) h = let below : next < 258 = h.1.1 in omega arith
fit_item Whole h = tt
fit_item Lost h = tt
fit_item Short h = tt

items_fit : (is : List ItemSaved) → AllByRecursion IsItem is → EachFits ItemFits stays 0 (map raw_item is)
items_fit [] all = tt
items_fit (i ∷ is) all = (item_fits i all.0, items_fit is all.1)

fit_items : (is : List ItemSaved) → EachFits ItemFits stays 0 (map raw_item is) → AllByRecursion IsItem is
fit_items [] all = tt
fit_items (i ∷ is) all = (fit_item i all.0, fit_items is all.1)

flag_fits : (b : Bool) → (0 ≤ flag b) × (flag b < 2)
flag_fits true = (omega arith, omega arith)
flag_fits false = (omega arith, omega arith)

code_fits : (kind : JobKind) → (0 ≤ code_of kind) × (code_of kind < 10)
code_fits FlexProtect = (omega arith, omega arith)
code_fits AutoBalance = (omega arith, omega arith)
code_fits SetProtectPlus = (omega arith, omega arith)
code_fits Collect = (omega arith, omega arith)
code_fits MultiScan = (omega arith, omega arith)
code_fits Upgrade = (omega arith, omega arith)
code_fits IntegrityScan = (omega arith, omega arith)
code_fits MediaScan = (omega arith, omega arith)
code_fits SmartPools = (omega arith, omega arith)
code_fits SyncCopy = (omega arith, omega arith)

above_none : (ds : List Drive) → AllByRecursion (λ (d : Drive). 1 ≤ d.node) ds → AllAbove 0 ds
above_none [] all = tt
above_none (d ∷ ds) all = (let some : 1 ≤ d.node = all.0 in omega arith, above_none ds all.1)

some_nodes : (ds : List Drive) → AllByRecursion IsDrive ds → AllByRecursion (λ (d : Drive). 1 ≤ d.node) ds
some_nodes [] all = tt
some_nodes (d ∷ ds) all = (all.0.some_node, some_nodes ds all.1)

drives_fit : (set : DriveSet) → EachFits DriveFits this_drive (0, 0) (map raw_drive (drives_of set))
drives_fit set =
    let drives = drive-drives_of set in
    each_drive_fits (0, 0) (drives_of set) (omega arith) (omega arith) (above_none (drives_of set) (some_nodes (drives_of set) drives)) (ascending-drives_of set) drives

tail_fits : (started least : ℕ) (j : JobSaved) → IsJob started least j → TailFits (raw_tail j)
tail_fits started least j is =
    let bars : length (drives_of j.bars) ≤ 200 = is.bars in
    let count : length j.items ≤ 256 = is.count in
    let items : IsWithin 0 257 (length j.items) = (omega arith, omega arith) in
    ((omega arith, omega arith), ((length-map (drives_of j.bars) raw_drive, drives_fit j.bars), (flag_fits j.earlier, (items, (length-map j.items raw_item, items_fit j.items is.items)))))

job_fits : (started least : ℕ) (j : JobSaved) → IsJob started least j → JobFits started least (raw_job j)
job_fits started least j is =
    let priority : j.priority ≤ 10 = is.priority in
    let phase : j.phase < phase_count (code_of j.kind) = subst (λ (n : ℕ). j.phase < n) (sym (count-phases j.kind)) (phase-below (phases_of j.kind) j.phase is.phase) in
    let urgent : IsWithin 1 11 j.priority = (is.some_priority, omega arith) in
    let order : IsWithin 0 started j.order = (omega arith, is.order) in
    let phases : IsWithin 0 (phase_count (code_of j.kind)) j.phase = (omega arith, phase) in
    ((is.job, is.number), (code_fits j.kind, (urgent, (order, (flag_fits j.paused, (phases, tail_fits started least j is))))))

fit_job : (started least : ℕ) (j : JobSaved) → JobFits started least (raw_job j) → IsJob started least j
fit_job started least j h =
    let priority : j.priority < 11 = h.1.1.0.1 in
    let phase : j.phase < phase_count (code_of j.kind) = h.1.1.1.1.1.0.1 in
    let tail = h.1.1.1.1.1.1 in
    let bars : length (drives_of j.bars) < 201 = tail.0.1 in
    let count : length j.items < 257 = tail.1.1.1.0.1 in
    record {
      job = h.0.0;
      number = h.0.1;
      some_priority = h.1.1.0.0;
      priority = omega arith;
      order = h.1.1.1.0.1;
      phase = below-phase (phases_of j.kind) j.phase (subst (λ (n : ℕ). j.phase < n) (count-phases j.kind) phase);
      bars = omega arith;
      count = omega arith;
      items = fit_items j.items tail.1.1.1.1.1;
    }

jobs_fit : (started least : ℕ) (js : List JobSaved) → AreJobs started least js → EachFits (JobFits started) above least (map raw_job js)
jobs_fit started least [] are = tt
jobs_fit started least (j ∷ js) are = (job_fits started least j are.0, jobs_fit started (j.job.number + 1) js are.1)

fit_jobs : (started least : ℕ) (js : List JobSaved) → EachFits (JobFits started) above least (map raw_job js) → AreJobs started least js
fit_jobs started least [] h = tt
fit_jobs started least (j ∷ js) h = (fit_job started least j h.0, fit_jobs started (j.job.number + 1) js h.1)

checkpoint_fits : (c : Checkpoint) → IsCheckpoint c → JobsFit (raw_jobs c)
checkpoint_fits c is =
    let few : c.started ≤ 64 = is.started in
    let short : length c.jobs ≤ 64 = is.count in
    let started : IsWithin 0 65 c.started = (omega arith, omega arith) in
    let count : IsWithin 0 65 (length c.jobs) = (omega arith, omega arith) in
    ((omega arith, omega arith), ((omega arith, omega arith), (started, (count, (length-map c.jobs raw_job, jobs_fit c.started 0 c.jobs is.jobs)))))

fit_checkpoint : (c : Checkpoint) → JobsFit (raw_jobs c) → IsCheckpoint c
fit_checkpoint c h =
    let started : c.started < 65 = h.1.1.0.1 in
    let count : length c.jobs < 65 = h.1.1.1.0.1 in
    record { started = omega arith; count = omega arith; jobs = fit_jobs c.started 0 c.jobs h.1.1.1.1.1 }

-- ---- both ways

pub is_found : (bytes : List ℕ) (c : Checkpoint) → IsBytes bytes → all_of bytes ≡ Ok (raw_jobs c) → IsCheckpoint c × (bytes ≡ checkpoint_bytes c)
unfolding all_of
is_found bytes c are e =
    let a = bind_ok (jobs_at bytes) (λ jobs. cond (eqb (length jobs.1) 0) (Ok jobs.0) (Err (broken rule.Left jobs.1))) (raw_jobs c) e in
    let g = test_ok (eqb (length a.0.1) 0) (broken rule.Left a.0.1) a.0.0 (raw_jobs c) a.2 in
    let fits = jobs_reader.fits bytes a.0 a.1 in
    let takes = jobs_reader.takes bytes a.0 are a.1 in
    let nothing : a.0.1 ≡ [] = nil_from_length a.0.1 (eqb-true _ _ g.0) in (
      fit_checkpoint c (subst JobsFit g.1 fits),
      takes.parts ∙ ap (λ (rest : List ℕ). jobs_text a.0.0 ++ rest) nothing ∙ append-nil (jobs_text a.0.0) ∙ ap jobs_text g.1 ∙ checkpoint_spelled c,
    )

pub is_read : (c : Checkpoint) → IsCheckpoint c → all_of (checkpoint_bytes c) ≡ Ok (raw_jobs c)
unfolding all_of
is_read c is =
    let again : jobs_at (checkpoint_bytes c) ≡ Ok (raw_jobs c, []) =
    ap jobs_at (sym (append-nil (jobs_text (raw_jobs c)) ∙ checkpoint_spelled c)) ∙ jobs_reader.again (raw_jobs c) [] (checkpoint_fits c is) in
    rw again refl

pub only_so : (bytes : List ℕ) (result : Result Checkpoint CheckpointFault) → Answers bytes result (all_of bytes) → (c : Checkpoint) → IsCheckpoint c → bytes ≡ checkpoint_bytes c
    → Answers bytes result (Ok (raw_jobs c))
only_so bytes result exact c is spelled = subst (Answers bytes result) (ap all_of spelled ∙ is_read c is) exact

pub short_jobs : (started least : ℕ) (js : List JobSaved) → AreJobs started least js → AreShort js
short_jobs started least [] are = tt
short_jobs started least (j ∷ js) are = ((are.0.bars, are.0.count), short_jobs started (j.job.number + 1) js are.1)
