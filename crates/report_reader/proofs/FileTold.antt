-- The line of a file's entry tells the entry.
use Rattle.std.proofs.Common.{codes, ◌≡◌, ℕ, ◌<◌, Bool, true, false, cond, List, [], ◌∷◌, ◌++◌, drop, refl, sym, ap, ◌∙◌, append_assoc}
use Rattle.std.specs.Fmt.{decimal}
use Rattle.std.specs.List.{AllByRecursion}
use Rattle.domains.specs.Level.{Level, IsLevel, level_name}
use Rattle.domains.specs.declared.by.By.{By}
use Rattle.domains.specs.declared.group.Group.{Group}
use Rattle.domains.specs.declared.group.Lost.{Lost}
use Rattle.domains.specs.declared.room.TooFew.{TooFew}
use Rattle.file_history.specs.declared.entry.Change.{Change}
use Rattle.file_history.specs.declared.entry.FileEntry.{FileEntry}
use Rattle.file_history.specs.declared.entry.FileEvent.{FileEvent}
use Rattle.file_history.specs.declared.entry.FileEvent.TheVariants as event
use Rattle.file_history.specs.declared.entry.Refused.{Refused}
use Rattle.file_history.specs.declared.entry.Refused.TheVariants as refused
use Rattle.report.specs.FileLines.{change_text, create_text, event_text, file_line, range_text, refused_text}
use Rattle.report.specs.RefusedParts.{operation_text, reason_text}
use Rattle.report.specs.Words.{by_text, bytes_text, group_text, groups_text, line_feed, numbers_text}
use Rattle.report.proofs.RefusalText.{refused_in_parts}
use Rattle.report_reader.specs.Fits.{FitsChange, FitsEvent, FitsFileEntry, FitsGroup, FitsRange, FitsRefused, IsWide}
use Rattle.report_reader.specs.Events.{file_text}
use Rattle.report_reader.specs.Lines.{inode_tail, lacks}
use Rattle.report_reader.proofs.Cuts.{IsWord, cut, cut_at, cut_none, lacks_both, number_again, number_in, number_word, pieces, same_text, spaced}
use Rattle.report_reader.proofs.WordsTold.{by_again, by_in, by_word, bytes_again, bytes_feed, bytes_in, group_again, group_in, group_word, groups_again, groups_and_inode, groups_tail-feed, level_again, level_in, level_word, numbers_again, numbers_in, numbers_word}
use Rattle.report_reader.proofs.RefusalTold.{FitsReason, Reason, absent, exists, few, full, long, lost, reason_again, reason_fits, reason_in, reason_of, reason_said, said, said_feed}

-- ---- what the reason of a refusal is to each operation

abbrev few_units : ℕ → ℕ → TooFew
few_units have need = record { have = have; need = need }

abbrev lost_units : ℕ → ℕ → ℕ → Lost
lost_units generation have need = record { generation = generation; have = have; need = need }

abbrev create_refusal : Reason → Refused
create_refusal exists = refused.CreateExists
create_refusal absent = refused.CreateExists
create_refusal (few have need) = refused.CreateTooFew (few_units have need)
create_refusal (long count) = refused.CreateExists
create_refusal (lost generation have need) = refused.CreateExists
create_refusal (full need got drives) = refused.CreateNoRoom need got drives

abbrev write_refusal : ℕ → ℕ → Reason → Refused
write_refusal offset len exists = refused.WriteAbsent offset len
write_refusal offset len absent = refused.WriteAbsent offset len
write_refusal offset len (few have need) = refused.WriteTooFew offset len (few_units have need)
write_refusal offset len (long count) = refused.WriteTooLong offset len count
write_refusal offset len (lost generation have need) = refused.WriteLost offset len (lost_units generation have need)
write_refusal offset len (full need got drives) = refused.WriteNoRoom offset len need got drives

abbrev read_refusal : ℕ → ℕ → Reason → Refused
read_refusal offset len exists = refused.ReadAbsent offset len
read_refusal offset len absent = refused.ReadAbsent offset len
read_refusal offset len (few have need) = refused.ReadAbsent offset len
read_refusal offset len (long count) = refused.ReadAbsent offset len
read_refusal offset len (lost generation have need) = refused.ReadLost offset len (lost_units generation have need)
read_refusal offset len (full need got drives) = refused.ReadAbsent offset len

-- ---- create

abbrev created : List ℕ → List ℕ → FileEvent
created word rest = cond (same_text word (codes "inode")) (event.Created (group_in rest)) (event.Refused (create_refusal (reason_in rest)))

unfoldable pub create_in : List ℕ → FileEvent
create_in text =
    let level = cut 32 text in
    created (cut 32 level.1).0 (cut 32 level.1).1

create_again : (level : Level) (rest : List ℕ) → IsLevel level → create_in (level_name level ++ 32 ∷ rest) ≡ created (cut 32 rest).0 (cut 32 rest).1
unfolding create_in
create_again level rest is = rw (cut_at 32 (level_name level) rest (level_word level is).0) refl

-- ---- delete

abbrev delete_in : List ℕ → FileEvent
delete_in [] = event.Deleted
delete_in (b ∷ bs) = event.Refused refused.DeleteAbsent

-- ---- write and read

unfoldable pub range_in : (ℕ → ℕ → List ℕ → List ℕ → FileEvent) → List ℕ → FileEvent
range_in then text =
    let offset = cut 32 text in
    let len = cut 32 offset.1 in
    then (number_in offset.0) (number_in len.0) (cut 32 len.1).0 (cut 32 len.1).1

range_again : (then : ℕ → ℕ → List ℕ → List ℕ → FileEvent) (offset len : ℕ) (rest : List ℕ) → FitsRange offset len
    → range_in then (decimal offset ++ 32 ∷ (decimal len ++ 32 ∷ rest)) ≡ then offset len (cut 32 rest).0 (cut 32 rest).1
unfolding range_in
range_again then offset len rest h =
    rw (cut_at 32 (decimal offset) (decimal len ++ 32 ∷ rest) (number_word offset h.0).0)
    (rw (cut_at 32 (decimal len) rest (number_word len h.1).0) (rw (number_again offset h.0, number_again len h.1) refl))

abbrev made_change : List ℕ → List Group × Group → Change
made_change old gs = record { old = old; new = gs.0; inode = gs.1 }

unfoldable pub written_in : ℕ → ℕ → List ℕ → FileEvent
written_in offset len text =
    let size = cut 32 text in
    let old = cut 32 (cut 32 size.1).1 in
    event.Written offset len (number_in size.0) (made_change (numbers_in old.0) (groups_and_inode (pieces 32 (cut 32 old.1).1)))

abbrev pub size_text : ℕ → Change → List ℕ
size_text size change = decimal size ++ 32 ∷ (codes "old" ++ 32 ∷ (numbers_text change.old ++ 32 ∷ (codes "new" ++ 32 ∷ (groups_text change.new ++ inode_tail change.inode))))

written_again : (offset len size : ℕ) (change : Change) → IsWide size → FitsChange change → written_in offset len (size_text size change) ≡ event.Written offset len size change
unfolding written_in
written_again offset len size change wide h =
    let rest = codes "new" ++ 32 ∷ (groups_text change.new ++ inode_tail change.inode) in
    rw (cut_at 32 (decimal size) (codes "old" ++ 32 ∷ (numbers_text change.old ++ 32 ∷ rest)) (number_word size wide).0)
    (rw (cut_at 32 (numbers_text change.old) rest (numbers_word change.old h.old).0)
    (rw (number_again size wide, numbers_again change.old h.old) (ap (λ gs. event.Written offset len size (made_change change.old gs)) (groups_again change.new change.inode h.new h.inode))))

abbrev pub write_word : ℕ → ℕ → List ℕ → List ℕ → FileEvent
write_word offset len word rest = cond (same_text word (codes "size")) (written_in offset len rest) (event.Refused (write_refusal offset len (reason_in rest)))

abbrev pub read_word : ℕ → ℕ → List ℕ → List ℕ → FileEvent
read_word offset len word rest = cond (same_text word (codes "shown")) (event.Shown offset len (bytes_in rest)) (event.Refused (read_refusal offset len (reason_in rest)))

-- ---- level and dead

abbrev level_or_refusal : Level → List ℕ → FileEvent
level_or_refusal level [] = event.LevelSet level
level_or_refusal level (b ∷ bs) = event.Refused (refused.LevelAbsent level)

unfoldable pub set_level_in : List ℕ → FileEvent
set_level_in text = level_or_refusal (level_in (cut 32 text).0) (cut 32 text).1

level_set_again : (level : Level) → IsLevel level → set_level_in (level_name level) ≡ event.LevelSet level
unfolding set_level_in
level_set_again level is = rw (cut_none 32 (level_name level) (level_word level is).0) (ap event.LevelSet (level_again level is))

level_refused_again : (level : Level) → IsLevel level → set_level_in (level_name level ++ 32 ∷ codes "refused absent") ≡ event.Refused (refused.LevelAbsent level)
unfolding set_level_in
level_refused_again level is = rw (cut_at 32 (level_name level) (codes "refused absent") (level_word level is).0) (ap (λ l. event.Refused (refused.LevelAbsent l)) (level_again level is))

unfoldable pub dead_in : List ℕ → FileEvent
dead_in text = event.Dead (number_in (cut 32 text).0) (number_in (cut 32 text).1)

dead_again : (generation position : ℕ) → IsWide generation → IsWide position → dead_in (decimal generation ++ 32 ∷ decimal position) ≡ event.Dead generation position
unfolding dead_in
dead_again generation position a b =
    rw (cut_at 32 (decimal generation) (decimal position) (number_word generation a).0) (rw (number_again generation a, number_again position b) refl)

-- ---- events

abbrev pub event_among : List ℕ → List ℕ → FileEvent
event_among word rest =
    cond (same_text word (codes "create")) (create_in rest)
    (cond (same_text word (codes "delete")) (delete_in rest)
    (cond (same_text word (codes "write")) (range_in write_word rest)
    (cond (same_text word (codes "read")) (range_in read_word rest)
    (cond (same_text word (codes "level")) (set_level_in rest) (dead_in rest)))))

abbrev pub event_in : List ℕ → FileEvent
event_in text = event_among (cut 32 text).0 (cut 32 text).1

-- the event is told by its text, which has no line feed
pub record IsEventTold (declared : Level) (e : FileEvent) : Type 0 where
  pub again : event_in (event_text declared e) ≡ e
  pub feed : lacks 10 (event_text declared e) ≡ true

told_by : (declared : Level) (e : FileEvent) (text : List ℕ) → event_text declared e ≡ text → event_in text ≡ e → lacks 10 text ≡ true → IsEventTold declared e
told_by declared e text is again feed = record { again = ap event_in is ∙ again; feed = ap (lacks 10) is ∙ feed }

-- ---- refusals

abbrev after_refused : Reason → List ℕ
after_refused r = codes "refused" ++ 32 ∷ said r

refused_feed : (r : Reason) → FitsReason r → lacks 10 (after_refused r) ≡ true
refused_feed r h = spaced (codes "refused") (said r) refl (said_feed r h)

pub refused_spelled : (declared : Level) (r : Refused) → event_text declared (event.Refused r) ≡ operation_text declared r ++ 32 ∷ after_refused (reason_of r)
unfolding event_text
refused_spelled declared r = refused_in_parts declared r ∙ ap (λ t. (operation_text declared r ++ codes " refused ") ++ t) (reason_said r) ∙ append_assoc (operation_text declared r) (codes " refused ") (said (reason_of r))

create_told : (declared : Level) (r : Refused) → IsLevel declared → FitsRefused r → operation_text declared r ≡ codes "create" ++ 32 ∷ level_name declared → create_refusal (reason_of r) ≡ r
    → IsEventTold declared (event.Refused r)
create_told declared r is h operation back =
    let rest = after_refused (reason_of r) in
    told_by declared (event.Refused r) (codes "create" ++ 32 ∷ (level_name declared ++ 32 ∷ rest))
    (refused_spelled declared r ∙ ap (λ t. t ++ 32 ∷ rest) operation)
    (create_again declared rest is ∙ ap (λ x. event.Refused (create_refusal x)) (reason_again (reason_of r) (reason_fits r h)) ∙ ap event.Refused back)
    (spaced (codes "create") (level_name declared ++ 32 ∷ rest) refl (spaced (level_name declared) rest (level_word declared is).1 (refused_feed (reason_of r) (reason_fits r h))))

abbrev range_words : ℕ → ℕ → List ℕ → List ℕ
range_words offset len rest = decimal offset ++ 32 ∷ (decimal len ++ 32 ∷ rest)

range_feed : (offset len : ℕ) (rest : List ℕ) → FitsRange offset len → lacks 10 rest ≡ true → lacks 10 (range_words offset len rest) ≡ true
range_feed offset len rest h feed = spaced (decimal offset) (decimal len ++ 32 ∷ rest) (number_word offset h.0).1 (spaced (decimal len) rest (number_word len h.1).1 feed)

pub range_spelled : (word : List ℕ) (offset len : ℕ) (rest : List ℕ) → range_text word offset len ++ 32 ∷ rest ≡ word ++ 32 ∷ range_words offset len rest
unfolding range_text
range_spelled word offset len rest = simp append_assoc

write_told : (declared : Level) (r : Refused) (offset len : ℕ) → FitsRange offset len → FitsRefused r → operation_text declared r ≡ range_text (codes "write") offset len
    → write_refusal offset len (reason_of r) ≡ r → IsEventTold declared (event.Refused r)
write_told declared r offset len range h operation back =
    let rest = after_refused (reason_of r) in
    told_by declared (event.Refused r) (codes "write" ++ 32 ∷ range_words offset len rest)
    (refused_spelled declared r ∙ ap (λ t. t ++ 32 ∷ rest) operation ∙ range_spelled (codes "write") offset len rest)
    (range_again write_word offset len rest range ∙ ap (λ x. event.Refused (write_refusal offset len x)) (reason_again (reason_of r) (reason_fits r h)) ∙ ap event.Refused back)
    (spaced (codes "write") (range_words offset len rest) refl (range_feed offset len rest range (refused_feed (reason_of r) (reason_fits r h))))

read_told : (declared : Level) (r : Refused) (offset len : ℕ) → FitsRange offset len → FitsRefused r → operation_text declared r ≡ range_text (codes "read") offset len
    → read_refusal offset len (reason_of r) ≡ r → IsEventTold declared (event.Refused r)
read_told declared r offset len range h operation back =
    let rest = after_refused (reason_of r) in
    told_by declared (event.Refused r) (codes "read" ++ 32 ∷ range_words offset len rest)
    (refused_spelled declared r ∙ ap (λ t. t ++ 32 ∷ rest) operation ∙ range_spelled (codes "read") offset len rest)
    (range_again read_word offset len rest range ∙ ap (λ x. event.Refused (read_refusal offset len x)) (reason_again (reason_of r) (reason_fits r h)) ∙ ap event.Refused back)
    (spaced (codes "read") (range_words offset len rest) refl (range_feed offset len rest range (refused_feed (reason_of r) (reason_fits r h))))

level_told : (declared level : Level) → IsLevel level → IsEventTold declared (event.Refused (refused.LevelAbsent level))
unfolding operation_text
level_told declared level is =
    told_by declared (event.Refused (refused.LevelAbsent level)) (codes "level" ++ 32 ∷ (level_name level ++ 32 ∷ codes "refused absent"))
    (refused_spelled declared (refused.LevelAbsent level)) (level_refused_again level is)
    (spaced (codes "level") (level_name level ++ 32 ∷ codes "refused absent") refl (spaced (level_name level) (codes "refused absent") (level_word level is).1 refl))

refusal_told : (declared : Level) (r : Refused) → IsLevel declared → FitsRefused r → IsEventTold declared (event.Refused r)
unfolding operation_text create_text
refusal_told declared refused.CreateExists is h = create_told declared refused.CreateExists is h refl refl
refusal_told declared (refused.CreateTooFew fault) is h = create_told declared (refused.CreateTooFew fault) is h refl refl
refusal_told declared (refused.CreateNoRoom need got drives) is h = create_told declared (refused.CreateNoRoom need got drives) is h refl refl
refusal_told declared refused.DeleteAbsent is h = told_by declared (event.Refused refused.DeleteAbsent) (codes "delete refused absent") (refused_spelled declared refused.DeleteAbsent) refl refl
refusal_told declared (refused.WriteAbsent offset len) is h = write_told declared (refused.WriteAbsent offset len) offset len h h refl refl
refusal_told declared (refused.WriteTooFew offset len fault) is h = write_told declared (refused.WriteTooFew offset len fault) offset len h.0 h refl refl
refusal_told declared (refused.WriteTooLong offset len count) is h = write_told declared (refused.WriteTooLong offset len count) offset len h.0 h refl refl
refusal_told declared (refused.WriteLost offset len l) is h = write_told declared (refused.WriteLost offset len l) offset len h.0 h refl refl
refusal_told declared (refused.WriteNoRoom offset len need got drives) is h = write_told declared (refused.WriteNoRoom offset len need got drives) offset len h.0 h refl refl
refusal_told declared (refused.ReadAbsent offset len) is h = read_told declared (refused.ReadAbsent offset len) offset len h h refl refl
refusal_told declared (refused.ReadLost offset len l) is h = read_told declared (refused.ReadLost offset len l) offset len h.0 h refl refl
refusal_told declared (refused.LevelAbsent level) is h = level_told declared level h

-- ---- what was done

created_told : (declared : Level) (inode : Group) → IsLevel declared → FitsGroup inode → IsEventTold declared (event.Created inode)
unfolding event_text create_text
created_told declared inode is h =
    told_by declared (event.Created inode) (codes "create" ++ 32 ∷ (level_name declared ++ 32 ∷ (codes "inode" ++ 32 ∷ group_text inode)))
    (simp append_assoc)
    (create_again declared (codes "inode" ++ 32 ∷ group_text inode) is ∙ ap event.Created (group_again inode h))
    (spaced (codes "create") (level_name declared ++ 32 ∷ (codes "inode" ++ 32 ∷ group_text inode)) refl
    (spaced (level_name declared) (codes "inode" ++ 32 ∷ group_text inode) (level_word declared is).1 (spaced (codes "inode") (group_text inode) refl (group_word inode h).1)))

change_spelled : (change : Change) → change_text change ≡ 32 ∷ (codes "old" ++ 32 ∷ (numbers_text change.old ++ 32 ∷ (codes "new" ++ 32 ∷ (groups_text change.new ++ inode_tail change.inode))))
unfolding change_text
change_spelled change = simp append_assoc

size_spelled : (offset len size : ℕ) (rest : List ℕ)
    → (range_text (codes "write") offset len ++ codes " size " ++ decimal size) ++ rest ≡ codes "write" ++ 32 ∷ range_words offset len (codes "size" ++ 32 ∷ (decimal size ++ rest))
unfolding range_text
size_spelled offset len size rest = simp append_assoc

pub written_spelled : (declared : Level) (offset len size : ℕ) (change : Change)
    → event_text declared (event.Written offset len size change) ≡ codes "write" ++ 32 ∷ range_words offset len (codes "size" ++ 32 ∷ size_text size change)
unfolding event_text
written_spelled declared offset len size change =
    ap (λ t. (range_text (codes "write") offset len ++ codes " size " ++ decimal size) ++ t) (change_spelled change)
    ∙ size_spelled offset len size (32 ∷ (codes "old" ++ 32 ∷ (numbers_text change.old ++ 32 ∷ (codes "new" ++ 32 ∷ (groups_text change.new ++ inode_tail change.inode)))))

written_told : (declared : Level) (offset len size : ℕ) (change : Change) → FitsRange offset len → IsWide size → FitsChange change → IsEventTold declared (event.Written offset len size change)
written_told declared offset len size change range wide h =
    let rest = codes "size" ++ 32 ∷ size_text size change in
    let tail = codes "new" ++ 32 ∷ (groups_text change.new ++ inode_tail change.inode) in
    told_by declared (event.Written offset len size change) (codes "write" ++ 32 ∷ range_words offset len rest) (written_spelled declared offset len size change)
    (range_again write_word offset len rest range ∙ written_again offset len size change wide h)
    (spaced (codes "write") (range_words offset len rest) refl (range_feed offset len rest range
    (spaced (codes "size") (size_text size change) refl (spaced (decimal size) (codes "old" ++ 32 ∷ (numbers_text change.old ++ 32 ∷ tail)) (number_word size wide).1
    (spaced (codes "old") (numbers_text change.old ++ 32 ∷ tail) refl (spaced (numbers_text change.old) tail (numbers_word change.old h.old).1
    (spaced (codes "new") (groups_text change.new ++ inode_tail change.inode) refl (groups_tail-feed change.new change.inode h.new h.inode))))))))

pub shown_spelled : (declared : Level) (offset len : ℕ) (bytes : List ℕ)
    → event_text declared (event.Shown offset len bytes) ≡ codes "read" ++ 32 ∷ range_words offset len (codes "shown" ++ 32 ∷ bytes_text bytes)
unfolding event_text range_text
shown_spelled declared offset len bytes = simp append_assoc

shown_told : (declared : Level) (offset len : ℕ) (bytes : List ℕ) → FitsRange offset len → AllByRecursion (λ (b : ℕ). b < 256) bytes → IsEventTold declared (event.Shown offset len bytes)
shown_told declared offset len bytes range h =
    let rest = codes "shown" ++ 32 ∷ bytes_text bytes in
    told_by declared (event.Shown offset len bytes) (codes "read" ++ 32 ∷ range_words offset len rest) (shown_spelled declared offset len bytes)
    (range_again read_word offset len rest range ∙ ap (event.Shown offset len) (bytes_again bytes h))
    (spaced (codes "read") (range_words offset len rest) refl (range_feed offset len rest range (spaced (codes "shown") (bytes_text bytes) refl (bytes_feed bytes h))))

dead_told : (declared : Level) (generation position : ℕ) → IsWide generation → IsWide position → IsEventTold declared (event.Dead generation position)
unfolding event_text
dead_told declared generation position a b =
    told_by declared (event.Dead generation position) (codes "dead" ++ 32 ∷ (decimal generation ++ 32 ∷ decimal position)) (simp append_assoc)
    (dead_again generation position a b)
    (spaced (codes "dead") (decimal generation ++ 32 ∷ decimal position) refl (spaced (decimal generation) (decimal position) (number_word generation a).1 (number_word position b).1))

set_told : (declared level : Level) → IsLevel level → IsEventTold declared (event.LevelSet level)
unfolding event_text
set_told declared level is =
    told_by declared (event.LevelSet level) (codes "level" ++ 32 ∷ level_name level) refl (level_set_again level is) (spaced (codes "level") (level_name level) refl (level_word level is).1)

deleted_told : (declared : Level) → IsEventTold declared event.Deleted
unfolding event_text
deleted_told declared = told_by declared event.Deleted (codes "delete") refl refl refl

event_told : (declared : Level) (e : FileEvent) → IsLevel declared → FitsEvent e → IsEventTold declared e
event_told declared (event.Created inode) is h = created_told declared inode is h
event_told declared event.Deleted is h = deleted_told declared
event_told declared (event.Written offset len size change) is h = written_told declared offset len size change h.0 h.1.0 h.1.1
event_told declared (event.Shown offset len bytes) is h = shown_told declared offset len bytes h.0 h.1
event_told declared (event.LevelSet level) is h = set_told declared level h
event_told declared (event.Placed job change) is h = absurd h
event_told declared (event.Dead generation position) is h = dead_told declared generation position h.0 h.1
event_told declared (event.Barred job drives) is h = absurd h
event_told declared (event.Cleared job drives) is h = absurd h
event_told declared (event.Marked job count) is h = absurd h
event_told declared (event.Refused why) is h = refusal_told declared why is h

-- ---- lines

pub file_spelled : (declared : Level) (e : FileEntry) → file_text declared e ≡ by_text e.by ++ 32 ∷ ((101 ∷ decimal e.epoch) ++ 32 ∷ event_text declared e.event)
file_spelled declared e = simp append_assoc

unfoldable pub file_in : List ℕ → FileEntry
file_in line =
    let by = cut 32 line in
    let epoch = cut 32 by.1 in
    record { by = by_in by.0; epoch = number_in (drop 1 epoch.0); event = event_in epoch.1 }

abbrev made_entry : By → ℕ → FileEvent → FileEntry
made_entry by epoch event = record { by = by; epoch = epoch; event = event }

file_parted : (by epoch rest : List ℕ) → IsWord by → IsWord epoch → file_in (by ++ 32 ∷ ((101 ∷ epoch) ++ 32 ∷ rest)) ≡ made_entry (by_in by) (number_in epoch) (event_in rest)
unfolding file_in
file_parted by epoch rest a b = rw (cut_at 32 by ((101 ∷ epoch) ++ 32 ∷ rest) a.0) (rw (cut_at 32 epoch rest b.0) refl)

pub file_again : (declared : Level) (e : FileEntry) → IsLevel declared → FitsFileEntry e → file_in (file_text declared e) ≡ e
file_again declared e is h =
    ap file_in (file_spelled declared e)
    ∙ file_parted (by_text e.by) (decimal e.epoch) (event_text declared e.event) (by_word e.by h.by) (number_word e.epoch h.epoch)
    ∙ ap (λ (b : By). made_entry b (number_in (decimal e.epoch)) (event_in (event_text declared e.event))) (by_again e.by h.by)
    ∙ ap (λ (n : ℕ). made_entry e.by n (event_in (event_text declared e.event))) (number_again e.epoch h.epoch)
    ∙ ap (made_entry e.by e.epoch) (event_told declared e.event is h.event).again

pub file_feed : (declared : Level) (e : FileEntry) → IsLevel declared → FitsFileEntry e → lacks 10 (file_text declared e) ≡ true
file_feed declared e is h =
    ap (lacks 10) (file_spelled declared e)
    ∙ spaced (by_text e.by) ((101 ∷ decimal e.epoch) ++ 32 ∷ event_text declared e.event) (by_word e.by h.by).1
    (spaced (101 ∷ decimal e.epoch) (event_text declared e.event) (number_word e.epoch h.epoch).1 (event_told declared e.event is h.event).feed)

pub file_line-is : (declared : Level) (e : FileEntry) → file_line declared e ≡ file_text declared e ++ line_feed
unfolding file_line
file_line-is declared e = refl
