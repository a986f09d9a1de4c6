-- Which events begin with a word.
use Rattle.std.proofs.Common.{codes, ◌≡◌, ℕ, true, false, List, [], ◌∷◌, ◌++◌, refl, sym, ap, ◌∙◌}
use Rattle.domains.specs.Level.{Level, IsLevel, level_name}
use Rattle.file_history.specs.declared.entry.FileEvent.{FileEvent}
use Rattle.file_history.specs.declared.entry.FileEvent.TheVariants as event
use Rattle.file_history.specs.declared.entry.Refused.{Refused}
use Rattle.file_history.specs.declared.entry.Refused.TheVariants as refused
use Rattle.report_reader.specs.Events.{IsCreate, IsRead, IsWrite, event_rest, event_word, outcome_text, range_rest}
use Rattle.report_reader.specs.Lines.{IsEvent, IsRange}
use Rattle.report_reader.proofs.Cuts.{same_text, same_text-refl}

differ : (word one other : List ℕ) → word ≡ one → word ≡ other → same_text one other ≡ false → ⊥
differ word one other a b apart =
    let same : same_text one one ≡ true = same_text-refl one in
    let not_same : same_text one one ≡ false = ap (same_text one) (sym a ∙ b) ∙ apart in
    absurd cc

-- what is read behind the word create is each event that begins so
abbrev pub ReadsCreate : FileEvent → List ℕ → Type 0
ReadsCreate x rest = (level : Level) (f : FileEvent) → IsLevel level → IsEvent f → IsCreate f → rest ≡ level_name level ++ 32 ∷ outcome_text f → x ≡ f

abbrev pub ReadsWrite : FileEvent → List ℕ → Type 0
ReadsWrite x rest = (offset len : ℕ) (f : FileEvent) → IsRange offset len → IsEvent f → IsWrite offset len f → rest ≡ range_rest offset len f → x ≡ f

abbrev pub ReadsRead : FileEvent → List ℕ → Type 0
ReadsRead x rest = (offset len : ℕ) (f : FileEvent) → IsRange offset len → IsEvent f → IsRead offset len f → rest ≡ range_rest offset len f → x ≡ f

create_refused : (r : Refused) (declared : Level) (x : FileEvent) (word rest : List ℕ) → IsLevel declared → IsEvent (event.Refused r) → word ≡ codes "create" → word ≡ event_word (event.Refused r) → rest ≡ event_rest declared (event.Refused r) → ReadsCreate x rest → x ≡ (event.Refused r)
create_refused refused.CreateExists declared x word rest is h first named rest_is reads = reads declared (event.Refused refused.CreateExists) is h tt rest_is
create_refused (refused.CreateTooFew fault) declared x word rest is h first named rest_is reads = reads declared (event.Refused (refused.CreateTooFew fault)) is h tt rest_is
create_refused (refused.CreateNoRoom need got drives) declared x word rest is h first named rest_is reads = reads declared (event.Refused (refused.CreateNoRoom need got drives)) is h tt rest_is
create_refused refused.DeleteAbsent declared x word rest is h first named rest_is reads = absurd (differ word (codes "create") (codes "delete") first named refl)
create_refused (refused.WriteAbsent offset len) declared x word rest is h first named rest_is reads = absurd (differ word (codes "create") (codes "write") first named refl)
create_refused (refused.WriteTooFew offset len fault) declared x word rest is h first named rest_is reads = absurd (differ word (codes "create") (codes "write") first named refl)
create_refused (refused.WriteTooLong offset len count) declared x word rest is h first named rest_is reads = absurd (differ word (codes "create") (codes "write") first named refl)
create_refused (refused.WriteLost offset len l) declared x word rest is h first named rest_is reads = absurd (differ word (codes "create") (codes "write") first named refl)
create_refused (refused.WriteNoRoom offset len need got drives) declared x word rest is h first named rest_is reads = absurd (differ word (codes "create") (codes "write") first named refl)
create_refused (refused.ReadAbsent offset len) declared x word rest is h first named rest_is reads = absurd (differ word (codes "create") (codes "read") first named refl)
create_refused (refused.ReadLost offset len l) declared x word rest is h first named rest_is reads = absurd (differ word (codes "create") (codes "read") first named refl)
create_refused (refused.LevelAbsent level) declared x word rest is h first named rest_is reads = absurd (differ word (codes "create") (codes "level") first named refl)

pub create_event : (e : FileEvent) (declared : Level) (x : FileEvent) (word rest : List ℕ) → IsLevel declared → IsEvent e → word ≡ codes "create" → word ≡ event_word e → rest ≡ event_rest declared e → ReadsCreate x rest → x ≡ e
create_event (event.Created inode) declared x word rest is h first named rest_is reads = reads declared (event.Created inode) is h tt rest_is
create_event event.Deleted declared x word rest is h first named rest_is reads = absurd (differ word (codes "create") (codes "delete") first named refl)
create_event (event.Written offset len size change) declared x word rest is h first named rest_is reads = absurd (differ word (codes "create") (codes "write") first named refl)
create_event (event.Shown offset len bytes) declared x word rest is h first named rest_is reads = absurd (differ word (codes "create") (codes "read") first named refl)
create_event (event.LevelSet level) declared x word rest is h first named rest_is reads = absurd (differ word (codes "create") (codes "level") first named refl)
create_event (event.Placed job change) declared x word rest is h first named rest_is reads = absurd h
create_event (event.Dead generation position) declared x word rest is h first named rest_is reads = absurd (differ word (codes "create") (codes "dead") first named refl)
create_event (event.Barred job drives) declared x word rest is h first named rest_is reads = absurd h
create_event (event.Cleared job drives) declared x word rest is h first named rest_is reads = absurd h
create_event (event.Marked job count) declared x word rest is h first named rest_is reads = absurd h
create_event (event.Refused why) declared x word rest is h first named rest_is reads = create_refused why declared x word rest is h first named rest_is reads

write_refused : (r : Refused) (declared : Level) (x : FileEvent) (word rest : List ℕ) → IsLevel declared → IsEvent (event.Refused r) → word ≡ codes "write" → word ≡ event_word (event.Refused r) → rest ≡ event_rest declared (event.Refused r) → ReadsWrite x rest → x ≡ (event.Refused r)
write_refused refused.CreateExists declared x word rest is h first named rest_is reads = absurd (differ word (codes "write") (codes "create") first named refl)
write_refused (refused.CreateTooFew fault) declared x word rest is h first named rest_is reads = absurd (differ word (codes "write") (codes "create") first named refl)
write_refused (refused.CreateNoRoom need got drives) declared x word rest is h first named rest_is reads = absurd (differ word (codes "write") (codes "create") first named refl)
write_refused refused.DeleteAbsent declared x word rest is h first named rest_is reads = absurd (differ word (codes "write") (codes "delete") first named refl)
write_refused (refused.WriteAbsent offset len) declared x word rest is h first named rest_is reads = reads offset len (event.Refused (refused.WriteAbsent offset len)) h h (refl, refl) rest_is
write_refused (refused.WriteTooFew offset len fault) declared x word rest is h first named rest_is reads = reads offset len (event.Refused (refused.WriteTooFew offset len fault)) h.0 h (refl, refl) rest_is
write_refused (refused.WriteTooLong offset len count) declared x word rest is h first named rest_is reads = reads offset len (event.Refused (refused.WriteTooLong offset len count)) h.0 h (refl, refl) rest_is
write_refused (refused.WriteLost offset len l) declared x word rest is h first named rest_is reads = reads offset len (event.Refused (refused.WriteLost offset len l)) h.0 h (refl, refl) rest_is
write_refused (refused.WriteNoRoom offset len need got drives) declared x word rest is h first named rest_is reads = reads offset len (event.Refused (refused.WriteNoRoom offset len need got drives)) h.0 h (refl, refl) rest_is
write_refused (refused.ReadAbsent offset len) declared x word rest is h first named rest_is reads = absurd (differ word (codes "write") (codes "read") first named refl)
write_refused (refused.ReadLost offset len l) declared x word rest is h first named rest_is reads = absurd (differ word (codes "write") (codes "read") first named refl)
write_refused (refused.LevelAbsent level) declared x word rest is h first named rest_is reads = absurd (differ word (codes "write") (codes "level") first named refl)

pub write_event : (e : FileEvent) (declared : Level) (x : FileEvent) (word rest : List ℕ) → IsLevel declared → IsEvent e → word ≡ codes "write" → word ≡ event_word e → rest ≡ event_rest declared e → ReadsWrite x rest → x ≡ e
write_event (event.Created inode) declared x word rest is h first named rest_is reads = absurd (differ word (codes "write") (codes "create") first named refl)
write_event event.Deleted declared x word rest is h first named rest_is reads = absurd (differ word (codes "write") (codes "delete") first named refl)
write_event (event.Written offset len size change) declared x word rest is h first named rest_is reads = reads offset len (event.Written offset len size change) h.0 h (refl, refl) rest_is
write_event (event.Shown offset len bytes) declared x word rest is h first named rest_is reads = absurd (differ word (codes "write") (codes "read") first named refl)
write_event (event.LevelSet level) declared x word rest is h first named rest_is reads = absurd (differ word (codes "write") (codes "level") first named refl)
write_event (event.Placed job change) declared x word rest is h first named rest_is reads = absurd h
write_event (event.Dead generation position) declared x word rest is h first named rest_is reads = absurd (differ word (codes "write") (codes "dead") first named refl)
write_event (event.Barred job drives) declared x word rest is h first named rest_is reads = absurd h
write_event (event.Cleared job drives) declared x word rest is h first named rest_is reads = absurd h
write_event (event.Marked job count) declared x word rest is h first named rest_is reads = absurd h
write_event (event.Refused why) declared x word rest is h first named rest_is reads = write_refused why declared x word rest is h first named rest_is reads

read_refused : (r : Refused) (declared : Level) (x : FileEvent) (word rest : List ℕ) → IsLevel declared → IsEvent (event.Refused r) → word ≡ codes "read" → word ≡ event_word (event.Refused r) → rest ≡ event_rest declared (event.Refused r) → ReadsRead x rest → x ≡ (event.Refused r)
read_refused refused.CreateExists declared x word rest is h first named rest_is reads = absurd (differ word (codes "read") (codes "create") first named refl)
read_refused (refused.CreateTooFew fault) declared x word rest is h first named rest_is reads = absurd (differ word (codes "read") (codes "create") first named refl)
read_refused (refused.CreateNoRoom need got drives) declared x word rest is h first named rest_is reads = absurd (differ word (codes "read") (codes "create") first named refl)
read_refused refused.DeleteAbsent declared x word rest is h first named rest_is reads = absurd (differ word (codes "read") (codes "delete") first named refl)
read_refused (refused.WriteAbsent offset len) declared x word rest is h first named rest_is reads = absurd (differ word (codes "read") (codes "write") first named refl)
read_refused (refused.WriteTooFew offset len fault) declared x word rest is h first named rest_is reads = absurd (differ word (codes "read") (codes "write") first named refl)
read_refused (refused.WriteTooLong offset len count) declared x word rest is h first named rest_is reads = absurd (differ word (codes "read") (codes "write") first named refl)
read_refused (refused.WriteLost offset len l) declared x word rest is h first named rest_is reads = absurd (differ word (codes "read") (codes "write") first named refl)
read_refused (refused.WriteNoRoom offset len need got drives) declared x word rest is h first named rest_is reads = absurd (differ word (codes "read") (codes "write") first named refl)
read_refused (refused.ReadAbsent offset len) declared x word rest is h first named rest_is reads = reads offset len (event.Refused (refused.ReadAbsent offset len)) h h (refl, refl) rest_is
read_refused (refused.ReadLost offset len l) declared x word rest is h first named rest_is reads = reads offset len (event.Refused (refused.ReadLost offset len l)) h.0 h (refl, refl) rest_is
read_refused (refused.LevelAbsent level) declared x word rest is h first named rest_is reads = absurd (differ word (codes "read") (codes "level") first named refl)

pub read_event : (e : FileEvent) (declared : Level) (x : FileEvent) (word rest : List ℕ) → IsLevel declared → IsEvent e → word ≡ codes "read" → word ≡ event_word e → rest ≡ event_rest declared e → ReadsRead x rest → x ≡ e
read_event (event.Created inode) declared x word rest is h first named rest_is reads = absurd (differ word (codes "read") (codes "create") first named refl)
read_event event.Deleted declared x word rest is h first named rest_is reads = absurd (differ word (codes "read") (codes "delete") first named refl)
read_event (event.Written offset len size change) declared x word rest is h first named rest_is reads = absurd (differ word (codes "read") (codes "write") first named refl)
read_event (event.Shown offset len bytes) declared x word rest is h first named rest_is reads = reads offset len (event.Shown offset len bytes) h.0 h (refl, refl) rest_is
read_event (event.LevelSet level) declared x word rest is h first named rest_is reads = absurd (differ word (codes "read") (codes "level") first named refl)
read_event (event.Placed job change) declared x word rest is h first named rest_is reads = absurd h
read_event (event.Dead generation position) declared x word rest is h first named rest_is reads = absurd (differ word (codes "read") (codes "dead") first named refl)
read_event (event.Barred job drives) declared x word rest is h first named rest_is reads = absurd h
read_event (event.Cleared job drives) declared x word rest is h first named rest_is reads = absurd h
read_event (event.Marked job count) declared x word rest is h first named rest_is reads = absurd h
read_event (event.Refused why) declared x word rest is h first named rest_is reads = read_refused why declared x word rest is h first named rest_is reads
