-- The parts of a file's line, as the code reads them.
use Rattle.std.proofs.Common.{codes, ◌≡◌, ℕ, ◌<◌, ◌^◌, true, List, [], ◌∷◌, ◌++◌, refl, sym, ap, ◌∙◌, arith, append_assoc}
use Rattle.std.specs.Fmt.{decimal}
use Rattle.std.specs.List.{AllByRecursion}
use Rattle.domains.specs.Level.{Level, IsLevel, level_name}
use Rattle.domains.specs.declared.by.By.{By}
use Rattle.file_history.specs.declared.entry.FileEntry.{FileEntry}
use Rattle.file_history.specs.declared.entry.FileEvent.{FileEvent}
use Rattle.file_history.specs.declared.entry.FileEvent.TheVariants as event
use Rattle.file_history.specs.declared.entry.Refused.{Refused}
use Rattle.file_history.specs.declared.entry.Refused.TheVariants as refused
use Rattle.report.specs.FileLines.{create_text, event_text, range_text}
use Rattle.report.specs.RefusedParts.{operation_text}
use Rattle.report_reader.specs.Events.{event_rest, event_word, operation_word, outcome_text, outcome_word, refused_rest}
use Rattle.report_reader.specs.Fits.{FitsBy, FitsEvent, FitsFileEntry, FitsRefused}
use Rattle.report_reader.specs.Lines.{IsEvent, IsFileEntry, IsRefused, lacks}
use Rattle.report_reader.proofs.BoardTold.{by_fits, drive_fits}
use Rattle.report_reader.proofs.FileTold.{range_spelled, refused_spelled, shown_spelled, written_spelled}
use Rattle.report_reader.proofs.GroupsParted.{generations_fit, group_fits, groups_fit}
use Rattle.report_reader.proofs.WordsTold.{all_so}

-- the word of an outcome has no space
pub outcome_clean : (e : FileEvent) → lacks 32 (outcome_word e) ≡ true
outcome_clean (event.Created inode) = refl
outcome_clean event.Deleted = refl
outcome_clean (event.Written offset len size change) = refl
outcome_clean (event.Shown offset len bytes) = refl
outcome_clean (event.LevelSet level) = refl
outcome_clean (event.Placed job change) = refl
outcome_clean (event.Dead generation position) = refl
outcome_clean (event.Barred job drives) = refl
outcome_clean (event.Cleared job drives) = refl
outcome_clean (event.Marked job count) = refl
outcome_clean (event.Refused why) = refl

operation_clean : (r : Refused) → lacks 32 (operation_word r) ≡ true
operation_clean refused.CreateExists = refl
operation_clean (refused.CreateTooFew fault) = refl
operation_clean (refused.CreateNoRoom need got drives) = refl
operation_clean refused.DeleteAbsent = refl
operation_clean (refused.WriteAbsent offset len) = refl
operation_clean (refused.WriteTooFew offset len fault) = refl
operation_clean (refused.WriteTooLong offset len count) = refl
operation_clean (refused.WriteLost offset len l) = refl
operation_clean (refused.WriteNoRoom offset len need got drives) = refl
operation_clean (refused.ReadAbsent offset len) = refl
operation_clean (refused.ReadLost offset len l) = refl
operation_clean (refused.LevelAbsent level) = refl

refused_line : (declared : Level) (r : Refused) → event_text declared (event.Refused r) ≡ operation_word r ++ 32 ∷ refused_rest declared r
unfolding operation_text create_text
refused_line declared refused.CreateExists = refused_spelled declared refused.CreateExists
refused_line declared (refused.CreateTooFew fault) = refused_spelled declared (refused.CreateTooFew fault)
refused_line declared (refused.CreateNoRoom need got drives) = refused_spelled declared (refused.CreateNoRoom need got drives)
refused_line declared refused.DeleteAbsent = refused_spelled declared refused.DeleteAbsent
refused_line declared (refused.WriteAbsent offset len) =
    refused_spelled declared (refused.WriteAbsent offset len) ∙ range_spelled (codes "write") offset len (outcome_text (event.Refused (refused.WriteAbsent offset len)))
refused_line declared (refused.WriteTooFew offset len fault) =
    refused_spelled declared (refused.WriteTooFew offset len fault) ∙ range_spelled (codes "write") offset len (outcome_text (event.Refused (refused.WriteTooFew offset len fault)))
refused_line declared (refused.WriteTooLong offset len count) =
    refused_spelled declared (refused.WriteTooLong offset len count) ∙ range_spelled (codes "write") offset len (outcome_text (event.Refused (refused.WriteTooLong offset len count)))
refused_line declared (refused.WriteLost offset len l) =
    refused_spelled declared (refused.WriteLost offset len l) ∙ range_spelled (codes "write") offset len (outcome_text (event.Refused (refused.WriteLost offset len l)))
refused_line declared (refused.WriteNoRoom offset len need got drives) =
    refused_spelled declared (refused.WriteNoRoom offset len need got drives) ∙ range_spelled (codes "write") offset len (outcome_text (event.Refused (refused.WriteNoRoom offset len need got drives)))
refused_line declared (refused.ReadAbsent offset len) =
    refused_spelled declared (refused.ReadAbsent offset len) ∙ range_spelled (codes "read") offset len (outcome_text (event.Refused (refused.ReadAbsent offset len)))
refused_line declared (refused.ReadLost offset len l) =
    refused_spelled declared (refused.ReadLost offset len l) ∙ range_spelled (codes "read") offset len (outcome_text (event.Refused (refused.ReadLost offset len l)))
refused_line declared (refused.LevelAbsent level) = refused_spelled declared (refused.LevelAbsent level)

abbrev At : List ℕ → List ℕ → List ℕ → Type 0
At text word rest = (xs ys : List ℕ) → lacks 32 xs ≡ true → text ≡ xs ++ 32 ∷ ys → (word ≡ xs) × (rest ≡ ys)

abbrev Whole : List ℕ → List ℕ → List ℕ → Type 0
Whole text word rest = lacks 32 text ≡ true → (word ≡ text) × (rest ≡ [])

created_line : (declared : Level) (e : FileEvent) (inode : _) → e ≡ event.Created inode → event_text declared (event.Created inode) ≡ codes "create" ++ 32 ∷ event_rest declared (event.Created inode)
unfolding event_text create_text
created_line declared e inode is = simp append_assoc

dead_line : (declared : Level) (generation position : ℕ) → event_text declared (event.Dead generation position) ≡ codes "dead" ++ 32 ∷ (decimal generation ++ 32 ∷ decimal position)
unfolding event_text
dead_line declared generation position = simp append_assoc

level_line : (declared level : Level) → event_text declared (event.LevelSet level) ≡ codes "level" ++ 32 ∷ level_name level
unfolding event_text
level_line declared level = refl

delete_line : (declared : Level) → event_text declared event.Deleted ≡ codes "delete"
unfolding event_text
delete_line declared = refl

-- an event's text cut at its first space
pub event_cut : (declared : Level) (e : FileEvent) (text word rest : List ℕ) → IsEvent e → text ≡ event_text declared e → At text word rest → Whole text word rest
    → (word ≡ event_word e) × (rest ≡ event_rest declared e)
event_cut declared (event.Created inode) text word rest h is at whole = at (codes "create") (event_rest declared (event.Created inode)) refl (is ∙ created_line declared (event.Created inode) inode refl)
event_cut declared event.Deleted text word rest h is at whole =
    let parts = whole (ap (lacks 32) (is ∙ delete_line declared)) in (parts.0 ∙ is ∙ delete_line declared, parts.1)
event_cut declared (event.Written offset len size change) text word rest h is at whole =
    at (codes "write") (event_rest declared (event.Written offset len size change)) refl (is ∙ written_spelled declared offset len size change)
event_cut declared (event.Shown offset len bytes) text word rest h is at whole =
    at (codes "read") (event_rest declared (event.Shown offset len bytes)) refl (is ∙ shown_spelled declared offset len bytes)
event_cut declared (event.LevelSet level) text word rest h is at whole = at (codes "level") (level_name level) refl (is ∙ level_line declared level)
event_cut declared (event.Placed job change) text word rest h is at whole = absurd h
event_cut declared (event.Dead generation position) text word rest h is at whole = at (codes "dead") (decimal generation ++ 32 ∷ decimal position) refl (is ∙ dead_line declared generation position)
event_cut declared (event.Barred job drives) text word rest h is at whole = absurd h
event_cut declared (event.Cleared job drives) text word rest h is at whole = absurd h
event_cut declared (event.Marked job count) text word rest h is at whole = absurd h
event_cut declared (event.Refused why) text word rest h is at whole = at (operation_word why) (refused_rest declared why) (operation_clean why) (is ∙ refused_line declared why)

-- ---- entries of the code's types

refused_fits : (r : Refused) → IsRefused r → FitsRefused r
refused_fits refused.CreateExists h = tt
refused_fits (refused.CreateTooFew fault) h = record { have = omega (arith, h.have); need = omega (arith, h.need) }
refused_fits (refused.CreateNoRoom need got drives) h = (omega (arith, h.0), (omega (arith, h.1.0), all_so _ _ drive_fits drives h.1.1))
refused_fits refused.DeleteAbsent h = tt
refused_fits (refused.WriteAbsent offset len) h = (h.0, omega (arith, h.1))
refused_fits (refused.WriteTooFew offset len fault) h = ((h.0.0, omega (arith, h.0.1)), record { have = omega (arith, h.1.have); need = omega (arith, h.1.need) })
refused_fits (refused.WriteTooLong offset len count) h = ((h.0.0, omega (arith, h.0.1)), h.1)
refused_fits (refused.WriteLost offset len l) h = ((h.0.0, omega (arith, h.0.1)), record { generation = omega (arith, h.1.generation); have = omega (arith, h.1.have); need = omega (arith, h.1.need) })
refused_fits (refused.WriteNoRoom offset len need got drives) h = ((h.0.0, omega (arith, h.0.1)), (omega (arith, h.1.0), (omega (arith, h.1.1.0), all_so _ _ drive_fits drives h.1.1.1)))
refused_fits (refused.ReadAbsent offset len) h = (h.0, omega (arith, h.1))
refused_fits (refused.ReadLost offset len l) h = ((h.0.0, omega (arith, h.0.1)), record { generation = omega (arith, h.1.generation); have = omega (arith, h.1.have); need = omega (arith, h.1.need) })
refused_fits (refused.LevelAbsent level) h = h

event_fits : (e : FileEvent) → IsEvent e → FitsEvent e
event_fits (event.Created inode) h = group_fits inode h
event_fits event.Deleted h = tt
event_fits (event.Written offset len size change) h =
    ((h.0.0, omega (arith, h.0.1)), (h.1.0, record { old = generations_fit change.old h.1.1.old; new = groups_fit change.new h.1.1.new; inode = group_fits change.inode h.1.1.inode }))
event_fits (event.Shown offset len bytes) h = ((h.0.0, omega (arith, h.0.1)), h.1)
event_fits (event.LevelSet level) h = h
event_fits (event.Placed job change) h = absurd h
event_fits (event.Dead generation position) h = (omega (arith, h.0), omega (arith, h.1))
event_fits (event.Barred job drives) h = absurd h
event_fits (event.Cleared job drives) h = absurd h
event_fits (event.Marked job count) h = absurd h
event_fits (event.Refused why) h = refused_fits why h

pub file_fits : (e : FileEntry) → IsFileEntry e → FitsFileEntry e
file_fits e h = record { by = by_fits e.by h.by; epoch = omega (arith, h.epoch); event = event_fits e.event h.event }

abbrev made_entry : By → ℕ → FileEvent → FileEntry
made_entry by epoch event = record { by = by; epoch = epoch; event = event }

pub file_is : (by : By) (epoch : ℕ) (event : FileEvent) (e : FileEntry) → by ≡ e.by → epoch ≡ e.epoch → event ≡ e.event → made_entry by epoch event ≡ e
file_is by epoch event e a b d = rw (a, b, d) refl

pub dead_is : (g p generation position : ℕ) → g ≡ generation → p ≡ position → event.Dead g p ≡ event.Dead generation position
dead_is g p generation position a b = rw (a, b) refl
