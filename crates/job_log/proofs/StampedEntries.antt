-- The log and its stamps together.
use Rattle.std.proofs.Common.{◌≡◌, ℕ, suc, List, [], ◌∷◌, ◌++◌, ◌+◌, ◌-◌, ◌<◌, ◌≤◌, min, length, refl, ap, sym, ◌∙◌, arith, vec_len}
use Rattle.turn_cell.specs.declared.chronicle.Note.{Note}
use Rattle.engine_history.specs.Begun.{entries_of}
use Rattle.engine_history.specs.Jobs.{jobs_after}
use Rattle.engine_history.specs.declared.entry.EngineEntry.{EngineEntry}
use Rattle.job_log.specs.JobLog.{JobLogView, jobs_of, log_of, stamped, with_entry}
use Rattle.job_log.specs.contracts.job_log.JobLog.{the_view}
use Rattle.job_log.specs.declared.entry_stamp.EntryStamp.{EntryStamp}
use Rattle.job_log.specs.declared.job_log.JobLog.TheInside.{Inside}

pub entries_of_stamped : (ss : List EntryStamp) (es : List EngineEntry) → length ss ≡ length es → entries_of (stamped ss es) ≡ es
entries_of_stamped [] [] same = refl
entries_of_stamped [] (e ∷ es) same = absurd (omega arith)
entries_of_stamped (s ∷ ss) [] same = refl
entries_of_stamped (s ∷ ss) (e ∷ es) same = ap (λ l. e ∷ l) (entries_of_stamped ss es (omega arith))

pub length_stamped : (ss : List EntryStamp) (es : List EngineEntry) → length ss ≡ length es → length (stamped ss es) ≡ length es
length_stamped [] [] same = refl
length_stamped [] (e ∷ es) same = absurd (omega arith)
length_stamped (s ∷ ss) [] same = refl
length_stamped (s ∷ ss) (e ∷ es) same = ap suc (length_stamped ss es (omega arith))

-- one more entry with its stamp
pub stamped_push : (ss : List EntryStamp) (es : List EngineEntry) (s : EntryStamp) (e : EngineEntry) → length ss ≡ length es
    → stamped (ss ++ s ∷ []) (es ++ e ∷ []) ≡ stamped ss es ++ record { turn = s.turn; seat = s.seat; entry = e } ∷ []
stamped_push [] [] s e same = refl
stamped_push [] (x ∷ xs) s e same = absurd (omega arith)
stamped_push (t ∷ ts) [] s e same = absurd (omega arith)
stamped_push (t ∷ ts) (x ∷ xs) s e same = ap (λ l. record { turn = t.turn; seat = t.seat; entry = x } ∷ l) (stamped_push ts xs s e (omega arith))

-- what contracts see is what the fields have
pub log_inside : (b : Inside) (h : JobLogView) → the_view b ≡ h → length b.stamps.items ≡ length b.entries.items → b.entries.items ≡ log_of h
log_inside b h is same = sym (entries_of_stamped b.stamps.items b.entries.items same) ∙ ap log_of is

pub count_inside : (b : Inside) (h : JobLogView) → the_view b ≡ h → length b.stamps.items ≡ length b.entries.items → length h.notes ≡ vec_len b.entries
count_inside b h is same = sym (ap (λ (x : JobLogView). length x.notes) is) ∙ length_stamped b.stamps.items b.entries.items same ∙ sym b.entries.ok.0

pub jobs_inside : (b : Inside) (h : JobLogView) → the_view b ≡ h → length b.stamps.items ≡ length b.entries.items
    → b.jobs.items ≡ jobs_after (record { shape = b.shape; files = b.files }) b.entries.items → b.jobs.items ≡ jobs_of h
jobs_inside b h is same now =
    now ∙ ap (λ (l : List EngineEntry). jobs_after (record { shape = b.shape; files = b.files }) l) (sym (entries_of_stamped b.stamps.items b.entries.items same)) ∙ ap jobs_of is

-- what is spare, less one
pub spare_less : (entry_room stamp_room room len entry_room_now stamp_room_now len_now : ℕ) → entry_room_now ≡ entry_room → stamp_room_now ≡ stamp_room → len_now ≡ len + 1
    → min (min entry_room_now stamp_room_now) room - len_now ≡ min (min entry_room stamp_room) room - len - 1
spare_less entry_room stamp_room room len entry_room_now stamp_room_now len_now entries stamps counted =
    (λ i. min (min (entries i) (stamps i)) room - counted i) ∙ one_less (min (min entry_room stamp_room) room) len
  where
    one_less : (m len : ℕ) → m - (len + 1) ≡ m - len - 1
    one_less m len = omega arith

-- the log with an entry more, from its notes and what is spare
pub with_entry_is : (h : JobLogView) (notes : List (Note EngineEntry)) (spare : ℕ) (e : EngineEntry) → notes ≡ h.notes ++ record { turn = h.turns; seat = h.seat; entry = e } ∷ [] → spare ≡ h.spare - 1
    → (record h { notes = notes; spare = spare }) ≡ with_entry h e
with_entry_is h notes spare e more less i = record h { notes = more i; spare = less i }

-- where an entry is spare, the log is not at its room
pub below_room : (memory room len : ℕ) → 1 ≤ min memory room - len → len < room
below_room memory room len spare = grind arith

-- and there is memory for it
pub below_memory : (entry_room stamp_room room len : ℕ) → 1 ≤ min (min entry_room stamp_room) room - len → (len < entry_room) × (len < stamp_room)
below_memory entry_room stamp_room room len spare = (grind arith, grind arith)
