-- Notes as they are kept, and one more of them.
use Rattle.std.proofs.Common.{◌≡◌, ℕ, suc, ◌+◌, ◌<◌, List, [], ◌∷◌, ◌++◌, length, map, get_or, refl, sym, ap, subst, ◌∙◌, arith, length-append}
use Rattle.std.specs.List.{AllByRecursion}
use Rattle.std.proofs.lemmas.List.{get_or_append_left}
use Rattle.turn_cell.specs.declared.chronicle.Note.{Note}
use Rattle.file_history.specs.declared.entry.FileEntry.{FileEntry}
use Rattle.file_history.specs.declared.view.EpochView.{EpochView}
use Rattle.file_core.specs.declared.noted.Noted.{Noted}
use Rattle.file_core.specs.declared.note_log.EntryStamp.{EntryStamp}
use Rattle.file_core.specs.Notes.{last_epoch_of}
use Rattle.file_core.specs.NoteLog.{stamped, stamped_entry, no_view, KeepsNotes, IsKept}

pub length-stamped : (ss : List EntryStamp) (es : List FileEntry) (views : List EpochView) → length ss ≡ length es → length (stamped ss es views) ≡ length es
length-stamped [] [] views same = refl
length-stamped [] (e ∷ es) views same = absurd (omega (arith, same))
length-stamped (s ∷ ss) [] views same = absurd (omega (arith, same))
length-stamped (s ∷ ss) (e ∷ es) views same = ap suc (length-stamped ss es views (omega (arith, same)))

pub entries_of_stamped : (ss : List EntryStamp) (es : List FileEntry) (views : List EpochView) → length ss ≡ length es
    → map (λ (n : Note Noted). n.entry.told.entry) (stamped ss es views) ≡ es
entries_of_stamped [] [] views same = refl
entries_of_stamped [] (e ∷ es) views same = absurd (omega (arith, same))
entries_of_stamped (s ∷ ss) [] views same = absurd (omega (arith, same))
entries_of_stamped (s ∷ ss) (e ∷ es) views same = ap (λ (l : List FileEntry). e ∷ l) (entries_of_stamped ss es views (omega (arith, same)))

-- a note keeps its view when more views are kept
stamped_entry-more : (views more : List EpochView) (s : EntryStamp) (e : FileEntry) → s.view < length views
    → stamped_entry (views ++ more) s e ≡ stamped_entry views s e
stamped_entry-more views more s e known =
    ap (λ (v : EpochView). let n : Note Noted = record { turn = s.turn; seat = s.seat; entry = record { view = v; told = record { entry = e; payload = s.payload } } } in n)
    (get_or_append_left views more no_view s.view known)

-- one more entry with its stamp
pub stamped-push : (ss : List EntryStamp) (es : List FileEntry) (views more : List EpochView) (s : EntryStamp) (e : FileEntry) → length ss ≡ length es
    → AllByRecursion (λ (t : EntryStamp). t.view < length views) ss
    → stamped (ss ++ s ∷ []) (es ++ e ∷ []) (views ++ more) ≡ stamped ss es views ++ stamped_entry (views ++ more) s e ∷ []
stamped-push [] [] views more s e same known = refl
stamped-push [] (x ∷ xs) views more s e same known = absurd (omega (arith, same))
stamped-push (t ∷ ts) [] views more s e same known = absurd (omega (arith, same))
stamped-push (t ∷ ts) (x ∷ xs) views more s e same known =
    ap (λ (n : Note Noted). n ∷ stamped (ts ++ s ∷ []) (xs ++ e ∷ []) (views ++ more)) (stamped_entry-more views more t x known.0)
    ∙ ap (λ (l : List (Note Noted)). stamped_entry views t x ∷ l) (stamped-push ts xs views more s e (omega (arith, same)) known.1)

pub last_epoch_of-push : (ns : List (Note Noted)) (n : Note Noted) → last_epoch_of (ns ++ n ∷ []) ≡ n.entry.told.entry.epoch
last_epoch_of-push [] n = refl
last_epoch_of-push (x ∷ []) n = refl
last_epoch_of-push (x ∷ y ∷ ys) n = last_epoch_of-push (y ∷ ys) n

known-more : (ss : List EntryStamp) (views more : List EpochView) → AllByRecursion (λ (t : EntryStamp). t.view < length views) ss
    → AllByRecursion (λ (t : EntryStamp). t.view < length (views ++ more)) ss
known-more [] views more all = tt
known-more (s ∷ ss) views more all = (let here : s.view < length views = all.0 in omega (arith, here, length-append views more), known-more ss views more all.1)

All-push : {A : Type 0} (P : A → Type 0) (xs : List A) (x : A) → AllByRecursion P xs → P x → AllByRecursion P (xs ++ x ∷ [])
All-push P [] x all here = (here, tt)
All-push P (y ∷ ys) x all here = (all.0, All-push P ys x all.1 here)

pub KeepsNotes-push : (es : List FileEntry) (ss : List EntryStamp) (views new : List EpochView) (view : EpochView) (s : EntryStamp) (e : FileEntry)
    → KeepsNotes es ss views → IsKept view views new s.view → KeepsNotes (es ++ e ∷ []) (ss ++ s ∷ []) new
KeepsNotes-push es ss views new view s e kept is =
    let stamps = length-append ss (s ∷ []) in
    let entries = length-append es (e ∷ []) in
    let whole = kept.whole in
    let few = kept.few in
    let one = is.one in
    let long : length new ≡ length views + length is.more = ap (λ (l : List EpochView). length l) is.kept ∙ length-append views is.more in
    let known : AllByRecursion (λ (t : EntryStamp). t.view < length new) ss =
    subst (λ (l : List EpochView). AllByRecursion (λ (t : EntryStamp). t.view < length l) ss) (sym is.kept) (known-more ss views is.more kept.known) in record {
      whole = omega (arith, whole, stamps, entries);
      known = All-push (λ (t : EntryStamp). t.view < length new) ss s known is.within;
      few = omega (arith, few, one, long, entries);
    }

-- the notes with one more
pub stamped-kept : (es : List FileEntry) (ss : List EntryStamp) (views new : List EpochView) (view : EpochView) (turn seat index : ℕ) (payload : List ℕ) (e : FileEntry)
    → KeepsNotes es ss views → IsKept view views new index
    → stamped (ss ++ record { turn = turn; seat = seat; view = index; payload = payload } ∷ []) (es ++ e ∷ []) new
    ≡ stamped ss es views ++ record { turn = turn; seat = seat; entry = record { view = view; told = record { entry = e; payload = payload } } } ∷ []
stamped-kept es ss views new view turn seat index payload e kept is =
    let s : EntryStamp = record { turn = turn; seat = seat; view = index; payload = payload } in
    ap (stamped (ss ++ s ∷ []) (es ++ e ∷ [])) is.kept
    ∙ stamped-push ss es views is.more s e kept.whole kept.known
    ∙ ap (λ (v : EpochView). stamped ss es views ++ record { turn = turn; seat = seat; entry = record { view = v; told = record { entry = e; payload = payload } } } ∷ [])
    (ap (λ (l : List EpochView). get_or l index no_view) (sym is.kept) ∙ is.here)
