-- The log and its stamps together.
use Rattle.std.proofs.Common.{◌≡◌, ℕ, suc, List, [], ◌∷◌, ◌++◌, ◌+◌, ◌-◌, min, length, refl, ap, ◌∙◌, arith}
use Rattle.turn_cell.specs.declared.chronicle.Note.{Note}
use Rattle.board_history.specs.declared.entry.BoardEntry.{BoardEntry}
use Rattle.board.specs.History.{History, entries_of, stamped, with_entry}
use Rattle.board.specs.declared.entry_stamp.EntryStamp.{EntryStamp}

pub entries_of_stamped : (ss : List EntryStamp) (es : List BoardEntry) → length ss ≡ length es → entries_of (stamped ss es) ≡ es
entries_of_stamped [] [] same = refl
entries_of_stamped [] (e ∷ es) same = absurd (omega arith)
entries_of_stamped (s ∷ ss) [] same = refl
entries_of_stamped (s ∷ ss) (e ∷ es) same = ap (λ l. e ∷ l) (entries_of_stamped ss es (omega arith))

pub length_stamped : (ss : List EntryStamp) (es : List BoardEntry) → length ss ≡ length es → length (stamped ss es) ≡ length es
length_stamped [] [] same = refl
length_stamped [] (e ∷ es) same = absurd (omega arith)
length_stamped (s ∷ ss) [] same = refl
length_stamped (s ∷ ss) (e ∷ es) same = ap suc (length_stamped ss es (omega arith))

-- one more entry with its stamp
pub stamped_push : (ss : List EntryStamp) (es : List BoardEntry) (s : EntryStamp) (e : BoardEntry) → length ss ≡ length es
    → stamped (ss ++ s ∷ []) (es ++ e ∷ []) ≡ stamped ss es ++ record { turn = s.turn; seat = s.seat; entry = e } ∷ []
stamped_push [] [] s e same = refl
stamped_push [] (x ∷ xs) s e same = absurd (omega arith)
stamped_push (t ∷ ts) [] s e same = absurd (omega arith)
stamped_push (t ∷ ts) (x ∷ xs) s e same = ap (λ l. record { turn = t.turn; seat = t.seat; entry = x } ∷ l) (stamped_push ts xs s e (omega arith))

-- the board with one more entry, by its notes and what is spare
pub with_entry_is : (h : History) (notes : List (Note BoardEntry)) (spare : ℕ) (entry : BoardEntry)
    → notes ≡ h.notes ++ record { turn = h.turns; seat = h.seat; entry = entry } ∷ [] → spare ≡ h.spare - 1
    → record h { notes = notes; spare = spare } ≡ with_entry h entry
with_entry_is h notes spare entry same less = λ i. record h { notes = same i; spare = less i }

-- one less is spare
pub spare_less : (entries stamps room len entries' stamps' len' : ℕ) → entries' ≡ entries → stamps' ≡ stamps → len' ≡ len + 1
    → min (min entries' stamps') room - len' ≡ min (min entries stamps) room - len - 1
spare_less entries stamps room len entries' stamps' len' e s more =
    (λ i. min (min (e i) (s i)) room - more i) ∙ one_less (min (min entries stamps) room) len
  where
    one_less : (m len : ℕ) → m - (len + 1) ≡ m - len - 1
    one_less m len = omega arith
