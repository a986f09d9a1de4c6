-- One turn of a seat at a file's cell.
use Rattle.std.proofs.Common.{◌≡◌, ℕ, ◌+◌, ◌≤◌, List, [], ◌∷◌, ◌++◌, Option, append-nil, refl, sym, ap, subst, ◌∙◌}
use Rattle.std.proofs.lemmas.List.Elements.{All-cons, All-nil}
use Rattle.turn_cell.specs.Seats.{Enters, SeatView, in_turn, left}
use Rattle.turn_cell.specs.declared.chronicle.Note.{Note}
use Rattle.file_core.specs.FileView.{FileView, with_note}
use Rattle.striped_groups.specs.StoredGroups.{GroupSlots}
use Rattle.file_core.specs.declared.chronicle.FileTerms.{FileTerms}
use Rattle.file_core.specs.declared.noted.Noted.{Noted}
use Rattle.file_turns.specs.FileTurns.{ChangesFile, FileTurn, terms_of}
use Rattle.file_turns.specs.PathRoom.{with_room}

module _ {S : Type 0} where
  -- what a turn at a file's cell tells at its start
  abbrev pub EntersFile : SeatView (FileView S) → SeatView (FileView S) → FileView S → FileView S → Type 0
  EntersFile before within x state =
      Enters {E = Noted} {F = FileTerms} (λ (f : FileView S). f.turns) (λ (f : FileView S). f.notes) (λ (f : FileView S) (k : ℕ). []) (λ (f : FileView S). record { file = f.file; shape = f.shape; level = f.level; room = f.room })
      (λ (f : FileView S) (seat : ℕ). record f { seat = seat }) before within x state

  -- the file has this note more, of its turn and seat
  pub record NotesOne (n : Noted) (x y : FileView S) : Type 0 where
    pub turns : y.turns ≡ x.turns
    pub notes : y.notes ≡ x.notes ++ record { turn = x.turns; seat = x.seat; entry = n } ∷ []
    pub terms : terms_of y ≡ terms_of x

  pub notes_one : (n : Noted) (spare : ℕ) (groups : List (GroupSlots S)) (inode : Option (GroupSlots S)) (x y : FileView S)
      → y ≡ record (with_note (with_room spare x) n) { groups = groups; inode = inode } → NotesOne n x y
  notes_one n spare groups inode x y is = record {
    turns = ap (λ (f : FileView S). f.turns) is;
    notes = ap (λ (f : FileView S). f.notes) is;
    terms = ap terms_of is;
  }

  -- the note is one of this turn and seat
  abbrev IsOfTurn : FileView S → Note Noted → Type 0
  IsOfTurn x note = (note.turn ≡ x.turns) × (note.seat ≡ x.seat)

  pub changes_one : (n : Noted) (x y : FileView S) → NotesOne n x y → ChangesFile x.seat x y
  changes_one n x y one = record {
    turns = one.turns;
    more = record { turn = x.turns; seat = x.seat; entry = n } ∷ [];
    notes = one.notes;
    own = All-cons (IsOfTurn x) (record { turn = x.turns; seat = x.seat; entry = n }) [] (refl, refl) (All-nil (IsOfTurn x));
    others = λ number other. refl;
    fixed = one.terms;
  }

  pub changes_none : (x y : FileView S) → y ≡ with_room y.spare x → ChangesFile x.seat x y
  changes_none x y same = record {
    turns = ap (λ (f : FileView S). f.turns) same;
    more = [];
    notes = ap (λ (f : FileView S). f.notes) same ∙ sym (append-nil x.notes);
    own = All-nil (IsOfTurn x);
    others = λ number other. refl;
    fixed = ap terms_of same;
  }

  -- a change of the file with which a turn began is one of the file that it found
  pub turn_within : (before within : SeatView (FileView S)) (x begun state y : FileView S) → EntersFile before within x begun → state ≡ begun
      → ChangesFile state.seat state y → ChangesFile within.number x y
  turn_within before within x begun state y entered same changes =
      let at_x = subst (λ (s : FileView S). ChangesFile s.seat s y) (same ∙ entered.begins) changes in
      subst (λ (w : SeatView (FileView S)). ChangesFile w.number x y) (sym entered.seat)
      (record { turns = at_x.turns; more = at_x.more; notes = at_x.notes; own = at_x.own; others = at_x.others; fixed = at_x.fixed })

  -- the turn as a whole
  pub file_turn : (what : FileView S → FileView S → Type 0) (before within after : SeatView (FileView S)) (x begun state y : FileView S)
      → EntersFile before within x begun → state ≡ begun → what state y → after ≡ left within (x.turns + 1) (record y { turns = y.turns + 1 })
      → FileTurn what before after
  file_turn what before within after x begun state y entered same did leaves = record {
    found = x;
    done = y;
    turns = entered.turns;
    follows = entered.follows;
    lone = entered.lone;
    did = subst (λ (s : FileView S). what s y) (same ∙ entered.begins) did;
    now = leaves ∙ ap (λ seat. left seat (x.turns + 1) (record y { turns = y.turns + 1 })) entered.seat;
  }
