-- What follows from each answer of a read.
use Rattle.std.proofs.Common.{◌≡◌, ℕ, ◌+◌, ◌≤◌, ◌<◌, ◌↔◌, List, [], Option, Result, Ok, Err, inl, inr, length, refl, sym, ap, ◌∙◌, append-nil}
use Rattle.std.specs.Result.{IsErrOf}
use Rattle.std.proofs.lemmas.Bool.{cases_lt}
use Rattle.std.proofs.lemmas.List.Elements.{All-nil}
use Rattle.board.specs.declared.board.Grow.{Grow}
use Rattle.board.specs.declared.board.Grow.TheVariants as grow
use Rattle.board.specs.declared.board_view.View.{View}
use Rattle.domains.specs.Shape.{Shape}
use Rattle.domains.specs.declared.by.By.{By}
use Rattle.flex_io.specs.declared.raw_place.RawPlace.{RawPlace}
use Rattle.fabric.specs.Cells.{FabricView}
use Rattle.fabric.specs.declared.hand.Hand.{Hand}
use Rattle.turn_cell.specs.Seats.{SeatView}
use Rattle.turn_cell.specs.declared.chronicle.Note.{Note}
use Rattle.file_history.specs.declared.entry.FileEvent.TheVariants.{Refused, Shown}
use Rattle.file_history.specs.declared.entry.Refused.{Refused as Refusal}
use Rattle.file_core.specs.FileView.{FileView, stored_groups, stored_inode}
use Rattle.file_core.specs.Notes.{noted}
use Rattle.file_core.specs.declared.chronicle.FileTerms.{FileTerms}
use Rattle.file_core.specs.declared.noted.Noted.{Noted}
use Rattle.file_turns.specs.FileTurns.{ChangesFile, terms_of}
use Rattle.file_turns.specs.PathRoom.{entries_of_path, with_room}
use Rattle.file_turns.proofs.FileTurnLemmas.{EntersFile, NotesOne, changes_none, changes_one, notes_one}
use Rattle.file_turns.specs.Paths.{Begins, IsRefused}
use Rattle.read_path.specs.Reads.{ReadTells, ReadsAtMost, RunsOut, TellsAt}
use Rattle.read_path.specs.declared.reading.ReadRefusal.{ReadRefusal}
use Rattle.read_path.specs.declared.reading.ReadRefusal.TheVariants.{Absent, Lost, LogFull, NoMemory}

-- want of memory is told only where there is room
not_full : (r : Result (Unit {0}) Grow) (room need : ℕ) → r ≡ Err grow.NoMemory → (IsErrOf r grow.LogFull ↔ (room < need)) → need ≤ room
not_full r room need is full = elim (cases_lt room need) [
  | inl over ↦ absurd (other r is (full.1 over))
  | inr within ↦ within
]
  where
    other : (a : Result (Unit {0}) Grow) → a ≡ Err grow.NoMemory → a ≡ Err grow.LogFull → ⊥
    other a memory log = cc

module _ {S : Type 0} where
  pub refused_one : (by : By) (view : View) (why : Refusal) (x y : FileView S) → IsRefused by view why x y → NotesOne (noted by view (Refused why) []) x y
  refused_one by view why x y is = notes_one (noted by view (Refused why) []) is.spare x.groups x.inode x y is.noted

  of_old : (spare : ℕ) (by : By) (view : View) (why : Refusal) (x y : FileView S) → IsRefused by view why (with_room spare x) y → IsRefused by view why x y
  of_old spare by view why x y is = record { spare = is.spare; noted = is.noted }

module _ {S : Type 0} (before within : SeatView (FileView S)) (x begun state : FileView S) (entered : EntersFile before within x begun) (same : state ≡ begun) where
  -- the file that the turn finds is of the shape that the seat knows
  pub shape_found : (shape : Shape) → before.last.shape ≡ shape → state.shape ≡ shape
  shape_found shape is = ap (λ (f : FileView S). f.shape) (same ∙ entered.begins) ∙ ap (λ (t : FileTerms). t.shape) entered.follows.fixed ∙ is

module _ {S : Type 0} (place_of : S → RawPlace) (content : S → Option (List ℕ)) (len_of : S → ℕ) where
  -- more memory is reserved, and nothing is read
  pub reserved : (x y : FileView S) → y ≡ with_room y.spare x → ReadsAtMost place_of content len_of x y
  reserved x y same = record {
    kept = same ∙ (λ i. record x { groups = sym (ap (λ (f : FileView S). f.groups) same) i; inode = sym (ap (λ (f : FileView S). f.inode) same) i; spare = y.spare });
    same = ap (stored_groups place_of content len_of) same;
    same_inode = ap (stored_inode place_of content len_of) same;
  }

  -- memory ran out before anything was done
  pub runs_out : (r : Result (Unit {0}) Grow) (f : FabricView) (x y : FileView S) (old new : Hand S) → r ≡ Err grow.NoMemory
      → (IsErrOf r grow.LogFull ↔ (x.room < length x.notes + entries_of_path x)) → y ≡ with_room y.spare x → new ≡ old → RunsOut place_of content len_of f x y old new
  runs_out r f x y old new none full file hand = record {
    room = not_full r x.room (length x.notes + entries_of_path x) none full;
    file = reserved x y file;
    hand = inl hand;
  }

  reads_change : (x y : FileView S) → ReadsAtMost place_of content len_of x y → ChangesFile x.seat x y
  reads_change x y reads = record {
    turns = ap (λ (f : FileView S). f.turns) reads.kept;
    more = [];
    notes = ap (λ (f : FileView S). f.notes) reads.kept ∙ sym (append-nil x.notes);
    own = All-nil (λ (note : Note Noted). (note.turn ≡ x.turns) × (note.seat ≡ x.seat));
    others = λ number other. refl;
    fixed = ap terms_of reads.kept;
  }

module _ {S : Type 0} (place_of : S → RawPlace) (content : S → Option (List ℕ)) (len_of reads : S → ℕ) where
  -- what is told at a view is told of a path that began at it
  pub tells_at : (result : Result (List ℕ) ReadRefusal) (f : FabricView) (by : By) (view : View) (offset len : ℕ) (x y : FileView S) (old new : Hand S)
      → Begins f x view old new → TellsAt place_of content len_of reads result by view offset len x y
      → ReadTells place_of content len_of reads result f by offset len x y old new
  tells_at (Ok bytes) f by view offset len x y old new begins did = record { view = view; begins = begins; did = did }
  tells_at (Err Absent) f by view offset len x y old new begins did = record { view = view; begins = begins; did = did }
  tells_at (Err (Lost loss)) f by view offset len x y old new begins did = record { view = view; begins = begins; did = did }
  tells_at (Err LogFull) f by view offset len x y old new begins did = absurd did
  tells_at (Err NoMemory) f by view offset len x y old new begins did = record { room = begins.room; file = did; hand = inr (view, begins.sees) }

  -- the memory that was reserved before is no part of what the answer tells
  pub tells_of_old : (spare : ℕ) (result : Result (List ℕ) ReadRefusal) (f : FabricView) (by : By) (offset len : ℕ) (x y : FileView S) (old new : Hand S)
      → ReadTells place_of content len_of reads result f by offset len (with_room spare x) y old new
      → ReadTells place_of content len_of reads result f by offset len x y old new
  tells_of_old spare (Ok bytes) f by offset len x y old new tells = record {
    view = tells.view;
    begins = record { room = tells.begins.room; sees = tells.begins.sees };
    did = record {
      present = tells.did.present;
      readable = tells.did.readable;
      groups = tells.did.groups;
      pulled = tells.did.pulled;
      same = tells.did.same;
      same_inode = tells.did.same_inode;
      shown = tells.did.shown;
      spare = tells.did.spare;
      noted = tells.did.noted;
    };
  }
  tells_of_old spare (Err Absent) f by offset len x y old new tells = record {
    view = tells.view;
    begins = record { room = tells.begins.room; sees = tells.begins.sees };
    did = record { absent = tells.did.absent; refused = of_old spare by tells.view _ x y tells.did.refused };
  }
  tells_of_old spare (Err (Lost loss)) f by offset len x y old new tells = record {
    view = tells.view;
    begins = record { room = tells.begins.room; sees = tells.begins.sees };
    did = record { present = tells.did.present; short = tells.did.short; refused = of_old spare by tells.view _ x y tells.did.refused };
  }
  tells_of_old spare (Err LogFull) f by offset len x y old new tells = record { full = tells.full; file = tells.file; hand = tells.hand }
  tells_of_old spare (Err NoMemory) f by offset len x y old new tells = record {
    room = tells.room;
    file = record { kept = tells.file.kept; same = tells.file.same; same_inode = tells.file.same_inode };
    hand = tells.hand;
  }

  -- each answer is of a change that a turn may make
  pub read_changes : (result : Result (List ℕ) ReadRefusal) (f : FabricView) (by : By) (offset len : ℕ) (x y : FileView S) (old new : Hand S)
      → ReadTells place_of content len_of reads result f by offset len x y old new → ChangesFile x.seat x y
  read_changes (Ok bytes) f by offset len x y old new tells =
      changes_one (noted by tells.view (Shown offset len bytes) []) x y
      (notes_one (noted by tells.view (Shown offset len bytes) []) tells.did.spare y.groups y.inode x y tells.did.noted)
  read_changes (Err Absent) f by offset len x y old new tells = changes_one _ x y (refused_one by tells.view _ x y tells.did.refused)
  read_changes (Err (Lost loss)) f by offset len x y old new tells = changes_one _ x y (refused_one by tells.view _ x y tells.did.refused)
  read_changes (Err LogFull) f by offset len x y old new tells = changes_none x y tells.file
  read_changes (Err NoMemory) f by offset len x y old new tells = reads_change place_of content len_of x y tells.file
