-- What a seat's own notes placed on drives, and what they took away from them: its account with the file.
use Rattle.std.specs.Prelude.{◌≡◌, ℕ, ◌+◌, ◌==◌, Bool, true, not, if◌then◌else◌, List, [], ◌∷◌, ◌++◌, length, take, drop, take_while, count_by}
use Rattle.domains.specs.Level.{Level}
use Rattle.domains.specs.Place.{Place}
use Rattle.domains.specs.declared.group.Group.{Group}
use Rattle.turn_cell.specs.Notes.{notes_by}
use Rattle.turn_cell.specs.declared.chronicle.Note.{Note}
use Rattle.file_history.specs.Layout.{Layout, all_groups, empty_layout, group_list, is_among, layout_after, layout_after_event, places_of}
use Rattle.file_history.specs.declared.entry.FileEvent.{FileEvent}
use Rattle.file_history.specs.declared.entry.FileEvent.TheVariants.{Created, Deleted, Written, Shown, LevelSet, Placed, Dead, Barred, Cleared, Marked, Refused}
use Rattle.file_core.specs.declared.noted.Noted.{Noted}
use Rattle.file_core.specs.Notes.{told_of}

-- how many units of the groups stand at places that pass the test
abbrev pub units_at : (Place → Bool) → List Group → ℕ
units_at p groups = count_by p (places_of groups)

-- the groups that an event places. A unit that a repair keeps is placed anew, and taken away too
abbrev pub groups_placed : FileEvent → List Group
groups_placed (Created inode) = inode ∷ []
groups_placed Deleted = []
groups_placed (Written offset len size change) = change.new ++ change.inode ∷ []
groups_placed (Shown offset len bytes) = []
groups_placed (LevelSet level) = []
groups_placed (Placed job change) = change.new ++ change.inode ∷ []
groups_placed (Dead generation position) = []
groups_placed (Barred job drives) = []
groups_placed (Cleared job drives) = []
groups_placed (Marked job count) = []
groups_placed (Refused why) = []

-- the run of groups that a change takes out of the map
abbrev pub run_replaced : List ℕ → List Group → List Group
run_replaced old groups =
    take (length old) (drop (length (take_while (λ (g : Group). not (is_among old g.generation)) groups)) groups)

-- the groups of the layout that an event takes away
abbrev pub groups_taken : FileEvent → Layout → List Group
groups_taken (Created inode) l = all_groups l
groups_taken Deleted l = all_groups l
groups_taken (Written offset len size change) l = run_replaced change.old l.groups ++ group_list l.inode
groups_taken (Shown offset len bytes) l = []
groups_taken (LevelSet level) l = []
groups_taken (Placed job change) l = run_replaced change.old l.groups ++ group_list l.inode
groups_taken (Dead generation position) l = []
groups_taken (Barred job drives) l = []
groups_taken (Cleared job drives) l = []
groups_taken (Marked job count) l = []
groups_taken (Refused why) l = []

-- the note is one that counts
abbrev pub Counting : Type 0
Counting = Note Noted → Bool

-- how many units at such places the notes that count placed
abbrev pub placed_in : List (Note Noted) → Counting → (Place → Bool) → ℕ
placed_in [] counts p = 0
placed_in (n ∷ ns) counts p = (if counts n then units_at p (groups_placed n.entry.told.entry.event) else 0) + placed_in ns counts p

-- and how many they took away, of a file with this layout before them
abbrev pub taken_in : List (Note Noted) → Level → Layout → Counting → (Place → Bool) → ℕ
taken_in [] declared l counts p = 0
taken_in (n ∷ ns) declared l counts p =
    (if counts n then units_at p (groups_taken n.entry.told.entry.event l) else 0)
    + taken_in ns declared (layout_after_event declared n.entry.told.entry.event l) counts p

-- a seat's notes
abbrev pub is_own : ℕ → Counting
is_own seat n = n.seat == seat

-- the account of a seat: what its own notes placed, and what they took away, at places that pass the test
abbrev pub placed_by : ℕ → (Place → Bool) → List (Note Noted) → ℕ
placed_by seat p notes = placed_in notes (is_own seat) p

abbrev pub taken_by : ℕ → (Place → Bool) → Level → List (Note Noted) → ℕ
taken_by seat p declared notes = taken_in notes declared (empty_layout declared) (is_own seat) p

-- a longer history with the same notes of the seat leaves its account as it was
abbrev pub AccountsStay : Type 0
AccountsStay = (declared : Level) (seat : ℕ) (p : Place → Bool) (notes more : List (Note Noted)) → notes_by seat (notes ++ more) ≡ notes_by seat notes
    → (placed_by seat p (notes ++ more) ≡ placed_by seat p notes) × (taken_by seat p declared (notes ++ more) ≡ taken_by seat p declared notes)

-- what a file holds and all that was taken away is all that was placed
abbrev pub AccountsBalance : Type 0
AccountsBalance = (declared : Level) (p : Place → Bool) (notes : List (Note Noted))
    → units_at p (all_groups (layout_after declared (told_of notes))) + taken_in notes declared (empty_layout declared) (λ n. true) p
    ≡ placed_in notes (λ n. true) p
