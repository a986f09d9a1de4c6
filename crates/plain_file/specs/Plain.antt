-- What a plain file and its stock tell.
use Rattle.std.specs.Prelude.{◌≡◌, ℕ, ◌+◌, ◌≤◌, Bool, true, false, List, [], ◌∷◌, ◌++◌, length, map, Option}
use Rattle.std.specs.List.{AllByRecursion}
use Rattle.flex_io.specs.declared.raw_place.RawPlace.{RawPlace}
use Rattle.flex_io.specs.Faults.{HasRisen}
use Rattle.domains.specs.Drive.{Drive, IsDrive, same_drive}
use Rattle.domains.specs.Place.{Place, same_place, is_place_of}
use Rattle.domains.specs.Shape.{Shape}
use Rattle.domains.specs.Level.{two_copies}
use Rattle.domains.specs.declared.by.By.{By}
use Rattle.board_history.specs.Board.{up_after}
use Rattle.board_history.specs.declared.entry.BoardEntry.{BoardEntry}
use Rattle.file_history.specs.World.{world_of, moment_at}
use Rattle.file_history.specs.Bytes.{bytes_after}
use Rattle.file_history.specs.Layout.{layout_after, group_list, places_of}
use Rattle.file_history.specs.Step.{IsEvent, ShowsBytes}
use Rattle.file_history.specs.Stored.{IsStored}
use Rattle.held_slots.specs.Slots.{place_from, count_at}
use Rattle.plain_file.specs.Slots.{Tell, content_at}
use Rattle.file_history.specs.declared.entry.FileEvent.{FileEvent}
use Rattle.file_history.specs.declared.entry.FileEvent.TheVariants as event
use Rattle.file_history.specs.declared.entry.Refused.{Refused}
use Rattle.file_history.specs.declared.entry.Refused.TheVariants as refused
use Rattle.file_history.specs.declared.entry.NotedEntry.{NotedEntry}
use Rattle.plain_file.specs.declared.op.PlainOp.{PlainOp}
use Rattle.plain_file.specs.declared.op.PlainOp.TheVariants.{Create, Write, Read}

-- a stock: the cluster, the board's log, the free slots in drive order, each drive's from the bottom of its stack, the
-- retired slots, and for how many more free and retired slots there is memory
pub record StockView (S : Type 0) : Type 0 where
  pub shape : Shape
  pub board : List BoardEntry
  pub free : List S
  pub retired : List S
  pub room : ℕ
  pub spare : ℕ

-- a file: the cluster, its log, the slots of its group, by position, and those of its inode
pub record FileView (S : Type 0) : Type 0 where
  pub shape : Shape
  pub log : List NotedEntry
  pub units : List S
  pub inode : List S

-- the bytes that the operation writes
abbrev pub plain_payload : PlainOp → List ℕ
plain_payload Create = []
plain_payload (Write bytes) = bytes
plain_payload (Read offset len) = []

-- how many slots the operation may take from one drive
abbrev pub slots_for : PlainOp → ℕ
slots_for Create = 1
slots_for (Write bytes) = 2
slots_for (Read offset len) = 0

-- the refusal answers the operation; where each drive has the slots that it may take, none is for want of room
abbrev pub RefusesPlain : PlainOp → Refused → Type 0
RefusesPlain o refused.CreateExists = o ≡ Create
RefusesPlain o (refused.CreateTooFew fault) = o ≡ Create
RefusesPlain o (refused.CreateNoRoom need got drives) = ⊥
RefusesPlain o refused.DeleteAbsent = ⊥
RefusesPlain o (refused.WriteAbsent offset len) = (offset ≡ 0) × (bytes : List ℕ) × (o ≡ Write bytes) × (len ≡ length bytes)
RefusesPlain o (refused.WriteTooFew offset len fault) = (offset ≡ 0) × (bytes : List ℕ) × (o ≡ Write bytes) × (len ≡ length bytes)
RefusesPlain o (refused.WriteTooLong offset len count) = ⊥
RefusesPlain o (refused.WriteLost offset len lost) = (offset ≡ 0) × (bytes : List ℕ) × (o ≡ Write bytes) × (len ≡ length bytes)
RefusesPlain o (refused.WriteNoRoom offset len need got drives) = ⊥
RefusesPlain o (refused.ReadAbsent offset len) = o ≡ Read offset len
RefusesPlain o (refused.ReadLost offset len lost) = o ≡ Read offset len
RefusesPlain o (refused.LevelAbsent level) = ⊥

-- the event is what the operation did
abbrev pub AnswersPlain : PlainOp → FileEvent → Type 0
AnswersPlain o (event.Created inode) = o ≡ Create
AnswersPlain o event.Deleted = ⊥
AnswersPlain o (event.Written offset len size change) = (offset ≡ 0) × (bytes : List ℕ) × (o ≡ Write bytes) × (len ≡ length bytes)
AnswersPlain o (event.Shown offset len bytes) = o ≡ Read offset len
AnswersPlain o (event.LevelSet level) = ⊥
AnswersPlain o (event.Placed job change) = ⊥
AnswersPlain o (event.Dead generation position) = ⊥
AnswersPlain o (event.Barred job drives) = ⊥
AnswersPlain o (event.Cleared job drives) = ⊥
AnswersPlain o (event.Marked job count) = ⊥
AnswersPlain o (event.Refused why) = RefusesPlain o why

-- the event puts groups into the map
abbrev pub is_placing : FileEvent → Bool
is_placing (event.Created inode) = false
is_placing event.Deleted = false
is_placing (event.Written offset len size change) = true
is_placing (event.Shown offset len bytes) = false
is_placing (event.LevelSet level) = false
is_placing (event.Placed job change) = true
is_placing (event.Dead generation position) = false
is_placing (event.Barred job drives) = false
is_placing (event.Cleared job drives) = false
is_placing (event.Marked job count) = false
is_placing (event.Refused why) = false

-- no entry of the log put a group into the map
abbrev pub IsUnwritten : List NotedEntry → Type 0
IsUnwritten log = AllByRecursion (λ (t : NotedEntry). is_placing t.entry.event ≡ false) log

-- a write has 1 byte to a whole unit, and none was accepted before; a create finds no accepted write
abbrev pub MayPlay : Shape → List NotedEntry → PlainOp → Type 0
MayPlay shape log Create = Unit {0}
MayPlay shape log (Write bytes) = (1 ≤ length bytes) × (length bytes ≤ shape.unit) × IsUnwritten log
MayPlay shape log (Read offset len) = Unit {0}

module _ {S : Type 0} (place_of : S → RawPlace) where
  -- how many slots of the file and the stock stand at a place for which the test passes
  abbrev pub count_all : (Place → Bool) → FileView S → StockView S → ℕ
  count_all p file stock =
      (count_at place_of p file.units + count_at place_of p file.inode) + (count_at place_of p stock.free + count_at place_of p stock.retired)

  -- no place comes twice among the slots of the file and the stock
  abbrev pub OneEach : FileView S → StockView S → Type 0
  OneEach file stock = (s : Place) → count_all (same_place s) file stock ≤ 1

  -- how many free slots the drive has
  abbrev pub free_on : Drive → StockView S → ℕ
  free_on d stock = count_at place_of (λ s. same_drive d s.drive) stock.free

  -- each drive that is up has `many` free slots
  abbrev pub HasRoom : ℕ → StockView S → Type 0
  HasRoom many stock = (d : Drive) → IsDrive d → up_after stock.shape stock.board (length stock.board) d ≡ true → many ≤ free_on d stock

-- a slot on a drive that is lost does not come back to the free ones, and one on a drive that is up is not retired
pub record SortsSlots {S : Type 0} (place_of : S → RawPlace) (old new : StockView S) : Type 0 where
  pub lost : (s : Place) → up_after old.shape old.board (length old.board) s.drive ≡ false
      → count_at place_of (same_place s) new.free ≡ count_at place_of (same_place s) old.free
  pub up : (s : Place) → up_after old.shape old.board (length old.board) s.drive ≡ true
      → count_at place_of (same_place s) new.retired ≡ count_at place_of (same_place s) old.retired

-- a slot of the cluster at the place of a free one failed: its count of faults rose
pub record HasFailed {S : Type 0} (place_of : S → RawPlace) (faults : S → ℕ) (stock : StockView S) : Type 0 where
  pub before : S
  pub after : S
  pub of_cluster : is_place_of stock.shape (place_from (place_of before)) ≡ true
  pub free : 1 ≤ count_at place_of (same_place (place_from (place_of before))) stock.free
  pub place : place_of after ≡ place_of before
  pub rose : HasRisen (faults before) (faults after)

-- the slots of the file and the stock tell what they hold
pub record AllTell {S : Type 0} (content : S → Option (List ℕ)) (file : FileView S) (stock : StockView S) : Type 0 where
  pub units : Tell content file.units
  pub inode : Tell content file.inode
  pub free : Tell content stock.free
  pub retired : Tell content stock.retired

-- the file's log grew by one legal entry of this operation at the board's present epoch; a read shows the file's bytes where the
-- slots tell what they hold
pub record Plays {S : Type 0} (by : By) (o : PlainOp) (board : List BoardEntry) (tell : Type 0) (old new : FileView S) : Type 0 where
  pub event : FileEvent
  pub answers : AnswersPlain o event
  pub told : NotedEntry
  pub is_told : told ≡ record { entry = record { by = by; epoch = length board; event = event }; payload = plain_payload o }
  pub log : new.log ≡ old.log ++ told ∷ []
  pub legal : IsEvent (moment_at (world_of old.shape board two_copies) (length board)) old.log (layout_after two_copies old.log) (plain_payload o) event
  pub shown : tell → ShowsBytes old.log event

-- the slots of the file stand at the places of its layout, and hold the file where they tell
pub record KeepsStored {S : Type 0} (place_of : S → RawPlace) (content : S → Option (List ℕ)) (file : FileView S) : Type 0 where
  pub units : map (λ x. place_from (place_of x)) file.units ≡ places_of (layout_after two_copies file.log).groups
  pub inode : map (λ x. place_from (place_of x)) file.inode ≡ places_of (group_list (layout_after two_copies file.log).inode)
  pub stored : IsStored (content_at (file.units ++ file.inode) place_of content) file.shape.unit
      (layout_after two_copies file.log) (bytes_after file.log)
