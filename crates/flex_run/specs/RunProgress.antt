-- What holds of a run after its first operations.
use Rattle.std.specs.Prelude.{◌≡◌, ℕ, ◌+◌, ◌<◌, ◌≤◌, true, false, List, [], ◌∷◌, length, map, Option, Some, IsSome, slice_get, count_by, Bool}
use Rattle.std.specs.List.{AllByRecursion}
use Rattle.flex_io.specs.declared.raw_place.RawPlace.{RawPlace}
use Rattle.domains.specs.Drive.{Drive, IsDrive}
use Rattle.domains.specs.Place.{Place, same_place}
use Rattle.domains.specs.Shape.{Shape, is_of}
use Rattle.domains.specs.Level.{two_copies}
use Rattle.domains.specs.declared.by.By.{By}
use Rattle.board_history.specs.Board.{up_after}
use Rattle.board_history.specs.declared.entry.BoardEntry.{BoardEntry}
use Rattle.file_history.specs.World.{world_of}
use Rattle.file_history.specs.Refusals.{is_no_room}
use Rattle.file_history.specs.Step.{IsLegalLogWhere}
use Rattle.held_slots.specs.Slots.{count_at}
use Rattle.plain_file.specs.Plain.{StockView, FileView, OneEach, IsUnwritten, free_on, count_all, KeepsStored}
use Rattle.plain_file.specs.FreeOrder.{AreKeptInOrder}
use Rattle.file_history.specs.declared.entry.FileEntry.{FileEntry}
use Rattle.file_history.specs.declared.entry.NotedEntry.{NotedEntry}
use Rattle.scenario.specs.declared.op.Op.{Op}
use Rattle.scenario.specs.declared.op.Op.TheVariants as op
use Rattle.scenario.specs.declared.scenario.Scenario.{Scenario}
use Rattle.first_form.specs.FirstForm.{IsLaterOp, write_count}
use Rattle.report.specs.Script.{noted_in, FitsScript, board_calls, file_calls, numbers_where, is_for_board, is_for_file, is_earlier}
use Rattle.report.specs.Legal.{AreLegalOrders}
use Rattle.flex_run.specs.RetiredPlaces.{retired_places}
use Rattle.flex_run.specs.Operations.{slots_taken}

-- each slot of the type tells what it holds
abbrev pub EachTells : {S : Type 0} → (S → Option (List ℕ)) → Type 0
EachTells {S} content = (slot : S) → IsSome (content slot)

-- the entries of a log without the bytes that their operations write
abbrev pub entries_of : List NotedEntry → List FileEntry
entries_of log = map (λ t. t.entry) log

-- the entry is one of the first `number` operations of the one actor
pub record IsDone (number : ℕ) (by : By) : Type 0 where
  pub actor : by.actor ≡ 1
  pub call : by.call ≤ number

-- the entry's epoch is the number of the board's entries of earlier operations
abbrev pub IsSerial : List BoardEntry → NotedEntry → Type 0
IsSerial board t = t.entry.epoch ≡ count_by (λ (b : BoardEntry). is_earlier b.by t.entry.by) board

-- the entry's epoch is past each entry of the board that an earlier operation made
abbrev pub IsPast : List BoardEntry → NotedEntry → Type 0
IsPast board t = (at : ℕ) (o : BoardEntry) → slice_get board at ≡ Some o → o.by.call < t.entry.by.call → at + 1 ≤ t.entry.epoch

-- the logs are those of these first operations of the scenario's script; where it is known what slots hold, reads show the
-- file's bytes
pub record HasLogs (known : Type 0) (s : Scenario) (done : List Op) (board : List BoardEntry) (log : List NotedEntry) : Type 0 where
  pub orders : AreLegalOrders board [] s
  pub legal : IsLegalLogWhere known (world_of s.shape board two_copies) log
  pub roomy : AllByRecursion (λ (t : NotedEntry). is_no_room t.entry.event ≡ false) log
  pub fits : AllByRecursion (λ (t : NotedEntry). FitsScript s 0 t.entry) log
  pub noted : AllByRecursion (λ (t : NotedEntry). noted_in s t.entry ≡ t) log
  pub board_calls : board_calls 1 board ≡ numbers_where done 1 is_for_board
  pub file_calls : file_calls 1 (entries_of log) ≡ numbers_where done 1 (is_for_file 0)
  pub serial : AllByRecursion (IsSerial board) log
  pub past : AllByRecursion (IsPast board) log
  pub board_by : AllByRecursion (λ (b : BoardEntry). IsDone (length done) b.by) board
  pub file_by : AllByRecursion (λ (t : NotedEntry). IsDone (length done) t.entry.by) log

-- the operation is one of the first form
abbrev pub IsOpOf : Shape → Op → Type 0
IsOpOf shape (op.Create file) = file ≡ 0
IsOpOf shape (op.WriteText file offset text) = IsLaterOp shape (op.WriteText file offset text)
IsOpOf shape (op.Read file offset len) = IsLaterOp shape (op.Read file offset len)
IsOpOf shape (op.Fail drive) = IsLaterOp shape (op.Fail drive)

-- how many slots of one drive the operations may take together
abbrev pub all_taken : List Op → ℕ
all_taken [] = 0
all_taken (o ∷ os) = slots_taken o + all_taken os

-- the operations that are left may be done
pub record MayGoOn {S : Type 0} (place_of : S → RawPlace) (shape : Shape) (left : List Op) (f : FileView S) (stock : StockView S) : Type 0 where
  pub file_shape : f.shape ≡ shape
  pub stock_shape : stock.shape ≡ shape
  pub each : AllByRecursion (IsOpOf shape) left
  pub few : length stock.board + length left ≤ 4096
  pub one_each : OneEach place_of f stock
  pub room : (d : Drive) → IsDrive d → is_of shape d ≡ true → all_taken left ≤ free_on place_of d stock
  pub one_write : write_count left ≤ 1
  pub unwritten : 1 ≤ write_count left → IsUnwritten f.log

-- no retired slot stands on a drive that is up
abbrev pub AreLost : {S : Type 0} → (S → RawPlace) → StockView S → Type 0
AreLost place_of stock =
    (s : Place) → up_after stock.shape stock.board (length stock.board) s.drive ≡ true → count_at place_of (same_place s) stock.retired ≡ 0

-- the retired slots stand at the places that the file's log retires
abbrev pub AreRetired : {S : Type 0} → (S → RawPlace) → FileView S → StockView S → Type 0
AreRetired place_of f stock =
    (s : Place) → count_at place_of (same_place s) stock.retired ≡ count_by (same_place s) (retired_places (world_of stock.shape stock.board two_copies) f.log)

-- what some operations leave of a file and its stock: the file is stored, retired slots stand on lost drives, at the places that
-- the log retires, no slot was lost or made, and free slots that were kept in order are so still
pub record Leaves {S : Type 0} (place_of : S → RawPlace) (content : S → Option (List ℕ)) (shape : Shape) (f : FileView S) (stock : StockView S) (g : FileView S) (next : StockView S) : Type 0 where
  pub file_shape : g.shape ≡ shape
  pub stock_shape : next.shape ≡ shape
  pub keeps : KeepsStored place_of content g
  pub lost : AreLost place_of next
  pub retired : AreRetired place_of g next
  pub conserved : (p : Place → Bool) → count_all place_of p g next ≡ count_all place_of p f stock
  pub ordered : AreKeptInOrder place_of f stock → AreKeptInOrder place_of g next
