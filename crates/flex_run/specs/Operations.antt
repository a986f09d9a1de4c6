-- What an operation asks of a run, and what it does.
use Rattle.std.specs.Prelude.{◌≡◌, ℕ, ◌+◌, ◌≤◌, true, Bool, List, [], ◌∷◌, ◌++◌, Option, ⊤}
use Rattle.flex_io.specs.declared.raw_place.RawPlace.{RawPlace}
use Rattle.domains.specs.Drive.{Drive}
use Rattle.domains.specs.Place.{Place}
use Rattle.domains.specs.Shape.{Shape, is_of}
use Rattle.domains.specs.declared.by.By.{By}
use Rattle.board_history.specs.Board.{effect_of}
use Rattle.board_history.specs.declared.entry.Order.TheVariants as order
use Rattle.board_history.specs.declared.entry.BoardEntry.{BoardEntry}
use Rattle.plain_file.specs.Plain.{StockView, FileView, Plays, MayPlay, slots_for, free_on, count_all, KeepsStored, SortsSlots}
use Rattle.plain_file.specs.FreeOrder.{AreKeptInOrder}
use Rattle.plain_file.specs.declared.op.PlainOp.{PlainOp}
use Rattle.plain_file.specs.declared.op.PlainOp.TheVariants as plain
use Rattle.scenario.specs.declared.op.Op.{Op}
use Rattle.scenario.specs.declared.op.Op.TheVariants as op

-- the numbers of the one actor and its operation
abbrev pub by_call : ℕ → By
by_call number = record { actor = 1; call = number }

-- the entry of a drive that fails
abbrev pub fail_entry : Shape → List BoardEntry → By → Drive → BoardEntry
fail_entry shape board by d = record { by = by; order = order.Fail d; effect = effect_of shape board (order.Fail d) }

-- how many slots of one drive the operation may take
abbrev pub slots_taken : Op → ℕ
slots_taken (op.Create file) = 1
slots_taken (op.WriteText file offset text) = 2
slots_taken (op.Read file offset len) = 0
slots_taken (op.Fail drive) = 0

-- the file or the board may do the operation
abbrev pub MayDo : {S : Type 0} → Op → FileView S → StockView S → Type 0
MayDo (op.Create file) f stock = ⊤
MayDo (op.WriteText file offset text) f stock = MayPlay f.shape f.log (plain.Write text)
MayDo (op.Read file offset len) f stock = ⊤
MayDo (op.Fail drive) f stock = is_of stock.shape drive ≡ true

-- the file did a plain operation beside the board, which stays
pub record DoesPlain {S : Type 0} (place_of : S → RawPlace) (content : S → Option (List ℕ)) (by : By) (o : PlainOp) (tell : Type 0) (f : FileView S) (stock : StockView S) (g : FileView S) (next : StockView S) : Type 0 where
  pub plays : Plays by o stock.board tell f g
  pub keeps : KeepsStored place_of content g
  pub shape : g.shape ≡ f.shape
  pub stock_shape : next.shape ≡ stock.shape
  pub board : next.board ≡ stock.board
  pub conserved : (p : Place → Bool) → count_all place_of p g next ≡ count_all place_of p f stock
  pub spared : (d : Drive) → free_on place_of d stock ≤ free_on place_of d next + slots_for o
  pub sorted : SortsSlots place_of stock next
  pub ordered : AreKeptInOrder place_of f stock → AreKeptInOrder place_of g next

-- the board took an order to fail a drive, and the file stays
pub record DoesFail {S : Type 0} (by : By) (d : Drive) (f : FileView S) (stock : StockView S) (g : FileView S) (next : StockView S) : Type 0 where
  pub file_is : g ≡ f
  pub stock_is : next ≡ record stock { board = stock.board ++ fail_entry stock.shape stock.board by d ∷ [] }

-- the operation was done
abbrev pub Does : {S : Type 0} → Op → (S → RawPlace) → (S → Option (List ℕ)) → By → Type 0 → FileView S → StockView S → FileView S → StockView S → Type 0
Does (op.Create file) place_of content by tell f stock g next = DoesPlain place_of content by plain.Create tell f stock g next
Does (op.WriteText file offset text) place_of content by tell f stock g next = DoesPlain place_of content by (plain.Write text) tell f stock g next
Does (op.Read file offset len) place_of content by tell f stock g next = DoesPlain place_of content by (plain.Read offset len) tell f stock g next
Does (op.Fail drive) place_of content by tell f stock g next = DoesFail by drive f stock g next
