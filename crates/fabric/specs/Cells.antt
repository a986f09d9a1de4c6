-- The cells of a fabric, as contracts see them.
use Rattle.std.specs.Prelude.{◌≡◌, ℕ, ◌+◌, ◌-◌, ◌*◌, ◌≤◌, List, map, length, Some, slice_get}
use Rattle.domains.specs.Shape.{Shape, IsShape}
use Rattle.domains.specs.Drive.{Drive}
use Rattle.turn_cell.specs.Seats.{CellView, cell_view}
use Rattle.fabric.specs.declared.cells.Cells.{Cells}

-- the shape of the cluster, how many hands there are, and the cells of the board, of the yard, and of the pools: node by node,
-- and within a node drive by drive
pub record FabricView : Type 0 where
  pub shape : Shape
  pub hands : ℕ
  pub board : CellView
  pub yard : CellView
  pub pools : List CellView

-- the place of a drive's pool
abbrev pub place_in : Shape → Drive → ℕ
place_in shape d = (d.node - 1) * shape.drives + (d.drive - 1)

-- each cell has a seat for each of 1 to 32 hands, and the first drives have a pool
pub record AreCells (f : FabricView) : Type 0 where
  pub shape : IsShape f.shape
  pub some_hand : 1 ≤ f.hands
  pub hands : f.hands ≤ 32
  pub board : f.board.seats ≡ f.hands
  pub yard : f.yard.seats ≡ f.hands
  pub few : length f.pools ≤ f.shape.nodes * f.shape.drives
  pub pools : (k : ℕ) (cell : CellView) → slice_get f.pools k ≡ Some cell → cell.seats ≡ f.hands

-- each cell has a seat for each of 1 to 32 hands, and each drive has a pool
pub record IsFabric (f : FabricView) : Type 0 where
  pub shape : IsShape f.shape
  pub some_hand : 1 ≤ f.hands
  pub hands : f.hands ≤ 32
  pub board : f.board.seats ≡ f.hands
  pub yard : f.yard.seats ≡ f.hands
  pub many : length f.pools ≡ f.shape.nodes * f.shape.drives
  pub pools : (k : ℕ) (cell : CellView) → slice_get f.pools k ≡ Some cell → cell.seats ≡ f.hands

abbrev pub cells_view : {S : Type 0} → Cells S → FabricView
cells_view c = record {
  shape = c.shape;
  hands = (cell_view c.board).seats;
  board = cell_view c.board;
  yard = cell_view c.yard;
  pools = map (λ cell. cell_view cell) c.pools.items;
}
