-- What the draws of a stock tell.
use Rattle.std.specs.Prelude.{◌≡◌, ℕ, ◌+◌, ◌≤◌, ◌-◌, ◌++◌, ◌∷◌, [], Bool, true, List, length, replicate, count_by, Option, IsSome}
use Rattle.flex_io.specs.declared.raw_place.RawPlace.{RawPlace}
use Rattle.domains.specs.Place.{Place}
use Rattle.board_history.specs.Board.{up_after}
use Rattle.domains.specs.Counts.{one_if}
use Rattle.held_slots.specs.Slots.{place_from, count_at}
use Rattle.plain_file.specs.Slots.{Tell}
use Rattle.plain_file.specs.Plain.{StockView, SortsSlots}
use Rattle.plain_file.specs.FreeOrder.{StandInOrder, HasLowerNumber}
use Rattle.plain_file.specs.Mirrors.{mirror_of, IsMirror, AreCopies}
use Rattle.domains.specs.Level.{two_copies}
use Rattle.inode_codec.specs.Inode.{inode_bytes}
use Rattle.plain_file.specs.declared.pair.Pair.{Pair}

-- the pair was drawn from the stock: its slots are on two nodes, on drives that are up, hold these bytes, and are gone from
-- the free ones; of free slots in order those that are left stand in order, and have higher numbers than the two
pub record Draws {S : Type 0} (place_of : S → RawPlace) (content : S → Option (List ℕ)) (old new : StockView S) (bytes : List ℕ) (pair : Pair S) : Type 0 where
  pub mirror : IsMirror place_of old.shape pair
  pub first_up : up_after old.shape old.board (length old.board) (place_from (place_of pair.first)).drive ≡ true
  pub second_up : up_after old.shape old.board (length old.board) (place_from (place_of pair.second)).drive ≡ true
  pub copies : AreCopies content pair bytes
  pub moved : (p : Place → Bool) → count_at place_of p old.free
      ≡ count_at place_of p new.free + (one_if (p (place_from (place_of pair.first))) + one_if (p (place_from (place_of pair.second))))
  pub tell : Tell content old.free → Tell content new.free × IsSome (content pair.first) × IsSome (content pair.second)
  pub room : new.room ≡ old.room + 2
  pub ordered : StandInOrder place_of old.free → StandInOrder place_of new.free
  pub first_lower : StandInOrder place_of old.free → HasLowerNumber place_of new.free pair.first
  pub second_lower : StandInOrder place_of old.free → HasLowerNumber place_of new.free pair.second

-- the free slots stand where they stood, as many at each place
abbrev pub SameFree : {S : Type 0} → (S → RawPlace) → StockView S → StockView S → Type 0
SameFree place_of old new = (p : Place → Bool) → count_at place_of p new.free ≡ count_at place_of p old.free

-- what no draw changes
pub record SameBeside {S : Type 0} (old new : StockView S) : Type 0 where
  pub shape : new.shape ≡ old.shape
  pub board : new.board ≡ old.board
  pub retired : new.retired ≡ old.retired
  pub spare : new.spare ≡ old.spare

-- the pair went back: its slots are among the free ones where their drives are up, else among the retired ones; free slots in
-- order that have higher numbers than the two stand in order with them
pub record Releases {S : Type 0} (place_of : S → RawPlace) (old new : StockView S) (pair : Pair S) : Type 0 where
  pub moved : (p : S → Bool) → count_by p new.free + count_by p new.retired
      ≡ (count_by p old.free + count_by p old.retired) + (one_if (p pair.first) + one_if (p pair.second))
  pub more : (p : S → Bool) → count_by p old.free ≤ count_by p new.free
  pub sorted : SortsSlots place_of old new
  pub ordered : StandInOrder place_of old.free → HasLowerNumber place_of old.free pair.first
      → HasLowerNumber place_of old.free pair.second → StandInOrder place_of new.free
  pub shape : new.shape ≡ old.shape
  pub board : new.board ≡ old.board

-- the slots of a group with these bytes were drawn, and then those of the inode
pub record Draws2 {S : Type 0} (place_of : S → RawPlace) (content : S → Option (List ℕ)) (old new : StockView S) (bytes : List ℕ) (units inode : Pair S) : Type 0 where
  pub between : StockView S
  pub units_drawn : Draws place_of content old between (bytes ++ replicate (old.shape.unit - length bytes) 0) units
  pub beside : SameBeside old between
  pub inode_drawn : Draws place_of content between new
      (inode_bytes (record { level = two_copies; unit = old.shape.unit; size = length bytes; groups = mirror_of place_of 1 units ∷ [] })) inode
