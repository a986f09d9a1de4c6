-- What a plain file keeps true of its parts.
use Rattle.std.specs.Prelude.{◌≡◌, ℕ, ◌+◌, ◌-◌, ◌≤◌, Bool, true, false, List, [], ◌∷◌, ◌++◌, length, replicate, Option, Some, All}
use Rattle.flex_io.specs.declared.raw_place.RawPlace.{RawPlace}
use Rattle.domains.specs.Place.{Place}
use Rattle.domains.specs.Shape.{Shape}
use Rattle.domains.specs.Level.{two_copies}
use Rattle.galois.specs.Field.{IsByte}
use Rattle.inode_codec.specs.Inode.{inode_bytes}
use Rattle.file_history.specs.Stored.{inode_of}
use Rattle.file_history.specs.Bytes.{bytes_after}
use Rattle.file_history.specs.Layout.{Layout, empty_layout, layout_after}
use Rattle.plain_file.specs.Mirrors.{slots_of, mirror_of, IsMirror, AreCopies, AreTold, SameSlots}
use Rattle.plain_file.specs.Draws.{Releases}
use Rattle.plain_file.specs.FreeOrder.{AreKeptInOrder}
use Rattle.plain_file.specs.Plain.{StockView, FileView, Plays, AllTell, count_all, free_on, slots_for, SortsSlots}
use Rattle.domains.specs.declared.by.By.{By}
use Rattle.domains.specs.Drive.{Drive}
use Rattle.plain_file.specs.declared.op.PlainOp.{PlainOp}
use Rattle.file_history.specs.declared.entry.NotedEntry.{NotedEntry}
use Rattle.plain_file.specs.declared.file_slots.FileSlots.{FileSlots}
use Rattle.plain_file.specs.declared.file_slots.FileSlots.TheVariants.{Absent, Empty, Written}
use Rattle.plain_file.specs.declared.pair.Pair.{Pair}

-- the slots of the group
abbrev pub units_of : {S : Type 0} → FileSlots S → List S
units_of Absent = []
units_of (Empty inode) = []
units_of (Written size units inode) = slots_of units

-- the slots of the inode
abbrev pub inode_slots : {S : Type 0} → FileSlots S → List S
inode_slots Absent = []
inode_slots (Empty inode) = slots_of inode
inode_slots (Written size units inode) = slots_of inode

abbrev pub is_present : {S : Type 0} → FileSlots S → Bool
is_present Absent = false
is_present (Empty inode) = true
is_present (Written size units inode) = true

-- the file that these parts are of
abbrev pub file_view : {S : Type 0} → Shape → List NotedEntry → FileSlots S → FileView S
file_view shape log standing = record { shape = shape; log = log; units = units_of standing; inode = inode_slots standing }

module _ {S : Type 0} (place_of : S → RawPlace) where
  -- the layout of a file that stands so: its inode has generation 0, after the write its group has 1 and the inode 2
  abbrev pub layout_of : FileSlots S → Layout
  layout_of Absent = empty_layout two_copies
  layout_of (Empty inode) = record (empty_layout two_copies) { present = true; inode = Some (mirror_of place_of 0 inode); next = 1 }
  layout_of (Written size units inode) = record (empty_layout two_copies) {
    present = true;
    groups = mirror_of place_of 1 units ∷ [];
    inode = Some (mirror_of place_of 2 inode);
    size = size;
    next = 3;
  }

module _ {S : Type 0} (place_of : S → RawPlace) (content : S → Option (List ℕ)) where
  -- the bytes of the inode of a file that stands so
  abbrev pub inode_text : Shape → FileSlots S → List ℕ
  inode_text shape standing = inode_bytes (inode_of shape.unit (layout_of place_of standing))

  -- the slots hold the file with these bytes
  abbrev pub HoldsFile : Shape → FileSlots S → List ℕ → Type 0
  HoldsFile shape Absent bytes = bytes ≡ []
  HoldsFile shape (Empty inode) bytes =
      (bytes ≡ []) × IsMirror place_of shape inode × AreCopies content inode (inode_text shape (Empty inode))
  HoldsFile shape (Written size units inode) bytes =
      (length bytes ≡ size) × (1 ≤ size) × (size ≤ shape.unit) × IsMirror place_of shape units × IsMirror place_of shape inode
      × AreCopies content units (bytes ++ replicate (shape.unit - size) 0)
      × AreCopies content inode (inode_text shape (Written size units inode))

  -- the log says how the file stands, and the slots hold it
  pub record KeepsFile (shape : Shape) (log : List NotedEntry) (standing : FileSlots S) : Type 0 where
    pub layout : layout_after two_copies log ≡ layout_of place_of standing
    pub holds : HoldsFile shape standing (bytes_after log)
    pub bytes : All IsByte (bytes_after log)

  -- an operation was played: the log says it, the slots hold the file, and free slots that were kept in order are so still
  pub record Played (by : By) (o : PlainOp) (shape : Shape) (log later : List NotedEntry) (standing left : FileSlots S) (stock rest : StockView S) : Type 0 where
    pub plays : Plays by o stock.board (AllTell content (file_view shape log standing) stock) (file_view shape log standing) (file_view shape later left)
    pub inside : KeepsFile shape later left
    pub tell : AllTell content (file_view shape log standing) stock → AllTell content (file_view shape later left) rest
    pub ordered : AreKeptInOrder place_of (file_view shape log standing) stock → AreKeptInOrder place_of (file_view shape later left) rest

  -- slots moved between the file and the stock, and from each drive no more than the operation may take
  pub record Moves (o : PlainOp) (shape : Shape) (log later : List NotedEntry) (standing left : FileSlots S) (stock rest : StockView S) : Type 0 where
    pub conserved : (p : Place → Bool) → count_all place_of p (file_view shape later left) rest ≡ count_all place_of p (file_view shape log standing) stock
    pub spared : (d : Drive) → free_on place_of d stock ≤ free_on place_of d rest + slots_for o
    pub shape_same : rest.shape ≡ stock.shape
    pub board : rest.board ≡ stock.board
    pub sorted : SortsSlots place_of stock rest

-- the mirrors of a file that stands so are mirrors of the cluster
abbrev pub MirrorsOf : {S : Type 0} → (S → RawPlace) → Shape → FileSlots S → Type 0
MirrorsOf place_of shape Absent = Unit {0}
MirrorsOf place_of shape (Empty inode) = IsMirror place_of shape inode
MirrorsOf place_of shape (Written size units inode) = IsMirror place_of shape units × IsMirror place_of shape inode

-- the file holds an inode alone, and the stock has memory to take its slots back
pub record MayReleaseInode {S : Type 0} (place_of : S → RawPlace) (stock : StockView S) (inode : Pair S) : Type 0 where
  pub room : 2 ≤ stock.room
  pub spare : 2 ≤ stock.spare
  pub mirror : IsMirror place_of stock.shape inode

abbrev pub MayRelease : {S : Type 0} → (S → RawPlace) → StockView S → FileSlots S → Type 0
MayRelease place_of stock Absent = ⊥
MayRelease place_of stock (Empty inode) = MayReleaseInode place_of stock inode
MayRelease place_of stock (Written size units inode) = ⊥

-- the slots of the inode went back
abbrev pub ReleasesInode : {S : Type 0} → (S → RawPlace) → FileSlots S → StockView S → StockView S → Type 0
ReleasesInode place_of Absent old new = ⊥
ReleasesInode place_of (Empty inode) old new = Releases place_of old new inode
ReleasesInode place_of (Written size units inode) old new = ⊥

-- what was written fits a unit
abbrev pub SizeFits : {S : Type 0} → Shape → FileSlots S → Type 0
SizeFits shape Absent = Unit {0}
SizeFits shape (Empty inode) = Unit {0}
SizeFits shape (Written size units inode) = size ≤ shape.unit

-- the file has these bytes, and its slots tell it
abbrev pub HasBytes : {S : Type 0} → (S → Option (List ℕ)) → Shape → FileSlots S → List ℕ → Type 0
HasBytes content shape Absent bytes = bytes ≡ []
HasBytes content shape (Empty inode) bytes = bytes ≡ []
HasBytes content shape (Written size units inode) bytes =
    (length bytes ≡ size) × (size ≤ shape.unit) × AreTold content units (bytes ++ replicate (shape.unit - size) 0)

-- the file stands as it stood
abbrev pub SameFileSlots : {S : Type 0} → (S → RawPlace) → (S → Option (List ℕ)) → FileSlots S → FileSlots S → Type 0
SameFileSlots place_of content Absent new = new ≡ Absent
SameFileSlots place_of content (Empty inode) new = new ≡ Empty inode
SameFileSlots place_of content (Written size units inode) Absent = ⊥
SameFileSlots place_of content (Written size units inode) (Empty other) = ⊥
SameFileSlots place_of content (Written size units inode) (Written more others other) =
    (more ≡ size) × SameSlots place_of content units others × (other ≡ inode)
