-- Writes that were made ready on a copy of a file.
use Rattle.std.specs.Prelude.{◌≡◌, ℕ, ◌+◌, ◌≤◌, true, List, [], ◌∷◌, ◌++◌, length, map, Option, None, Some}
use Rattle.std.specs.List.{AllByRecursion}
use Rattle.domains.specs.Place.{Place}
use Rattle.domains.specs.Level.{Level}
use Rattle.domains.specs.declared.group.Group.{Group}
use Rattle.inode_codec.specs.Inode.{units_for}
use Rattle.file_history.specs.World.{Moment}
use Rattle.file_history.specs.Bytes.{bytes_after, overwrite}
use Rattle.file_history.specs.Layout.{Layout, places_of}
use Rattle.file_history.specs.Refusals.{MayWrite}
use Rattle.file_history.specs.Step.{Writes}
use Rattle.file_history.specs.declared.entry.Change.{Change}
use Rattle.file_history.specs.declared.entry.FileEntry.{FileEntry}
use Rattle.file_history.specs.declared.entry.NotedEntry.{NotedEntry}
use Rattle.map_changes.specs.ChangedMaps.{AreFree}
use Rattle.stale_changes.specs.Staleness.{cause_in}
use Rattle.stale_changes.specs.declared.basis.Basis.{Basis}

-- a write that was made ready: where it writes what, how many data units the file had then and which level it requested, which
-- generations it replaces, and what it brings. The generations of what it brings are given when it is made
pub record ReadyWrite : Type 0 where
  pub offset : ℕ
  pub payload : List ℕ
  pub units : ℕ
  pub level : Level
  pub old : List ℕ
  pub new : List Group
  pub inode : Group

-- the groups, with the generations from this one on
abbrev pub numbered : List Group → ℕ → List Group
numbered [] next = []
numbered (g ∷ gs) next = record g { generation = next } ∷ numbered gs (next + 1)

-- the write's change, where this is the next generation
abbrev pub logged : ReadyWrite → ℕ → Change
logged w next = record { old = w.old; new = numbered w.new next; inode = record w.inode { generation = next + length w.new } }

-- the places of its new units, the inode's the last
abbrev pub new_places : ReadyWrite → List Place
new_places w = places_of w.new ++ w.inode.places

-- the write is made now, of a file with this layout and these bytes
abbrev pub IsMade : Moment → List NotedEntry → Layout → ReadyWrite → Type 0
IsMade now log l w = Writes now log l w.offset (length (overwrite (bytes_after log) w.offset w.payload)) (logged w l.next) w.payload

-- the write was made ready on the log so far: it would have been legal at that moment
pub record IsReady (now : Moment) (log : List NotedEntry) (l : Layout) (w : ReadyWrite) : Type 0 where
  pub some : 1 ≤ length w.payload
  pub units : w.units ≡ units_for now.shape.unit l.size
  pub level : w.level ≡ l.requested
  pub legal : IsMade now log l w

-- the generation of the last group
abbrev pub last_generation : List Group → Option ℕ
last_generation [] = None
last_generation (g ∷ []) = Some g.generation
last_generation (g ∷ h ∷ gs) = last_generation (h ∷ gs)

-- what entries are compared with, in a file with this stripe unit whose last group has this generation now
abbrev pub basis_of : ℕ → Option ℕ → ReadyWrite → Basis
basis_of unit last w = record { unit = unit; last = last; units = w.units; level = w.level; end = w.offset + length w.payload }

abbrev pub entries_of : List NotedEntry → List FileEntry
entries_of log = map (λ (t : NotedEntry). t.entry) log

-- none of the entries behind the log stands against the write, in such a file
abbrev pub Spares : ℕ → Option ℕ → ReadyWrite → List NotedEntry → List NotedEntry → Type 0
Spares unit last w log more = cause_in (entries_of more) (length log) (basis_of unit last w) w.old [] (new_places w) ≡ None

-- what a caller tests before it makes the write: new groups have the width by which its groups were cut, the map has at most 256
-- groups, the new units are on drives that are up, and no unit of the file stands at their places
pub record MayBeMade (now : Moment) (l : Layout) (w : ReadyWrite) (width : ℕ) : Type 0 where
  pub may : MayWrite now l w.offset (length w.payload) width
  pub up : AllByRecursion (λ (s : Place). now.up s.drive ≡ true) (new_places w)
  pub free : AreFree l (new_places w)
