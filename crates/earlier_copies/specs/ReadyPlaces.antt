-- Placements by jobs that were made ready on a copy of a file.
use Rattle.std.specs.Prelude.{◌≡◌, ℕ, ◌+◌, ◌≤◌, true, if◌then◌else◌, List, [], ◌∷◌, ◌++◌, length, Option, None}
use Rattle.std.specs.List.{AllByRecursion, list_any}
use Rattle.domains.specs.Place.{Place, same_place}
use Rattle.domains.specs.Level.{Level}
use Rattle.domains.specs.declared.group.Group.{Group}
use Rattle.file_history.specs.World.{Moment}
use Rattle.file_history.specs.Layout.{Layout, places_of, replaced}
use Rattle.file_history.specs.Step.{Places}
use Rattle.file_history.specs.WriteRule.{generations_of}
use Rattle.file_history.specs.declared.entry.Change.{Change}
use Rattle.file_history.specs.declared.entry.NotedEntry.{NotedEntry}
use Rattle.map_changes.specs.ChangedMaps.{AreFree}
use Rattle.stale_changes.specs.Staleness.{cause_in}
use Rattle.stale_changes.specs.declared.basis.Basis.{Basis}
use Rattle.stale_changes.specs.declared.basis.KeptUnit.{KeptUnit}
use Rattle.earlier_copies.specs.ReadyWrites.{entries_of, numbered}

-- a placement that was made ready: how many data units the file had then and which level it requested, which groups it replaces, as
-- they stood then, and what it brings. The generations of what it brings are given when it is made
pub record ReadyPlace : Type 0 where
  pub units : ℕ
  pub level : Level
  pub old : List Group
  pub new : List Group
  pub inode : Group

-- its change, where this is the next generation
abbrev pub placed_change : ReadyPlace → ℕ → Change
placed_change p next = record { old = generations_of p.old; new = numbered p.new next; inode = record p.inode { generation = next + length p.new } }

-- the places that are none of the old ones
abbrev pub places_beside : List Place → List Place → List Place
places_beside old [] = []
places_beside old (s ∷ ss) = if list_any (same_place s) old then places_beside old ss else s ∷ places_beside old ss

-- the places of its new units, but for the inode's
abbrev pub brought_places : List Group → List Group → List Place
brought_places [] new = places_of new
brought_places (g ∷ gs) new = places_beside g.places (places_of new)

-- the places of its new units, the inode's the last
abbrev pub placed_places : ReadyPlace → List Place
placed_places p = brought_places p.old p.new ++ p.inode.places

-- the units, from this position on, that have the same place in the old group as in the new one
abbrev pub kept_from : List Place → List Place → ℕ → ℕ → List KeptUnit
kept_from [] ts position generation = []
kept_from (s ∷ ss) [] position generation = []
kept_from (s ∷ ss) (t ∷ ts) position generation =
    if same_place s t
    then record { generation = generation; position = position } ∷ kept_from ss ts (position + 1) generation
    else kept_from ss ts (position + 1) generation

-- the units that it keeps: those of a repaired group which have their place in the new group
abbrev pub kept_units : List Group → List Group → List KeptUnit
kept_units [] new = []
kept_units (g ∷ []) [] = []
kept_units (g ∷ []) (h ∷ []) = kept_from g.places h.places 0 g.generation
kept_units (g ∷ []) (h ∷ k ∷ ks) = []
kept_units (g ∷ h ∷ gs) new = []

-- the placement is made now, of a file with this layout
abbrev pub IsPlaceMade : Moment → Layout → ReadyPlace → Type 0
IsPlaceMade now l p = Places now l (placed_change p l.next)

-- the placement was made ready on this layout: it would have been legal at that moment, and replaces these groups
pub record IsPlaceReady (now : Moment) (l : Layout) (p : ReadyPlace) : Type 0 where
  pub level : p.level ≡ l.requested
  pub legal : IsPlaceMade now l p
  pub groups : legal.old ≡ p.old

-- what entries are compared with. A placement writes no bytes, so it reaches no unit
abbrev pub place_basis : ℕ → Option ℕ → ReadyPlace → Basis
place_basis unit last p = record { unit = unit; last = last; units = p.units; level = p.level; end = 0 }

-- none of the entries behind the log stands against the placement
abbrev pub SparesPlace : ℕ → Option ℕ → ReadyPlace → List NotedEntry → List NotedEntry → Type 0
SparesPlace unit last p log more =
    cause_in (entries_of more) (length log) (place_basis unit last p) (generations_of p.old) (kept_units p.old p.new) (placed_places p) ≡ None

-- what a caller tests before it makes the placement: the map has at most 256 groups, the new units are on drives that are up, and
-- no unit of the file stands at their places
pub record MayBePlaced (now : Moment) (l : Layout) (p : ReadyPlace) : Type 0 where
  pub groups : length (replaced (generations_of p.old) (numbered p.new l.next) l.groups) ≤ 256
  pub up : AllByRecursion (λ (s : Place). now.up s.drive ≡ true) (placed_places p)
  pub free : AreFree l (placed_places p)
