-- What the units of a file hold, and what they leave open.
use Rattle.std.specs.Prelude.{◌≡◌, ℕ, ◌+◌, true, List, [], ◌∷◌, ◌++◌, length, take, replicate, Option, Some, None, IfSome}
use Rattle.std.specs.List.{AllByRecursion, flat_map}
use Rattle.domains.specs.Place.{Place}
use Rattle.domains.specs.declared.group.Group.{Group}
use Rattle.galois.specs.Codeword.{IsCodeword}
use Rattle.inode_codec.specs.Inode.{IsInode, inode_bytes}
use Rattle.inode_codec.specs.declared.inode.Inode.{Inode}
use Rattle.file_history.specs.World.{Moment}
use Rattle.file_history.specs.Layout.{Layout, group_list, all_groups}
use Rattle.file_history.specs.Live.{is_live}

-- each place holds its unit, where it tells
abbrev pub AreHeld : List Place → List (List ℕ) → (Place → Option (List ℕ)) → Type 0
AreHeld [] [] held = Unit {0}
AreHeld [] (u ∷ us) held = ⊥
AreHeld (s ∷ ss) [] held = ⊥
AreHeld (s ∷ ss) (u ∷ us) held = IfSome (held s) (λ content. content ≡ u) × AreHeld ss us held

-- the units of the group are a codeword, of `unit` bytes each, whose data units are these bytes in order
pub record HoldsGroup (held : Place → Option (List ℕ)) (unit : ℕ) (g : Group) (bytes : List ℕ) : Type 0 where
  pub units : List (List ℕ)
  pub codeword : IsCodeword g.n g.m units
  pub lengths : AllByRecursion (λ (u : List ℕ). length u ≡ unit) units
  pub joined : flat_map (λ (u : List ℕ). u) (take g.n units) ≡ bytes
  pub places : AreHeld g.places units held

-- the groups hold the bytes, one after the other
abbrev pub HoldsGroups : List Group → List ℕ → ℕ → (Place → Option (List ℕ)) → Type 0
HoldsGroups [] bytes unit held = bytes ≡ []
HoldsGroups (g ∷ gs) bytes unit held =
    (front : List ℕ) × (rest : List ℕ) × (bytes ≡ front ++ rest) × HoldsGroup held unit g front × HoldsGroups gs rest unit held

-- what the inode of the layout says
abbrev pub inode_of : ℕ → Layout → Inode
inode_of unit l = record { level = l.level; unit = unit; size = l.size; groups = l.groups }

-- the units of the inode spell it, where they tell
pub record SpellsInode (held : Place → Option (List ℕ)) (unit : ℕ) (l : Layout) (g : Group) : Type 0 where
  pub valid : IsInode (inode_of unit l)
  pub places : AllByRecursion (λ (s : Place). IfSome (held s) (λ content. content ≡ inode_bytes (inode_of unit l))) g.places

-- what the places hold, where they tell, is the file with this layout and these bytes: the inode's units spell the inode, and
-- the groups' units are codewords of the bytes, followed by zeros
pub record IsStored (held : Place → Option (List ℕ)) (unit : ℕ) (l : Layout) (bytes : List ℕ) : Type 0 where
  pub inode : AllByRecursion (SpellsInode held unit l) (group_list l.inode)
  pub size : l.size ≡ length bytes
  pub zeros : ℕ
  pub groups : HoldsGroups l.groups (bytes ++ replicate zeros 0) unit held

-- the places, of units from this position on, hold the same wherever the unit is live
abbrev pub AgreeOnPlaces : List Place → ℕ → Moment → Layout → ℕ → (Place → List ℕ) → (Place → List ℕ) → Type 0
AgreeOnPlaces [] position now l generation held other = Unit {0}
AgreeOnPlaces (s ∷ ss) position now l generation held other =
    (is_live now l generation position s ≡ true → other s ≡ held s)
    × AgreeOnPlaces ss (position + 1) now l generation held other

-- the places hold the same wherever a live unit of the layout stands
abbrev pub AgreeOnLive : Moment → Layout → (Place → List ℕ) → (Place → List ℕ) → Type 0
AgreeOnLive now l held other =
    AllByRecursion (λ (g : Group). AgreeOnPlaces g.places 0 now l g.generation held other) (all_groups l)

-- a layout without an inode has no groups and no bytes
abbrev pub IsRooted : Layout → Type 0
IsRooted l = l.inode ≡ None → (l.groups ≡ []) × (l.size ≡ 0)

-- the live units leave one file: any other that is stored with the same inode group, and agrees on the units that are live,
-- has the same groups, size and bytes
abbrev pub IsDetermined : Moment → (Place → List ℕ) → Layout → List ℕ → Type 0
IsDetermined now held l bytes =
    (other : Place → List ℕ) (found : Layout) (shown : List ℕ) → IsRooted found → found.inode ≡ l.inode
    → IsStored (λ s. Some (other s)) now.shape.unit found shown → AgreeOnLive now l held other
    → (found.groups ≡ l.groups) × (found.size ≡ l.size) × (shown ≡ bytes)
