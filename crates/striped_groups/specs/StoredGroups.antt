-- What the slots of a group hold, by position: of each slot the bytes, where it tells them.
use Rattle.std.specs.Prelude.{◌≡◌, ℕ, ◌≤◌, List, [], ◌∷◌, ◌++◌, length, map, take, Option, Some, None, IsSome}
use Rattle.std.specs.List.{AllByRecursion, flat_map}
use Rattle.flex_io.specs.Slots.{Holds}
use Rattle.flex_io.specs.declared.raw_place.RawPlace.{RawPlace}
use Rattle.domains.specs.Place.{Place}
use Rattle.domains.specs.declared.group.Group.{Group}
use Rattle.galois.specs.Codeword.{IsCodeword}
use Rattle.held_slots.specs.Slots.{places_from}
use Rattle.inode_codec.specs.Inode.{IsInode, inode_bytes}
use Rattle.inode_codec.specs.declared.inode.Inode.{Inode}

-- what a slot tells
abbrev pub Content : Type 0
Content = Option (List ℕ)

-- a group, and its slots by position
pub record GroupSlots (S : Type 0) : Type 0 where
  pub group : Group
  pub slots : List S

-- a group, and of each of its slots where it is, what it tells, and how many bytes it has
pub record StoredGroup : Type 0 where
  pub group : Group
  pub places : List Place
  pub contents : List Content
  pub lengths : List ℕ

module _ {S : Type 0} (place_of : S → RawPlace) (content : S → Option (List ℕ)) (len_of : S → ℕ) where
  abbrev pub stored_group : GroupSlots S → StoredGroup
  stored_group g = record { group = g.group; places = places_from place_of g.slots; contents = map content g.slots; lengths = map len_of g.slots }

module _ {S : Type 0} (content : S → Option (List ℕ)) (len_of : S → ℕ) where
  -- the last write to the slot was of these bytes
  pub record Took (bytes : List ℕ) (x : S) : Type 0 where
    pub held : Holds (content x) bytes
    pub len : len_of x ≡ length bytes

-- the element, if there is one
abbrev pub list_of : {A : Type 0} → Option A → List A
list_of None = []
list_of (Some x) = x ∷ []

-- every slot of the type tells what it holds
abbrev pub AllTell : {S : Type 0} → (S → Option (List ℕ)) → Type 0
AllTell content = (x : _) → IsSome (content x)

-- each slot holds its unit, where it tells
abbrev pub HoldEach : List Content → List (List ℕ) → Type 0
HoldEach [] [] = Unit {0}
HoldEach [] (u ∷ us) = ⊥
HoldEach (x ∷ xs) [] = ⊥
HoldEach (x ∷ xs) (u ∷ us) = Holds x u × HoldEach xs us

-- the slots hold the units of a codeword, of `unit` bytes each, whose data units are these bytes in order
pub record HoldsUnits (unit n m : ℕ) (bytes : List ℕ) (contents : List Content) : Type 0 where
  pub units : List (List ℕ)
  pub codeword : IsCodeword n m units
  pub lengths : AllByRecursion (λ (u : List ℕ). length u ≡ unit) units
  pub joined : flat_map (λ (u : List ℕ). u) (take n units) ≡ bytes
  pub held : HoldEach contents units

-- the slots of the groups hold the bytes, one group after the other
abbrev pub HoldRun : List StoredGroup → List ℕ → ℕ → Type 0
HoldRun [] bytes unit = bytes ≡ []
HoldRun (g ∷ gs) bytes unit =
    (front : List ℕ) × (rest : List ℕ) × (bytes ≡ front ++ rest) × HoldsUnits unit g.group.n g.group.m front g.contents × HoldRun gs rest unit

-- each slot spells the inode, where it tells
pub record SpellIn (i : Inode) (contents : List Content) : Type 0 where
  pub valid : IsInode i
  pub held : AllByRecursion (λ (x : Content). Holds x (inode_bytes i)) contents

-- the slots are as many as positions can name, and stand at the group's places
pub record StandsThere (g : StoredGroup) : Type 0 where
  pub places : g.places ≡ g.group.places
  pub few : length g.places ≤ 255
