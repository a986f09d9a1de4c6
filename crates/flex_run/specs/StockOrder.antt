-- The order in which the slots of a cluster are taken and come back.
use Rattle.std.specs.Prelude.{◌≡◌, ℕ, zero, suc, List, [], ◌∷◌, ◌++◌, map, Option, None, Some, ⊤}
use Rattle.flex_io.specs.declared.raw_place.RawPlace.{RawPlace}
use Rattle.flex_io.specs.declared.rack.Returned.{Returned}
use Rattle.domains.specs.Drive.{Drive}
use Rattle.domains.specs.Place.{Place}
use Rattle.domains.specs.Shape.{Shape}
use Rattle.held_slots.specs.Slots.{place_from}
use Rattle.plain_file.specs.Slots.{Tell}

-- the drive's first slots, this many, from the bottom of its stack: the last first
abbrev pub drive_stack : ℕ → Drive → List Place
drive_stack zero d = []
drive_stack (suc k) d = record { drive = d; slot = k } ∷ drive_stack k d

-- the stacks of the node's first drives, this many
abbrev pub node_stacks : ℕ → ℕ → ℕ → List Place
node_stacks zero node slots = []
node_stacks (suc k) node slots = node_stacks k node slots ++ drive_stack slots (record { node = node; drive = suc k })

-- the stacks of the first nodes, this many
abbrev pub all_stacks : ℕ → Shape → List Place
all_stacks zero shape = []
all_stacks (suc n) shape = all_stacks n shape ++ node_stacks shape.drives (suc n) shape.slots

-- all places of a cluster: drive by drive, each drive's from the bottom of its stack
abbrev pub stock_order : Shape → List Place
stock_order shape = all_stacks shape.nodes shape

-- the bytes, or none if they are not known
abbrev pub bytes_or_none : Option (List ℕ) → List ℕ
bytes_or_none None = []
bytes_or_none (Some bytes) = bytes

-- what comes back of slots that tell what they hold
abbrev pub returned_of : {S : Type 0} → (S → RawPlace) → (S → Option (List ℕ)) → List S → List Returned
returned_of place_of content slots = map (λ x. record { place = place_of x; bytes = bytes_or_none (content x) }) slots

-- the slots came back in their order, after what came back before, where the rack and the slots tell
abbrev pub PutsBack : {S : Type 0} → Option (List Returned) → Option (List Returned) → (S → RawPlace) → (S → Option (List ℕ)) → List S → Type 0
PutsBack None now place_of content slots = ⊤
PutsBack (Some before) now place_of content slots =
    Tell content slots → now ≡ Some (before ++ returned_of place_of content slots)
