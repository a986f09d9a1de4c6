-- The change of a file's map: what it brings, and what it makes of the map.
use Rattle.std.specs.Prelude.{◌≡◌, ℕ, ◌+◌, ◌-◌, ◌*◌, ◌^◌, ◌<◌, ◌≤◌, max, min, ◌⊎◌, List, [], ◌∷◌, ◌++◌, length, map, take, drop, Option, None, Some, vec_capacity}
use Rattle.std.specs.List.{AllByRecursion}
use Rattle.flex_io.specs.Faults.{HasRisen}
use Rattle.flex_io.specs.declared.raw_place.RawPlace.{RawPlace}
use Rattle.domains.specs.Place.{Place}
use Rattle.domains.specs.declared.group.Group.{Group}
use Rattle.held_slots.specs.Slots.{places_from}
use Rattle.inode_codec.specs.Inode.{data_units, inode_bytes}
use Rattle.file_history.specs.Bytes.{bytes_after_event}
use Rattle.file_history.specs.Layout.{Layout, places_of}
use Rattle.file_history.specs.declared.entry.Change.{Change}
use Rattle.file_history.specs.declared.entry.FileEvent.{FileEvent}
use Rattle.file_history.specs.declared.entry.FileEvent.TheVariants.{Placed, Written}
use Rattle.write_rule.specs.NewBytes.{padded_slice}
use Rattle.map_changes.specs.ChangedMaps.{first_of, inode_with, spliced}
use Rattle.stale_changes.specs.declared.basis.KeptUnit.{KeptUnit}
use Rattle.stale_changes.specs.declared.stale.Stale.{Stale}
use Rattle.stale_changes.specs.declared.stale.Stale.TheVariants.{Replaced, Dead, Barred, Level, Presence, Units as Moved, InodeSlot, NoMemory}
use Rattle.striped_groups.specs.StoredGroups.{GroupSlots, HoldRun, list_of, stored_group}
use Rattle.map_switches.specs.declared.change.Why.{Why}
use Rattle.map_switches.specs.declared.change.Why.TheVariants.{Write, Place as Place_}
use Rattle.map_switches.specs.declared.change.FreshUnit.{FreshUnit}
use Rattle.map_switches.specs.RepairedUnits.{AreFreshUnits, HoldMissing, added_places, freed, kept_among, repaired, repaired_group}
use Rattle.map_switches.specs.declared.change.Fresh.{Fresh}
use Rattle.map_switches.specs.declared.change.Fresh.TheVariants.{Groups, Units}
use Rattle.map_switches.specs.declared.change.MapChange.{MapChange}
use Rattle.map_switches.specs.declared.map_text.InodeHead.{InodeHead}
use Rattle.map_switches.specs.declared.prepared.Prepared.{Prepared}
use Rattle.map_switches.specs.declared.exchanged.Exchanged.{Exchanged}
use Rattle.map_switches.specs.declared.exchanged.Room.{Room}

-- the groups, with the generations from this one on
abbrev pub numbered : List Group → ℕ → List Group
numbered [] next = []
numbered (g ∷ gs) next = record g { generation = next } ∷ numbered gs (next + 1)

-- the size of the file after the change
abbrev pub size_after : Why → ℕ → ℕ
size_after (Write offset bytes) size = max size (offset + length bytes)
size_after (Place_ job) size = size

-- where the bytes that are written end, as far as 64 bits can name it
abbrev pub end_of : Why → ℕ
end_of (Write offset bytes) = min (offset + length bytes) (2 ^ 64 - 1)
end_of (Place_ job) = 0

-- the generation of the last group
abbrev pub last_generation : List Group → Option ℕ
last_generation [] = None
last_generation (g ∷ []) = Some g.generation
last_generation (g ∷ h ∷ gs) = last_generation (h ∷ gs)

-- the bytes that the entry carries
abbrev pub payload_of : Why → List ℕ
payload_of (Write offset bytes) = bytes
payload_of (Place_ job) = []

-- the entry's event, where the file has this size after it
abbrev pub event_with : Why → ℕ → Change → FileEvent
event_with (Write offset bytes) size change = Written offset (length bytes) size change
event_with (Place_ job) size change = Placed job change

-- the event of a change to a file of this size
abbrev pub event_of : Why → ℕ → Change → FileEvent
event_of why size change = event_with why (size_after why size) change

-- the groups of the slots
abbrev pub groups_of : {S : Type 0} → List (GroupSlots S) → List Group
groups_of stripes = map (λ (g : GroupSlots _). g.group) stripes

-- the groups, and their slots, with the generations from this one on
abbrev pub stripes_from : {S : Type 0} → List (GroupSlots S) → ℕ → List (GroupSlots S)
stripes_from [] next = []
stripes_from (x ∷ xs) next = record { group = record x.group { generation = next }; slots = x.slots } ∷ stripes_from xs (next + 1)

module _ {S : Type 0} where
  -- the groups that stand in the place of a run of old ones
  abbrev pub brought_groups : List Group → Fresh S → List Group
  brought_groups run (Groups gs) = groups_of gs
  brought_groups run (Units us) = map (repaired_group us) run

  -- these groups, and their slots
  abbrev pub brought : List (GroupSlots S) → Fresh S → List (GroupSlots S)
  brought run (Groups gs) = gs
  brought run (Units us) = map (repaired us) run

  -- the old groups, each with its slots but for those that are kept
  abbrev pub released : List (GroupSlots S) → Fresh S → List (GroupSlots S)
  released run (Groups gs) = run
  released run (Units us) = map (freed us) run

  -- the places of the new units, but for the inode's
  abbrev pub fresh_places : Fresh S → List Place
  fresh_places (Groups gs) = places_of (groups_of gs)
  fresh_places (Units us) = added_places us

  -- the units that stay where they are
  abbrev pub kept_units : Fresh S → List KeptUnit
  kept_units (Groups gs) = []
  kept_units (Units us) = kept_among us

  -- how many groups, and how many slots, come out of their places with others in hand
  abbrev pub group_room : Fresh S → ℕ
  group_room (Groups gs) = length gs
  group_room (Units us) = 0

  abbrev pub slot_room : Fresh S → ℕ
  slot_room (Groups gs) = 0
  slot_room (Units us) = length us

  -- units for each position of one old group, where there are units
  abbrev pub AreForRun : List (GroupSlots S) → Fresh S → Type 0
  AreForRun run (Groups gs) = Unit {0}
  AreForRun [] (Units us) = ⊥
  AreForRun (g ∷ []) (Units us) = length us ≡ length g.slots
  AreForRun (g ∷ h ∷ gs) (Units us) = ⊥

-- the groups that these generations name: as many as they are, from the first of them on
abbrev pub run_of : List ℕ → List Group → List Group
run_of old gs = take (length old) (drop (first_of old gs) gs)

-- and with their slots
abbrev pub run_in : {S : Type 0} → List ℕ → List (GroupSlots S) → List (GroupSlots S)
run_in old gs = take (length old) (drop (first_of old (groups_of gs)) gs)

module _ {S : Type 0} where
  -- the new groups of the change, of a map with these groups
  abbrev pub new_groups : List Group → MapChange S → List Group
  new_groups gs change = brought_groups (run_of change.old gs) change.fresh

  -- and with their slots
  abbrev pub new_stripes : List (GroupSlots S) → MapChange S → List (GroupSlots S)
  new_stripes gs change = brought (run_in change.old gs) change.fresh

  -- the change as the log tells it, of a file with this layout
  abbrev pub logged : Layout → MapChange S → Change
  logged l change = record {
    old = change.old;
    new = numbered (new_groups l.groups change) l.next;
    inode = record change.inode.group { generation = l.next + length (new_groups l.groups change) };
  }

  -- the places of the new units: the groups', and then the inode's
  abbrev pub new_places : MapChange S → List Place
  new_places change = fresh_places change.fresh ++ change.inode.group.places

  -- the new inode, with its slots
  abbrev pub inode_from : Layout → MapChange S → GroupSlots S
  inode_from l change = record { group = (logged l change).inode; slots = change.inode.slots }

  module _ (place_of : S → RawPlace) (len_of : S → ℕ) where
    -- the slots of a new group stand at its places, and each has the length of a unit
    pub record IsFreshStripe (unit : ℕ) (g : GroupSlots S) : Type 0 where
      pub stands : places_from place_of g.slots ≡ g.group.places
      pub sized : AllByRecursion (λ (x : S). len_of x ≡ unit) g.slots

    abbrev pub AreOfSlots : ℕ → List ℕ → Fresh S → Type 0
    AreOfSlots unit old (Groups gs) = AllByRecursion (IsFreshStripe unit) gs
    AreOfSlots unit old (Units us) = AreFreshUnits place_of len_of us 0 unit old

    -- the slots of the new groups, or of the new units, and of the inode stand at their places, and a unit has its length
    pub record IsOfSlots (unit : ℕ) (change : MapChange S) : Type 0 where
      pub groups : AreOfSlots unit change.old change.fresh
      pub inode : places_from place_of change.inode.slots ≡ change.inode.group.places

  module _ (content : S → Option (List ℕ)) where
    -- the units are those of a job's repair of the one old group, which has these bytes; a write brings whole groups
    abbrev pub AreRepairs : Why → List Group → ℕ → List ℕ → List (FreshUnit S) → Type 0
    AreRepairs (Write offset bytes) run unit part us = ⊥
    AreRepairs (Place_ job) [] unit part us = ⊥
    AreRepairs (Place_ job) (g ∷ []) unit part us = HoldMissing content unit g part us
    AreRepairs (Place_ job) (g ∷ h ∷ gs) unit part us = ⊥

  module _ (place_of : S → RawPlace) (content : S → Option (List ℕ)) (len_of : S → ℕ) where
    -- what comes in the place of the old groups holds this part of the bytes
    abbrev pub HoldFresh : Why → List Group → ℕ → List ℕ → Fresh S → Type 0
    HoldFresh why run unit part (Groups gs) = HoldRun (map (stored_group place_of content len_of) gs) part unit
    HoldFresh why run unit part (Units us) = AreRepairs content why run unit part us

    -- the new groups hold their part of the bytes that the file has after the change, which had these before
    abbrev pub HoldPart : Layout → ℕ → List ℕ → MapChange S → Type 0
    HoldPart l unit bytes change =
        HoldFresh change.why (run_of change.old l.groups) unit
        (padded_slice (bytes_after_event (event_of change.why l.size (logged l change)) (payload_of change.why) bytes)
        (data_units (take (first_of change.old l.groups) l.groups) * unit) (data_units (new_groups l.groups change) * unit)) change.fresh

  -- the change, on groups with these slots, keeps within the limits of its numbers
  pub record IsBounded (gs : List (GroupSlots S)) (next long : ℕ) (change : MapChange S) : Type 0 where
    pub within : first_of change.old (groups_of gs) + length change.old ≤ length gs
    pub units : AreForRun (run_in change.old gs) change.fresh
    pub small : next + length (new_groups (groups_of gs) change) + 1 < 2 ^ 32
    pub few : length (spliced (groups_of gs) (first_of change.old (groups_of gs)) (length change.old) (numbered (new_groups (groups_of gs) change) next)) ≤ 256
    pub narrow : AllByRecursion (λ (g : GroupSlots S). length g.group.places ≤ 255) gs
    pub new_narrow : AllByRecursion (λ (g : Group). length g.places ≤ 255) (numbered (new_groups (groups_of gs) change) next)
    pub root_narrow : length change.inode.group.places ≤ 255
    pub size : size_after change.why long ≤ 2 ^ 29
    pub payload : length (payload_of change.why) ≤ 2 ^ 29

  -- the new groups stand in the place of the old ones, and this is what the file takes in and gives back
  pub record IsExchanged (gs new : List (GroupSlots S)) (generation long : ℕ) (change : MapChange S) (p : Prepared) (r : Exchanged S) : Type 0 where
    pub groups : new ≡ spliced gs (first_of change.old (groups_of gs)) (length change.old) (stripes_from (new_stripes gs change) generation)
    pub gone : r.gone ≡ released (run_in change.old gs) change.fresh
    pub inode : r.inode ≡ record { group = record change.inode.group { generation = p.inode.generation }; slots = change.inode.slots }
    pub event : r.event ≡ event_with change.why (size_after change.why long) (record { old = change.old; new = p.groups.items; inode = p.inode })
    pub payload : r.payload ≡ payload_of change.why
    pub next : r.next ≡ p.inode.generation + 1
    pub size : r.size ≡ size_after change.why long
    pub units : r.units ≡ length (places_of (groups_of new)) + length change.inode.group.places

  -- there is memory for so many groups and slots, and none there yet
  pub record IsRoomFor (groups slots : ℕ) (room : Room S) : Type 0 where
    pub group_room : groups ≤ vec_capacity room.gone
    pub slot_room : slots ≤ vec_capacity room.freed
    pub no_groups : room.gone.items ≡ []
    pub no_slots : room.freed.items ≡ []

  -- the groups of a repair, which the map takes
  abbrev pub repaired_among : Fresh S → List Group → List Group
  repaired_among (Groups gs) new = []
  repaired_among (Units us) new = new

  -- the same of a change on groups with these slots, whose inode says this besides its groups
  pub record IsMadeReady (gs : List (GroupSlots S)) (next : ℕ) (head : InodeHead) (change : MapChange S) (p : Prepared) : Type 0 where
    pub groups : p.groups.items ≡ numbered (new_groups (groups_of gs) change) next
    pub repaired : list_of p.repaired ≡ repaired_among change.fresh (numbered (new_groups (groups_of gs) change) next)
    pub inode : p.inode ≡ record change.inode.group { generation = next + length (new_groups (groups_of gs) change) }
    pub text : p.text.items ≡ inode_bytes (inode_with head.level head.unit head.size
        (spliced (groups_of gs) (first_of change.old (groups_of gs)) (length change.old) (numbered (new_groups (groups_of gs) change) next)))

module _ {S : Type 0} (faults : S → ℕ) where
  -- the slot at this position failed, or memory ran out
  abbrev pub IsFaultAt : S → S → ℕ → Stale → Type 0
  IsFaultAt old new at (Replaced generation entry) = ⊥
  IsFaultAt old new at (Dead generation position entry) = ⊥
  IsFaultAt old new at (Barred drive entry) = ⊥
  IsFaultAt old new at (Level entry) = ⊥
  IsFaultAt old new at (Presence entry) = ⊥
  IsFaultAt old new at (Moved entry) = ⊥
  IsFaultAt old new at (InodeSlot position) = (position ≡ at) × HasRisen (faults old) (faults new)
  IsFaultAt old new at NoMemory = Unit {0}

  -- one of the slots, the first of which has this position, is the one that failed
  abbrev pub IsSlotFault : List S → List S → ℕ → Stale → Type 0
  IsSlotFault [] ys at why = why ≡ NoMemory
  IsSlotFault (x ∷ xs) [] at why = why ≡ NoMemory
  IsSlotFault (x ∷ xs) (y ∷ ys) at why = IsFaultAt x y at why ⊎ IsSlotFault xs ys (at + 1) why

module _ {S : Type 0} (place_of : S → RawPlace) (faults : S → ℕ) where
  -- the change is the old one, whose inode's slots may have been written
  pub record IsBack (old new : MapChange S) : Type 0 where
    pub same : new ≡ record old { inode = record { group = old.inode.group; slots = new.inode.slots } }
    pub places : map place_of new.inode.slots ≡ map place_of old.inode.slots

  -- a change is refused with this cause, if there is one, or for want of memory; else a slot of the inode failed, or memory ran out
  abbrev pub IsRefusal : Option Stale → MapChange S → Stale → MapChange S → Type 0
  IsRefusal (Some cause) old why new = ((why ≡ cause) ⊎ (why ≡ NoMemory)) × (new ≡ old)
  IsRefusal None old why new = IsBack old new × IsSlotFault faults old.inode.slots new.inode.slots 0 why
