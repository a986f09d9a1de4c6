-- What is seen of a file at a moment, and what it tells of the groups that an operation needs.
use Rattle.std.specs.Prelude.{◌≡◌, ℕ, ◌+◌, ◌*◌, ◌^◌, nat_lt, ◌<◌, ◌≤◌, Bool, true, false, ◌&&◌, ◌||◌, not, if◌then◌else◌, List, [], ◌∷◌, length, Option, Some, None}
use Rattle.std.specs.List.{AllByRecursion}
use Rattle.std.specs.Ordering.{nat_cmp}
use Rattle.std.specs.BTreeSet.{BTreeSet, contains}
use Rattle.domains.specs.Drive.{Drive, IsDrive}
use Rattle.domains.specs.DriveSet.{has}
use Rattle.domains.specs.declared.drive_set.DriveSet.{DriveSet}
use Rattle.domains.specs.Place.{Place}
use Rattle.domains.specs.declared.group.Group.{Group}
use Rattle.domains.specs.declared.group.Lost.{Lost}
use Rattle.file_history.specs.World.{Moment}
use Rattle.file_history.specs.Layout.{Layout}
use Rattle.file_history.specs.Live.{Part, range, write, one, is_dead, holds_byte, is_touched, is_filled_up, has_bytes_outside}
use Rattle.entry_causes.specs.declared.live.Sight.{Sight}
use Rattle.entry_causes.specs.declared.needs.Asked.{Asked}
use Rattle.entry_causes.specs.declared.needs.Asked.TheVariants.{Range, Write}

-- the unit is in the set of dead ones
abbrev pub is_dead_at : BTreeSet ℕ → ℕ → ℕ → Bool
is_dead_at dead generation position = contains nat_cmp dead (generation * 256 + position)

-- the unit counts: its drive is up, and it is not dead
abbrev pub live_at : DriveSet → BTreeSet ℕ → ℕ → ℕ → Place → Bool
live_at up dead generation position s = has up s.drive && not (is_dead_at dead generation position)

-- how many of these units count, the first of which has this position
abbrev pub count_live : List Place → ℕ → (ℕ → Place → Bool) → ℕ
count_live [] position live = 0
count_live (s ∷ ss) position live = (if live position s then 1 else 0) + count_live ss (position + 1) live

-- the group has too few live units
abbrev pub lost_of : DriveSet → BTreeSet ℕ → Group → Option Lost
lost_of up dead g =
    let have : ℕ = count_live g.places 0 (live_at up dead g.generation) in
    if nat_lt have g.n then Some (record { generation = g.generation; have = have; need = g.n }) else None

-- the first of two losses
abbrev pub first_of : Option Lost → Option Lost → Option Lost
first_of None later = later
first_of (Some lost) later = Some lost

-- whether a list ends here
abbrev pub is_last : {A : Type 0} → List A → Bool
is_last [] = true
is_last (x ∷ xs) = false

-- whether the part needs a group of the map: of its first unit, the group, and whether it is the last
abbrev pub needs : ℕ → ℕ → Part → ℕ → Group → Bool → Bool
needs unit size (range offset len) start g ends = holds_byte unit size offset len start g.n
needs unit size (write offset len width) start g ends =
    (is_touched unit size offset len start g.n || (ends && is_filled_up unit size offset len width g.n))
    && has_bytes_outside unit size offset len start g.n
needs unit size (one generation) start g ends = false

-- the first of the groups that the part needs and that has too few live units; the first of them begins with this unit
abbrev pub lost_from : List Group → ℕ → ℕ → ℕ → DriveSet → BTreeSet ℕ → Part → Option Lost
lost_from [] start unit size up dead part = None
lost_from (g ∷ gs) start unit size up dead part =
    first_of (if needs unit size part start g (is_last gs) then lost_of up dead g else None) (lost_from gs (start + g.n) unit size up dead part)

-- what is asked
abbrev pub part_of : Asked → Part
part_of (Range offset len) = range offset len
part_of (Write offset len width) = write offset len width

-- a range to write has a byte, and ends where numbers of 32 bits can say
abbrev pub IsAsked : Asked → Type 0
IsAsked (Range offset len) = Unit {0}
IsAsked (Write offset len width) = (1 ≤ len) × (offset + len < 2 ^ 32)

-- the sight is that of the file at this moment
pub record IsSightOf (sight : Sight) (now : Moment) (l : Layout) : Type 0 where
  pub unit_is : sight.unit ≡ now.shape.unit
  pub size_is : sight.size ≡ l.size
  pub up_is : (d : Drive) → IsDrive d → has sight.up.now d ≡ now.up d
  pub dead_is : (generation position : ℕ) → position < 256 → is_dead_at sight.dead.now generation position ≡ is_dead l generation position

-- the places of the group are few, and each is on a drive within the limits
pub record HasFewPlaces (g : Group) : Type 0 where
  pub few : length g.places ≤ 255
  pub drives : AllByRecursion (λ (s : Place). IsDrive s.drive) g.places
