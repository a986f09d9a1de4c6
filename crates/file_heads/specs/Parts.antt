-- Which units count, which groups a part needs, and which of them have too few live units.
use Rattle.std.specs.Prelude.{ℕ, ◌+◌, ◌-◌, ◌^◌, ◌==◌, nat_lt, ◌<◌, ◌≤◌, Bool, true, false, ◌&&◌, ◌||◌, not, if◌then◌else◌, List, [], ◌∷◌, Option, Some, None}
use Rattle.std.specs.List.{list_any}
use Rattle.board.specs.declared.board_view.View.{View}
use Rattle.domains.specs.DriveSet.{has}
use Rattle.domains.specs.Shape.{Shape, is_of}
use Rattle.domains.specs.Place.{Place}
use Rattle.domains.specs.declared.group.Group.{Group}
use Rattle.domains.specs.declared.group.Lost.{Lost}
use Rattle.file_history.specs.Layout.{Unit_}
use Rattle.file_history.specs.Live.{Part, range, write, one, holds_byte, is_touched, is_filled_up, has_bytes_outside}
use Rattle.file_heads.specs.declared.part.Part.{Part as Asked}
use Rattle.file_heads.specs.declared.part.Part.TheVariants.{Range, Write, One}

-- of the units from this position on, which are the first `need` that are live
abbrev pub first_live : List Place → ℕ → ℕ → (ℕ → Place → Bool) → List Bool
first_live [] need position live = []
first_live (s ∷ ss) need position live =
    let read : Bool = nat_lt 0 need && live position s in
    read ∷ first_live ss (if read then need - 1 else need) (position + 1) live

-- how many of these units are live, the first of which has this position
abbrev pub count_live : List Place → ℕ → (ℕ → Place → Bool) → ℕ
count_live [] position live = 0
count_live (s ∷ ss) position live = (if live position s then 1 else 0) + count_live ss (position + 1) live

-- the unit counts: its drive is one of the cluster that is up in the view, and it is none of the dead ones
abbrev pub live_at : Shape → View → List Unit_ → ℕ → ℕ → Place → Bool
live_at shape view dead generation position s =
    (is_of shape s.drive && has view.up s.drive)
    && not (list_any (λ (u : Unit_). (u.generation == generation) && (u.position == position)) dead)

-- whether the part needs a group of the map: of its first unit, the group, and whether it is the last
abbrev pub needs : ℕ → ℕ → Part → ℕ → Group → Bool → Bool
needs unit size (range offset len) start g ends = holds_byte unit size offset len start g.n
needs unit size (write offset len width) start g ends =
    (is_touched unit size offset len start g.n || (ends && is_filled_up unit size offset len width g.n))
    && has_bytes_outside unit size offset len start g.n
needs unit size (one generation) start g ends = g.generation == generation

-- the part asks for this one group
abbrev pub is_asked : Part → Group → Bool
is_asked (range offset len) g = false
is_asked (write offset len width) g = false
is_asked (one generation) g = g.generation == generation

-- what a part asks for
abbrev pub part_of : Asked → Part
part_of (Range offset len) = range offset len
part_of (Write offset len n) = write offset len n
part_of (One generation) = one generation

-- a range to write has a byte, and ends where numbers of 32 bits can say
abbrev pub IsPart : Part → Type 0
IsPart (range offset len) = Unit {0}
IsPart (write offset len width) = (1 ≤ len) × (offset + len < 2 ^ 32)
IsPart (one generation) = Unit {0}

-- the group has too few live units
abbrev pub lost_of : Shape → View → List Unit_ → Group → Option Lost
lost_of shape view dead g =
    let have : ℕ = count_live g.places 0 (live_at shape view dead g.generation) in
    if nat_lt have g.n then Some (record { generation = g.generation; have = have; need = g.n }) else None

-- the first of two losses
abbrev pub first_of : Option Lost → Option Lost → Option Lost
first_of None later = later
first_of (Some lost) later = Some lost

-- whether a list ends here
abbrev pub is_last : {A : Type 0} → List A → Bool
is_last [] = true
is_last (x ∷ xs) = false

-- the first of the groups that the part needs and that has too few live units
abbrev pub lost_from : List Group → ℕ → Shape → View → List Unit_ → ℕ → Part → Option Lost
lost_from [] start shape view dead size part = None
lost_from (g ∷ gs) start shape view dead size part =
    first_of (if needs shape.unit size part start g (is_last gs) then lost_of shape view dead g else None)
    (lost_from gs (start + g.n) shape view dead size part)
