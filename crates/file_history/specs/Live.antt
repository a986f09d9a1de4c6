-- Which units count, and what a read or a write needs.
use Rattle.std.specs.Prelude.{ℕ, ◌+◌, ◌*◌, ◌/◌, ◌-◌, ◌==◌, min, nat_lt, nat_le, Bool, true, false, ◌&&◌, ◌||◌, not, if◌then◌else◌, List, [], ◌∷◌, ◌++◌, Option, Some, None, ◌≡◌}
use Rattle.std.specs.List.{list_any}
use Rattle.domains.specs.Place.{Place}
use Rattle.domains.specs.declared.group.Group.{Group}
use Rattle.domains.specs.declared.group.Lost.{Lost}
use Rattle.inode_codec.specs.Inode.{units_for}
use Rattle.file_history.specs.World.{Moment}
use Rattle.file_history.specs.Layout.{Layout, Unit_, group_list}

-- an entry of the log says that the unit is dead
abbrev pub is_dead : Layout → ℕ → ℕ → Bool
is_dead l generation position = list_any (λ (u : Unit_). (u.generation == generation) && (u.position == position)) l.dead

-- the unit counts: its drive is up, and no entry says that it is dead
abbrev pub is_live : Moment → Layout → ℕ → ℕ → Place → Bool
is_live now l generation position placed = now.up placed.drive && not (is_dead l generation position)

-- how many of the units at these places count, from this position on
abbrev pub live_from : List Place → ℕ → Moment → Layout → ℕ → ℕ
live_from [] position now l generation = 0
live_from (s ∷ ss) position now l generation =
    (if is_live now l generation position s then 1 else 0) + live_from ss (position + 1) now l generation

-- how many units of the group count
abbrev pub live_units : Moment → Layout → Group → ℕ
live_units now l g = live_from g.places 0 now l g.generation

-- what is asked of a file: the bytes of a range; to write a range, where new groups have at most this number of data units; one group
pub data Part : Type 0 where
  range : ℕ → ℕ → Part
  write : ℕ → ℕ → ℕ → Part
  one : ℕ → Part

-- the group that begins with this unit holds a byte of the range that ends before the end of the file
abbrev pub holds_byte : ℕ → ℕ → ℕ → ℕ → ℕ → ℕ → Bool
holds_byte unit size offset len start n =
    let stop : ℕ = min (offset + len) size in
    nat_lt offset stop && (nat_lt (start * unit) stop && nat_lt offset ((start + n) * unit))

-- a write of the range touches the group: it holds a unit between the first written one, or the end, and the last written one
abbrev pub is_touched : ℕ → ℕ → ℕ → ℕ → ℕ → ℕ → Bool
is_touched unit size offset len start n =
    let first : ℕ = min (offset / unit) (units_for unit size) in
    let last : ℕ = (offset + len - 1) / unit in
    nat_le start last && nat_lt first (start + n)

-- a write past the last unit fills up the last group, where it has room for more data units
abbrev pub is_filled_up : ℕ → ℕ → ℕ → ℕ → ℕ → ℕ → Bool
is_filled_up unit size offset len width n = nat_le (units_for unit size) ((offset + len - 1) / unit) && nat_lt n width

-- the group has bytes of the file outside the range
abbrev pub has_bytes_outside : ℕ → ℕ → ℕ → ℕ → ℕ → ℕ → Bool
has_bytes_outside unit size offset len start n =
    nat_lt (start * unit) size
    && (nat_lt (start * unit) offset || (nat_lt (offset + len) size && nat_lt (offset + len) ((start + n) * unit)))

-- the groups for which the test passes: of the first unit, the group, and whether it is the last
abbrev pub groups_with : List Group → ℕ → (ℕ → Group → Bool → Bool) → List Group
groups_with [] start p = []
groups_with (g ∷ []) start p = if p start g true then g ∷ [] else []
groups_with (g ∷ h ∷ gs) start p =
    if p start g false then g ∷ groups_with (h ∷ gs) (start + g.n) p else groups_with (h ∷ gs) (start + g.n) p

-- the groups of the map that the part needs, in map order
abbrev pub needed_of_map : ℕ → Layout → Part → List Group
needed_of_map unit l (range offset len) =
    groups_with l.groups 0 (λ start g is_last. holds_byte unit l.size offset len start g.n)
needed_of_map unit l (write offset len width) =
    groups_with l.groups 0 (λ start g is_last.
    (is_touched unit l.size offset len start g.n || (is_last && is_filled_up unit l.size offset len width g.n))
    && has_bytes_outside unit l.size offset len start g.n)
needed_of_map unit l (one generation) = groups_with l.groups 0 (λ start g is_last. g.generation == generation)

-- the groups that the part needs: the inode's, and then those of the map
abbrev pub needed_groups : ℕ → Layout → Part → List Group
needed_groups unit l part = group_list l.inode ++ needed_of_map unit l part

abbrev pub short_in : List Group → Moment → Layout → Option Lost
short_in [] now l = None
short_in (g ∷ gs) now l =
    if nat_lt (live_units now l g) g.n
    then Some (record { generation = g.generation; have = live_units now l g; need = g.n })
    else short_in gs now l

-- the first needed group that has fewer live units than data units
abbrev pub first_short : Moment → Layout → Part → Option Lost
first_short now l part = short_in (needed_groups now.shape.unit l part) now l

-- each needed group has enough live units
abbrev pub IsReadable : Moment → Layout → Part → Type 0
IsReadable now l part = first_short now l part ≡ None
