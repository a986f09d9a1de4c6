-- The groups that a write replaces, as a run of the map.
use Rattle.std.specs.Prelude.{◌≡◌, ℕ, ◌+◌, ◌-◌, ◌*◌, ◌/◌, ◌<◌, ◌≤◌, min, max, nat_le, Bool, ◌&&◌, not, if◌then◌else◌, ◌⊎◌, List, [], ◌∷◌, length, map, take, drop}
use Rattle.domains.specs.declared.group.Group.{Group}
use Rattle.inode_codec.specs.Inode.{data_units, units_for}
use Rattle.file_history.specs.Layout.{Layout}
use Rattle.file_history.specs.Live.{write, needed_of_map, is_filled_up, has_bytes_outside}
use Rattle.file_history.specs.WriteRule.{affected_groups, groups_before, new_units}

-- `count` groups, from the one at `first` on
abbrev pub run_of : List Group → ℕ → ℕ → List Group
run_of groups first count = take count (drop first groups)

-- the last unit that the write reaches
abbrev pub last_unit : ℕ → ℕ → ℕ → ℕ
last_unit unit offset len = (offset + len - 1) / unit

-- the groups of these, the first of which begins with this unit, for which the test of the first unit and the number of units passes
abbrev pub groups_that : List Group → ℕ → (ℕ → ℕ → Bool) → List Group
groups_that [] start test = []
groups_that (g ∷ gs) start test =
    if test start g.n then g ∷ groups_that gs (start + g.n) test else groups_that gs (start + g.n) test

-- of these the last, where the test passes
abbrev pub last_that : List Group → ℕ → (ℕ → ℕ → Bool) → List Group
last_that [] start test = []
last_that (g ∷ []) start test = if test start g.n then g ∷ [] else []
last_that (g ∷ h ∷ gs) start test = last_that (h ∷ gs) (start + g.n) test

-- of these the first and the last, where the test passes
abbrev pub ends_that : List Group → ℕ → (ℕ → ℕ → Bool) → List Group
ends_that [] start test = []
ends_that (g ∷ gs) start test =
    if test start g.n then g ∷ last_that gs (start + g.n) test else last_that gs (start + g.n) test

-- how many data units each group has
abbrev pub widths_of : List Group → List ℕ
widths_of groups = map (λ (g : Group). g.n) groups

-- of groups with these numbers of data units, the first of which begins with unit `start`, how many stand before the first that is
-- replaced: those that end by this unit, but for the last group if the write fills it up
abbrev pub first_from : List ℕ → ℕ → ℕ → (ℕ → Bool) → ℕ
first_from [] start unit fills = 0
first_from (n ∷ []) start unit fills = if nat_le (start + n) unit && not (fills n) then 1 else 0
first_from (n ∷ m ∷ ns) start unit fills = if nat_le (start + n) unit then 1 + first_from (m ∷ ns) (start + n) unit fills else 0

-- how many of these groups begin by this unit
abbrev pub begun_by : List ℕ → ℕ → ℕ → ℕ
begun_by [] start unit = 0
begun_by (n ∷ ns) start unit = if nat_le start unit then 1 + begun_by ns (start + n) unit else 0

-- the first group that a write replaces
abbrev pub first_replaced : ℕ → Layout → ℕ → ℕ → ℕ → ℕ
first_replaced unit l offset len width =
    first_from (widths_of l.groups) 0 (min (offset / unit) (units_for unit l.size)) (is_filled_up unit l.size offset len width)

-- and the one behind the last
abbrev pub stop_replaced : ℕ → Layout → ℕ → ℕ → ℕ
stop_replaced unit l offset len = begun_by (widths_of l.groups) 0 (last_unit unit offset len)

-- a write replaces `count` groups, from the one at `first` on. If it replaces none, its groups go to the end of the map
pub record IsAffectedRun (unit : ℕ) (l : Layout) (offset len width first count : ℕ) : Type 0 where
  pub within : first + count ≤ length l.groups
  pub run : affected_groups unit l offset len width ≡ run_of l.groups first count
  pub none : count ≡ 0 → first ≡ length l.groups
  pub before : groups_before (affected_groups unit l offset len width) l.groups ≡ take first l.groups
  -- of the map it needs the first and the last of the run, where they have bytes outside the range
  pub needed : needed_of_map unit l (write offset len width)
      ≡ ends_that (run_of l.groups first count) (data_units (take first l.groups)) (has_bytes_outside unit l.size offset len)
  -- the write begins no earlier
  pub starts : data_units (take first l.groups) * unit ≤ offset
  -- the new groups reach the later of its last unit and the run's
  pub covers : data_units (take first l.groups) + new_units unit l offset len width
      ≡ max (last_unit unit offset len + 1) (data_units (take first l.groups) + data_units (run_of l.groups first count))
  -- the run is the last, or has all that is written
  pub ends : (first + count ≡ length l.groups)
      ⊎ (last_unit unit offset len < data_units (take first l.groups) + data_units (run_of l.groups first count))
