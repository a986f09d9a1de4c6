-- Which groups a write replaces, and by how many data units.
use Rattle.std.specs.Prelude.{◌≡◌, ℕ, ◌+◌, ◌-◌, ◌/◌, ◌≤◌, max, ◌&&◌, ◌||◌, not, List, [], ◌∷◌, length, map, take_while}
use Rattle.domains.specs.declared.group.Group.{Group}
use Rattle.inode_codec.specs.Inode.{data_units}
use Rattle.file_history.specs.Layout.{Layout, is_among}
use Rattle.file_history.specs.Live.{groups_with, is_touched, is_filled_up}

-- the groups that a write of the range replaces, where new groups have at most `width` data units
abbrev pub affected_groups : ℕ → Layout → ℕ → ℕ → ℕ → List Group
affected_groups unit l offset len width =
    groups_with l.groups 0 (λ start g is_last.
    is_touched unit l.size offset len start g.n || (is_last && is_filled_up unit l.size offset len width g.n))

abbrev pub generations_of : List Group → List ℕ
generations_of groups = map (λ (g : Group). g.generation) groups

-- the groups before those
abbrev pub groups_before : List Group → List Group → List Group
groups_before replaced groups = take_while (λ (g : Group). not (is_among (generations_of replaced) g.generation)) groups

-- how many data units the new groups have: from the first that they take over to the last that they take over or the write reaches
abbrev pub new_units : ℕ → Layout → ℕ → ℕ → ℕ → ℕ
new_units unit l offset len width =
    let affected : List Group = affected_groups unit l offset len width in
    let first : ℕ = data_units (groups_before affected l.groups) in
    max ((offset + len - 1) / unit + 1) (first + data_units affected) - first

-- groups of these numbers of data units share `count` of them: each has the whole width, and the last what is left
abbrev pub AreChunks : ℕ → ℕ → List ℕ → Type 0
AreChunks count width [] = count ≡ 0
AreChunks count width (n ∷ []) = (n ≡ count) × (1 ≤ n) × (n ≤ width)
AreChunks count width (n ∷ m ∷ ns) = (n ≡ width) × (n ≤ count) × AreChunks (count - n) width (m ∷ ns)

-- how many groups share `count` data units
abbrev pub chunk_count : ℕ → ℕ → ℕ
chunk_count count width = (count + (width - 1)) / width

-- how many groups the map has after a write
abbrev pub groups_after_write : ℕ → Layout → ℕ → ℕ → ℕ → ℕ
groups_after_write unit l offset len width =
    length l.groups - length (affected_groups unit l offset len width) + chunk_count (new_units unit l offset len width) width
