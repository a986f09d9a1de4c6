-- What a switch asks of the run of groups that it replaces.
use Rattle.std.specs.Prelude.{◌≡◌, ℕ, ◌+◌, ◌*◌, ◌≤◌, ◌⊎◌, List, [], length, take, drop}
use Rattle.inode_codec.specs.Inode.{data_units}
use Rattle.file_history.specs.Bytes.{overwrite}
use Rattle.file_history.specs.Layout.{Layout, replaced}
use Rattle.file_history.specs.declared.entry.Change.{Change}
use Rattle.map_changes.specs.ChangedMaps.{spliced}

-- the change puts its groups in the place of this run of groups, which has all bytes that the write changes: the new groups
-- reach the end, and are the last, or have as many data units as the old ones, and the range ends within them
pub record IsRunOf (unit : ℕ) (l : Layout) (old payload : List ℕ) (offset first count : ℕ) (change : Change) : Type 0 where
  pub within : first + count ≤ length l.groups
  pub run : replaced change.old change.new l.groups ≡ spliced l.groups first count change.new
  pub before : data_units (take first l.groups) * unit ≤ offset
  pub covers : ((drop (first + count) l.groups ≡ []) × (length (overwrite old offset payload) ≤ data_units (take first l.groups) * unit + data_units change.new * unit))
      ⊎ ((data_units change.new ≡ data_units (take count (drop first l.groups))) × (offset + length payload ≤ data_units (take first l.groups) * unit + data_units (take count (drop first l.groups)) * unit))
