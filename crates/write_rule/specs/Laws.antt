-- The law of a write's run.
use Rattle.std.specs.Prelude.{◌≡◌, ℕ, ◌+◌, ◌-◌, ◌≤◌, ◌⊎◌, List, length}
use Rattle.inode_codec.specs.Inode.{IsInode, data_units, units_for}
use Rattle.file_history.specs.World.{Moment}
use Rattle.file_history.specs.Bytes.{bytes_after, overwrite}
use Rattle.file_history.specs.Layout.{Layout, replaced}
use Rattle.file_history.specs.Stored.{inode_of}
use Rattle.file_history.specs.Step.{Writes}
use Rattle.file_history.specs.WriteRule.{groups_after_write}
use Rattle.file_history.specs.declared.entry.Change.{Change}
use Rattle.file_history.specs.declared.entry.NotedEntry.{NotedEntry}
use Rattle.map_changes.specs.ChangedMaps.{first_of}
use Rattle.write_rule.specs.Runs.{IsAffectedRun, first_replaced, stop_replaced}
use Rattle.write_rule.specs.SplicedRun.{IsRunOf}
use Rattle.write_rule.specs.NewBytes.{StaysAround, bytes_of, padded_slice}
use Rattle.write_rule.specs.declared.new_bytes.NewBytes.{NewBytes}

-- Of a layout whose inode can be spelled, the groups that a write affects are the run from the first on to those that begin by
-- its last unit.
abbrev pub AffectedAreRuns : Type 0
AffectedAreRuns =
    (unit : ℕ) (l : Layout) (offset len width : ℕ) → IsInode (inode_of unit l) → 1 ≤ len
    → (first_replaced unit l offset len width ≤ stop_replaced unit l offset len)
    × IsAffectedRun unit l offset len width (first_replaced unit l offset len width) (stop_replaced unit l offset len - first_replaced unit l offset len width)

-- Of such a layout a legal write replaces that run, as a switch asks.
abbrev pub WritesReplaceRuns : Type 0
WritesReplaceRuns =
    (now : Moment) (log : List NotedEntry) (l : Layout) (offset size first count : ℕ) (change : Change) (payload : List ℕ)
    → IsInode (inode_of now.shape.unit l) → l.size ≡ length (bytes_after log) → 1 ≤ length payload
    → (w : Writes now log l offset size change payload)
    → IsAffectedRun now.shape.unit l offset (length payload) w.width first count
    → IsRunOf now.shape.unit l (bytes_after log) payload offset first count change

-- The map after it has as many data units as a file of that size.
abbrev pub WritesKeepUnits : Type 0
WritesKeepUnits =
    (now : Moment) (log : List NotedEntry) (l : Layout) (offset size first count : ℕ) (change : Change) (payload : List ℕ)
    → IsInode (inode_of now.shape.unit l) → l.size ≡ length (bytes_after log) → 1 ≤ length payload
    → (w : Writes now log l offset size change payload)
    → IsAffectedRun now.shape.unit l offset (length payload) w.width first count
    → data_units (replaced change.old change.new l.groups) ≡ units_for now.shape.unit size

-- The run that a legal write replaces is the one that its entry names: it begins at the first of the old generations, and is as long
-- as they are many. It has all bytes that the write changes, and the map as many data units as a file of the new size.
abbrev pub WritesNameTheirRun : Type 0
WritesNameTheirRun =
    (now : Moment) (log : List NotedEntry) (l : Layout) (offset size : ℕ) (change : Change) (payload : List ℕ)
    → IsInode (inode_of now.shape.unit l) → l.size ≡ length (bytes_after log) → 1 ≤ length payload
    → (w : Writes now log l offset size change payload)
    → IsRunOf now.shape.unit l (bytes_after log) payload offset (first_of change.old l.groups) (length change.old) change
    × (data_units (replaced change.old change.new l.groups) ≡ units_for now.shape.unit size)

-- And it has as many groups as the rule says.
abbrev pub WritesCountGroups : Type 0
WritesCountGroups =
    (now : Moment) (log : List NotedEntry) (l : Layout) (offset size first count : ℕ) (change : Change) (payload : List ℕ)
    → IsInode (inode_of now.shape.unit l)
    → (w : Writes now log l offset size change payload) → 1 ≤ w.width
    → IsAffectedRun now.shape.unit l offset (length payload) w.width first count
    → length (replaced change.old change.new l.groups) ≡ groups_after_write now.shape.unit l offset (length payload) w.width

-- The bytes that stay around a payload, with it between them, are those of the file after the write, from the first on; those
-- behind are zeros if the file ends there.
abbrev pub NewBytesAreWritten : Type 0
NewBytesAreWritten =
    (old payload : List ℕ) (from to offset start len : ℕ) (b : NewBytes) → StaysAround old from to offset (length payload) b
    → b.payload.now ≡ payload → from ≤ offset → offset + length payload ≤ to → (length old ≤ to) ⊎ (from + start + len ≤ to)
    → padded_slice (bytes_of b) start len ≡ padded_slice (overwrite old offset payload) (from + start) len
