-- What the new groups of a write hold of the file.
use Rattle.std.specs.Prelude.{◌≡◌, ℕ, ◌+◌, ◌-◌, ◌*◌, ◌≤◌, min, max, List}
use Rattle.inode_codec.specs.Inode.{IsInode}
use Rattle.file_history.specs.Layout.{Layout}
use Rattle.file_history.specs.Stored.{inode_of}
use Rattle.write_rule.specs.WriteRuns.{IsRunOfWrite}
use Rattle.write_rule.specs.declared.run.ReplacedRun.{ReplacedRun}
use Rattle.file_history.specs.Live.{write}
use Rattle.file_heads.specs.Parts.{needs}
use Rattle.write_units.specs.Spans.{Span, spans_with, units_from, units_up_to}

-- the new groups of the run, in a file of this size: they begin no later than the range and end no earlier, and of the bytes behind
-- the range those that the file has are of the groups that they replace
pub record HoldsRange (unit size offset len : ℕ) (run : ReplacedRun) : Type 0 where
  pub begins : run.start * unit ≤ offset
  pub ends : offset + len ≤ (run.start + run.new_units) * unit
  pub behind : min ((run.start + run.new_units) * unit) size ≤ max (offset + len) ((run.start + run.units) * unit)

-- what the file has of the run before the range is of the span that begins with the run, and what it has behind the range is of the
-- span that ends with it
pub record CoverRun (unit size offset len : ℕ) (run : ReplacedRun) (spans : List Span) : Type 0 where
  pub before : min offset size ≤ (run.start + units_from spans run.start) * unit
  pub within : 1 ≤ units_up_to spans (run.start + run.units) → (run.start + run.units - units_up_to spans (run.start + run.units)) * unit ≤ offset + len
  pub behind : units_up_to spans (run.start + run.units) ≡ 0 → min ((run.start + run.new_units) * unit) size ≤ offset + len

-- Of a layout whose inode can be spelled, the run that a write replaces is such a run.
abbrev pub RunsHoldWrites : Type 0
RunsHoldWrites =
    (unit : ℕ) (l : Layout) (offset len width : ℕ) (run : ReplacedRun) → IsInode (inode_of unit l) → 1 ≤ len
    → IsRunOfWrite unit l offset len width run → HoldsRange unit l.size offset len run

-- And the groups that the write needs cover that run.
abbrev pub NeededGroupsCoverRuns : Type 0
NeededGroupsCoverRuns =
    (unit : ℕ) (l : Layout) (offset len width : ℕ) (run : ReplacedRun) → IsInode (inode_of unit l) → 1 ≤ len
    → IsRunOfWrite unit l offset len width run → HoldsRange unit l.size offset len run
    → CoverRun unit l.size offset len run (spans_with l.groups 0 (needs unit l.size (write offset len width)))
