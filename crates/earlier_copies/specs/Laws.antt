-- A write that was made ready on an earlier copy.
use Rattle.std.specs.Prelude.{◌≡◌, ℕ, ◌*◌, List, ◌++◌, take}
use Rattle.inode_codec.specs.Inode.{data_units}
use Rattle.file_history.specs.World.{World, moment_at}
use Rattle.file_history.specs.Bytes.{bytes_after, overwrite}
use Rattle.file_history.specs.Layout.{Layout, layout_after}
use Rattle.file_history.specs.Step.{IsLegalLogWhere}
use Rattle.file_history.specs.declared.entry.NotedEntry.{NotedEntry}
use Rattle.map_changes.specs.ChangedMaps.{first_of}
use Rattle.write_rule.specs.NewBytes.{padded_slice}
use Rattle.map_laws.specs.Limits.{IsWithinLimits}
use Rattle.earlier_copies.specs.ReadyWrites.{IsMade, IsReady, MayBeMade, ReadyWrite, Spares, last_generation}

-- A write that was legal on the log, against which no later entry stands, and which passes its caller's tests now, is legal now.
abbrev pub EarlierWritesAreLegal : Type 0
EarlierWritesAreLegal =
    (world : World) (log more : List NotedEntry) (earlier epoch : ℕ) (w : ReadyWrite)
    → IsWithinLimits world (log ++ more) → IsLegalLogWhere ⊥ world (log ++ more)
    → (ready : IsReady (moment_at world earlier) log (layout_after world.level log) w)
    → Spares world.shape.unit (last_generation (layout_after world.level (log ++ more)).groups) w log more
    → MayBeMade (moment_at world epoch) (layout_after world.level (log ++ more)) w ready.legal.width
    → IsMade (moment_at world epoch) (log ++ more) (layout_after world.level (log ++ more)) w

-- how many data units stand before the run that the write replaces
abbrev pub units_before : Layout → ReadyWrite → ℕ
units_before l w = data_units (take (first_of w.old l.groups) l.groups)

-- the bytes of the groups that the write brings, of a file with these bytes
abbrev pub run_bytes : ℕ → Layout → List ℕ → ReadyWrite → List ℕ
run_bytes unit l bytes w = padded_slice (overwrite bytes w.offset w.payload) (units_before l w * unit) (data_units w.new * unit)

-- And its new groups hold then and now the same bytes: those of the file after the write.
abbrev pub EarlierWritesKeepBytes : Type 0
EarlierWritesKeepBytes =
    (world : World) (log more : List NotedEntry) (earlier : ℕ) (w : ReadyWrite)
    → IsWithinLimits world (log ++ more) → IsLegalLogWhere ⊥ world (log ++ more)
    → IsReady (moment_at world earlier) log (layout_after world.level log) w
    → Spares world.shape.unit (last_generation (layout_after world.level (log ++ more)).groups) w log more
    → run_bytes world.shape.unit (layout_after world.level (log ++ more)) (bytes_after (log ++ more)) w
    ≡ run_bytes world.shape.unit (layout_after world.level log) (bytes_after log) w
