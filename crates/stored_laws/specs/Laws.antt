-- What the units of a file hold.
use Rattle.std.specs.Prelude.{ℕ, List, [], length, map}
use Rattle.domains.specs.Drive.{Drive}
use Rattle.domains.specs.Place.{Place}
use Rattle.domains.specs.Level.{Bears}
use Rattle.file_history.specs.World.{World, moment_at}
use Rattle.file_history.specs.Bytes.{bytes_after}
use Rattle.file_history.specs.Layout.{layout_after}
use Rattle.file_history.specs.Step.{IsLegalLogWhere}
use Rattle.file_history.specs.Stored.{IsDetermined, IsStored}
use Rattle.file_history.specs.declared.entry.NotedEntry.{NotedEntry}
use Rattle.map_laws.specs.Limits.{IsWithinLimits}
use Rattle.loss_laws.specs.BorneLosses.{IsFileAtLevel, LosesOnly}
use Rattle.stored_laws.specs.WrittenUnits.{AreWrittenFrom, Contents, last_of, tells}

-- After every list of legal entries, each of which wrote its units, the file is stored.
abbrev pub FilesStayStored : Type 0
FilesStayStored =
    (world : World) (log : List NotedEntry) (start : Contents) (contents : List Contents)
    → IsWithinLimits world log → IsLegalLogWhere ⊥ world log → AreWrittenFrom log world [] start contents
    → IsStored (last_of contents start) world.shape.unit (layout_after world.level log) (bytes_after log)

-- So a file at its requested level bears the loss of any nodes and any further drives, as many as the level bears: its live units
-- determine its groups, its size and its bytes.
abbrev pub StoredFilesBearLosses : Type 0
StoredFilesBearLosses =
    (world : World) (log : List NotedEntry) (start : Place → List ℕ) (contents : List (Place → List ℕ)) (epoch : ℕ) (nodes : List ℕ) (drives : List Drive)
    → IsWithinLimits world log → IsLegalLogWhere ⊥ world log → AreWrittenFrom log world [] (tells start) (map tells contents)
    → IsFileAtLevel (layout_after world.level log)
    → Bears (layout_after world.level log).requested (length nodes) (length drives)
    → LosesOnly (moment_at world epoch) (layout_after world.level log) nodes drives
    → IsDetermined (moment_at world epoch) (last_of contents start) (layout_after world.level log) (bytes_after log)
