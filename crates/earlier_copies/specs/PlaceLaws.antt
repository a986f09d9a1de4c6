-- A placement that was made ready on an earlier copy.
use Rattle.std.specs.Prelude.{◌≡◌, ℕ, ◌<◌, true, false, List, ◌++◌, length, Option}
use Rattle.domains.specs.declared.group.Group.{Group}
use Rattle.job_rules.specs.declared.job.JobId.{JobId}
use Rattle.file_history.specs.World.{World, moment_at}
use Rattle.file_history.specs.Bytes.{bytes_after}
use Rattle.file_history.specs.Layout.{is_among, layout_after, layout_after_event}
use Rattle.file_history.specs.WriteRule.{generations_of}
use Rattle.file_history.specs.Step.{IsLegalLogWhere}
use Rattle.file_history.specs.declared.entry.FileEvent.TheVariants.{Placed}
use Rattle.file_history.specs.declared.entry.NotedEntry.{NotedEntry}
use Rattle.map_laws.specs.Limits.{IsWithinLimits}
use Rattle.map_laws.specs.MappedGroups.{IsMapped, bytes_of_units}
use Rattle.earlier_copies.specs.ReadyPlaces.{IsPlaceMade, IsPlaceReady, MayBePlaced, ReadyPlace, SparesPlace, placed_change}

-- A placement that was legal on the log, against which no later entry stands, and which passes its caller's tests now, is legal now.
abbrev pub EarlierPlacesAreLegal : Type 0
EarlierPlacesAreLegal =
    (world : World) (log more : List NotedEntry) (earlier epoch : ℕ) (last : Option ℕ) (p : ReadyPlace)
    → IsWithinLimits world (log ++ more) → IsLegalLogWhere ⊥ world (log ++ more)
    → IsPlaceReady (moment_at world earlier) (layout_after world.level log) p
    → SparesPlace world.shape.unit last p log more
    → MayBePlaced (moment_at world epoch) (layout_after world.level (log ++ more)) p
    → IsPlaceMade (moment_at world epoch) (layout_after world.level (log ++ more)) p

-- A group that it replaces stands now where it stood, with the same bytes.
abbrev pub EarlierPlacesFindGroups : Type 0
EarlierPlacesFindGroups =
    (world : World) (log more : List NotedEntry) (earlier : ℕ) (last : Option ℕ) (p : ReadyPlace)
    → IsWithinLimits world (log ++ more) → IsLegalLogWhere ⊥ world (log ++ more)
    → IsPlaceReady (moment_at world earlier) (layout_after world.level log) p
    → SparesPlace world.shape.unit last p log more
    → (g : Group) (first : ℕ) → IsMapped (layout_after world.level log).groups g first → is_among (generations_of p.old) g.generation ≡ true
    → IsMapped (layout_after world.level (log ++ more)).groups g first
    × (bytes_of_units world.shape.unit (bytes_after (log ++ more)) first g.n ≡ bytes_of_units world.shape.unit (bytes_after log) first g.n)

-- And each other group of the map stands behind it where it stands now, as it is.
abbrev pub EarlierPlacesLeaveGroups : Type 0
EarlierPlacesLeaveGroups =
    (world : World) (log more : List NotedEntry) (earlier epoch : ℕ) (last : Option ℕ) (job : JobId) (p : ReadyPlace)
    → IsWithinLimits world (log ++ more) → length (log ++ more) < 4194304 → IsLegalLogWhere ⊥ world (log ++ more)
    → IsPlaceReady (moment_at world earlier) (layout_after world.level log) p
    → SparesPlace world.shape.unit last p log more
    → MayBePlaced (moment_at world epoch) (layout_after world.level (log ++ more)) p
    → (g : Group) (first : ℕ) → IsMapped (layout_after world.level (log ++ more)).groups g first → is_among (generations_of p.old) g.generation ≡ false
    → IsMapped (layout_after_event world.level (Placed job (placed_change p (layout_after world.level (log ++ more)).next)) (layout_after world.level (log ++ more))).groups g first
