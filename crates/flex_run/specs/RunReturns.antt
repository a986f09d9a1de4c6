-- What a run puts back on the rack.
use Rattle.std.specs.Prelude.{◌≡◌, ℕ, Bool, false, List, [], ◌∷◌, ◌++◌, length, map, count_by, Option, None, Some, if◌then◌else◌, ⊤}
use Rattle.std.specs.List.{AllByRecursion}
use Rattle.flex_io.specs.declared.rack.Returned.{Returned}
use Rattle.domains.specs.Place.{Place, same_place}
use Rattle.domains.specs.Level.{Level}
use Rattle.scenario.specs.declared.scenario.FileDecl.{FileDecl}
use Rattle.scenario.specs.declared.scenario.Scenario.{Scenario}
use Rattle.board_history.specs.Board.{up_after}
use Rattle.board_history.specs.declared.entry.BoardEntry.{BoardEntry}
use Rattle.file_history.specs.Bytes.{bytes_after}
use Rattle.file_history.specs.World.{Moment, world_of, moment_at}
use Rattle.file_history.specs.Layout.{layout_after, group_list, places_of}
use Rattle.held_slots.specs.Slots.{place_from}
use Rattle.plain_file.specs.FreeOrder.{AreInOrder}
use Rattle.file_history.specs.Stored.{IsStored, IsDetermined}
use Rattle.file_history.specs.Laws.{LeavesEnough}
use Rattle.file_history.specs.declared.entry.FileEntry.{FileEntry}
use Rattle.file_history.specs.declared.entry.NotedEntry.{NotedEntry}
use Rattle.report.specs.Script.{noted_entries}
use Rattle.report.specs.declared.logs.Logs.{Logs}
use Rattle.flex_run.specs.RetiredPlaces.{retired_places}
use Rattle.flex_run.specs.StockOrder.{stock_order}

-- where the slots that came back stand
abbrev pub places_back : List Returned → List Place
places_back back = map (λ (r : Returned). place_from r.place) back

-- what came back from the place
abbrev pub returned_at : List Returned → Place → Option (List ℕ)
returned_at [] s = None
returned_at (r ∷ rs) s = if same_place (place_from r.place) s then Some r.bytes else returned_at rs s

-- the bytes that came back from the place
abbrev pub bytes_at : List Returned → Place → List ℕ
bytes_at [] s = []
bytes_at (r ∷ rs) s = if same_place (place_from r.place) s then r.bytes else bytes_at rs s

-- these are the units of a file's groups in map order and then its inode's, at the places that its log says, and they hold
-- the file with the bytes that its log says; where each group and the inode have enough live units at this moment, these leave
-- one file that they may hold
pub record IsFileBack (now : Moment) (f : FileDecl) (log : List NotedEntry) (units inode : List Returned) : Type 0 where
  pub units_at : places_back units ≡ places_of (layout_after f.level log).groups
  pub inode_at : places_back inode ≡ places_of (group_list (layout_after f.level log).inode)
  pub stored : IsStored (returned_at (units ++ inode)) now.shape.unit (layout_after f.level log) (bytes_after log)
  pub determined : LeavesEnough now (layout_after f.level log)
      → IsDetermined now (bytes_at (units ++ inode)) (layout_after f.level log) (bytes_after log)

-- the moment of the last entry of the board, for a file that was declared with this level
abbrev pub last_moment : Logs → Level → Moment
last_moment logs level = moment_at (world_of logs.scenario.shape logs.board level) (length logs.board)

-- these are the units of the files, one file after the other
abbrev pub AreFilesBack : List FileDecl → List (List FileEntry) → Logs → List Returned → Type 0
AreFilesBack [] [] logs back = back ≡ []
AreFilesBack [] (log ∷ rest) logs back = ⊥
AreFilesBack (f ∷ fs) [] logs back = ⊥
AreFilesBack (f ∷ fs) (log ∷ rest) logs back =
    (units inode later : List Returned) × (back ≡ units ++ (inode ++ later))
    × IsFileBack (last_moment logs f.level) f (noted_entries logs.scenario log) units inode × AreFilesBack fs rest logs later

-- the places that the files' logs retire, one file after the other
abbrev pub all_retired : List FileDecl → List (List FileEntry) → Scenario → List BoardEntry → List Place
all_retired [] logs s board = []
all_retired (f ∷ fs) [] s board = []
all_retired (f ∷ fs) (log ∷ rest) s board = retired_places (world_of s.shape board f.level) (noted_entries s log) ++ all_retired fs rest s board

-- each place stands as often among these as among the others
abbrev pub AreSamePlaces : List Place → List Place → Type 0
AreSamePlaces places others = (s : Place) → count_by (same_place s) places ≡ count_by (same_place s) others

-- the slots that came back after a run with these logs: the files' units, the retired slots, which stand at the places that
-- the logs retire, on drives that are lost, and the free ones in drive order, each drive's from the bottom of its stack, where
-- numbers descend; each place of the cluster once
pub record IsBack (logs : Logs) (back : List Returned) : Type 0 where
  pub files : List Returned
  pub retired : List Returned
  pub free : List Returned
  pub all : back ≡ files ++ (retired ++ free)
  pub of_files : AreFilesBack logs.scenario.files logs.files logs files
  pub lost : AllByRecursion (λ (s : Place). up_after logs.scenario.shape logs.board (length logs.board) s.drive ≡ false) (places_back retired)
  pub of_logs : AreSamePlaces (places_back retired) (all_retired logs.scenario.files logs.files logs.scenario logs.board)
  pub in_order : AreInOrder (places_back free)
  pub each : (p : Place → Bool) → count_by p (places_back back) ≡ count_by p (stock_order logs.scenario.shape)

-- the slots came back after what came back before, where the rack tells
abbrev pub BringsBack : Option (List Returned) → Option (List Returned) → Logs → Type 0
BringsBack None now logs = ⊤
BringsBack (Some before) now logs = (back : List Returned) × (now ≡ Some (before ++ back)) × IsBack logs back
