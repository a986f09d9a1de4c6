-- Changes that are ready, when their inode was written.
use Rattle.std.proofs.Common.{◌≡◌, ℕ, List, map, Option, ◌∙◌}
use Rattle.std.specs.List.{AllByRecursion}
use Rattle.flex_io.specs.declared.raw_place.RawPlace.{RawPlace}
use Rattle.board.specs.declared.board_view.View.{View}
use Rattle.domains.specs.declared.by.By.{By}
use Rattle.inode_codec.specs.Inode.{inode_bytes}
use Rattle.map_switches.specs.declared.change.MapChange.{MapChange}
use Rattle.file_core.specs.declared.switch.Switched.{Switched}
use Rattle.striped_groups.specs.StoredGroups.{Took}
use Rattle.file_core.specs.FileView.{FileView}
use Rattle.file_core.specs.FileSwitches.{IsPut, IsReady, IsSwitched, new_inode_of}
use Rattle.map_switches.proofs.ChangeLemmas.{with_slots, same_places}

module _ {S : Type 0} (place_of : S → RawPlace) (content : S → Option (List ℕ)) (len_of faults : S → ℕ) where
  -- a change that is ready is so when its inode was written
  pub ready_written : (f : FileView S) (view : View) (change : MapChange S) (slots : List S) → map place_of slots ≡ map place_of change.inode.slots
      → IsReady place_of content len_of f view change → IsReady place_of content len_of f view (with_slots place_of faults change slots)
  ready_written f view change slots same ready = record {
    slots = record { groups = ready.slots.groups; inode = same_places place_of faults slots change.inode.slots same ∙ ready.slots.inode };
    holds = ready.holds;
    free = ready.free;
    legal = ready.legal;
  }

  pub switched_written : (by : By) (view : View) (change : MapChange S) (slots : List S) (old new : FileView S) (done : Switched S)
      → map place_of slots ≡ map place_of change.inode.slots → AllByRecursion (Took content len_of (inode_bytes (new_inode_of old change))) slots
      → IsPut by view (with_slots place_of faults change slots) old new done → IsSwitched place_of content len_of by view change old new done
  switched_written by view change slots old new done same took put = record {
    slots = slots;
    places = same;
    written = took;
    file = put.file;
    groups = put.groups;
    inode = put.inode;
    at = put.at;
  }
