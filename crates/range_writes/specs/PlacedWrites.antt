-- The new groups of a write, placed with the bytes that they have after it, if slots tell what is pulled.
use Rattle.std.specs.Prelude.{◌≡◌, ℕ, ◌*◌, List, Option}
use Rattle.flex_io.specs.declared.raw_place.RawPlace.{RawPlace}
use Rattle.fabric.specs.declared.hand.Hand.{Hand}
use Rattle.file_history.specs.Bytes.{overwrite}
use Rattle.file_core.specs.FileView.{FileView, bytes_of}
use Rattle.placement.specs.declared.refusal.NoRoom.{NoRoom}
use Rattle.striped_groups.specs.StoredGroups.{AllTell, GroupSlots}
use Rattle.write_rule.specs.NewBytes.{padded_slice}
use Rattle.write_plans.specs.declared.plan.WritePlan.{WritePlan}
use Rattle.placed_runs.specs.PlacedRuns.{FindsNoRun, PlacesRun}
use Rattle.placed_runs.specs.declared.terms.RunTerms.{RunTerms}

module _ {S : Type 0} where
  -- the bytes are those of the run in the file after the write
  abbrev pub AreWrittenBytes : FileView S → WritePlan → ℕ → List ℕ → List ℕ → Type 0
  AreWrittenBytes x plan offset payload bytes =
      padded_slice bytes 0 (plan.run.new_units * x.shape.unit)
      ≡ padded_slice (overwrite (bytes_of x) offset payload) (plan.run.start * x.shape.unit) (plan.run.new_units * x.shape.unit)

module _ {S : Type 0} (place_of : S → RawPlace) (content : S → Option (List ℕ)) (len_of faults : S → ℕ) where
  -- the groups of the plan were placed with these bytes, and then the inode's slots were drawn
  pub record PlacesWrite (x : FileView S) (t : RunTerms) (spin : ℕ) (plan : WritePlan) (offset : ℕ) (payload : List ℕ) (groups : List (GroupSlots S)) (inode : GroupSlots S)
      (old new : Hand S) : Type 0 where
    pub bytes : List ℕ
    pub written : AllTell content → AreWrittenBytes x plan offset payload bytes
    pub placed : PlacesRun place_of content len_of faults t x.shape spin bytes 0 plan.chunks groups inode old new

  -- one of them finds no room
  pub record FindsNoWrite (x : FileView S) (t : RunTerms) (spin : ℕ) (plan : WritePlan) (offset : ℕ) (payload : List ℕ) (told : NoRoom) (old new : Hand S) : Type 0 where
    pub bytes : List ℕ
    pub written : AllTell content → AreWrittenBytes x plan offset payload bytes
    pub none : FindsNoRun place_of content len_of faults t x.shape spin bytes 0 plan.chunks told old new
