-- What one try of a write comes to.
use Rattle.std.specs.Prelude.{◌≡◌, ℕ, ◌+◌, ◌-◌, ◌/◌, List, Option, None, Some, length, Result, Ok, Err}
use Rattle.domains.specs.declared.by.By.{By}
use Rattle.fabric.specs.declared.hand.Hand.{Hand}
use Rattle.file_core.specs.FileSwitches.{IsSwitched}
use Rattle.file_core.specs.FileView.{FileView, layout_of, now_of}
use Rattle.file_core.specs.declared.switch.Switched.{Switched}
use Rattle.file_history.specs.Live.{IsReadable, first_short, write}
use Rattle.flex_io.specs.declared.raw_place.RawPlace.{RawPlace}
use Rattle.map_switches.specs.Switches.{IsRefusal}
use Rattle.map_switches.specs.declared.change.MapChange.{MapChange}
use Rattle.placed_runs.specs.declared.terms.RunTerms.{RunTerms}
use Rattle.range_writes.specs.PlacedWrites.{FindsNoWrite, PlacesWrite}
use Rattle.range_writes.specs.PulledWrites.{ReadsSlots}
use Rattle.range_writes.specs.ReadyWrites.{write_change}
use Rattle.striped_groups.specs.StoredGroups.{GroupSlots}
use Rattle.write_plans.specs.declared.plan.WritePlan.{WritePlan}
use Rattle.file_writes.specs.declared.trying.WriteStop.{WriteStop}
use Rattle.file_writes.specs.declared.trying.WriteStop.TheVariants.{Lost, NoRoom, Refused, NoMemory}

module _ {S : Type 0} where
  -- the change of a write with these groups and this inode, on a copy of the file as it is
  abbrev pub change_of : FileView S → RunTerms → WritePlan → ℕ → List ℕ → List (GroupSlots S) → GroupSlots S → MapChange S
  change_of x t plan offset payload groups inode =
      write_change plan.old offset payload (length x.notes) (((layout_of x).size + (t.unit - 1)) / t.unit) t.level groups inode

  -- the spin of the first new group
  abbrev pub spin_of : FileView S → ℕ
  spin_of x = x.file + (layout_of x).next

module _ {S : Type 0} (place_of : S → RawPlace) (content : S → Option (List ℕ)) (len_of faults : S → ℕ) where
  -- the groups and the inode were placed, and took the place of what the plan names
  pub record SwitchesPlaced (by : By) (t : RunTerms) (plan : WritePlan) (offset : ℕ) (payload : List ℕ) (x y : FileView S) (done : Switched S) (old new : Hand S) : Type 0 where
    pub groups : List (GroupSlots S)
    pub inode : GroupSlots S
    pub placed : PlacesWrite place_of content len_of faults x t (spin_of x) plan offset payload groups inode old new
    pub switched : IsSwitched place_of content len_of by t.view (change_of x t plan offset payload groups inode) x y done

  -- what the answer tells of a file with what the write needs at hand, before and after, and of the hand
  abbrev pub SwitchTells : Result (Switched S) (WriteStop S) → By → RunTerms → WritePlan → ℕ → List ℕ → FileView S → FileView S → Hand S → Hand S → Type 0
  SwitchTells (Ok done) by t plan offset payload x y old new = SwitchesPlaced by t plan offset payload x y done old new
  SwitchTells (Err (Lost lost)) by t plan offset payload x y old new = ⊥
  SwitchTells (Err (NoRoom told)) by t plan offset payload x y old new =
      (y ≡ x) × FindsNoWrite place_of content len_of faults x t (spin_of x) plan offset payload told old new
  SwitchTells (Err (Refused why change)) by t plan offset payload x y old new =
      (groups : List (GroupSlots S)) × (inode : GroupSlots S) × (y ≡ x)
      × PlacesWrite place_of content len_of faults x t (spin_of x) plan offset payload groups inode old new
      × IsRefusal place_of faults None (change_of x t plan offset payload groups inode) why change
  SwitchTells (Err NoMemory) by t plan offset payload x y old new = y ≡ x

  -- what the answer of a try tells: it read what the write needs, and then placed and switched; or a group lost too much, and nothing
  -- is changed; or memory ran out, when slots may have been read
  abbrev pub TryTells : Result (Switched S) (WriteStop S) → By → RunTerms → WritePlan → ℕ → List ℕ → FileView S → FileView S → Hand S → Hand S → Type 0
  TryTells (Ok done) by t plan offset payload x y old new =
      (read : FileView S) × ReadsSlots place_of content len_of x read × SwitchesPlaced by t plan offset payload read y done old new
  TryTells (Err (Lost lost)) by t plan offset payload x y old new =
      (y ≡ x) × (new ≡ old) × (first_short (now_of x t.view) (layout_of x) (write offset (length payload) plan.width) ≡ Some lost)
  TryTells (Err (NoRoom told)) by t plan offset payload x y old new =
      ReadsSlots place_of content len_of x y × IsReadable (now_of x t.view) (layout_of x) (write offset (length payload) plan.width)
      × FindsNoWrite place_of content len_of faults y t (spin_of y) plan offset payload told old new
  TryTells (Err (Refused why change)) by t plan offset payload x y old new =
      (groups : List (GroupSlots S)) × (inode : GroupSlots S) × ReadsSlots place_of content len_of x y
      × PlacesWrite place_of content len_of faults y t (spin_of y) plan offset payload groups inode old new
      × IsRefusal place_of faults None (change_of y t plan offset payload groups inode) why change
  TryTells (Err NoMemory) by t plan offset payload x y old new = ReadsSlots place_of content len_of x y
