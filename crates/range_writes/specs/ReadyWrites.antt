-- A write that was made ready: its new groups and its inode are on their slots, and hold what the file has after it.
use Rattle.std.specs.Prelude.{◌≡◌, ℕ, ◌*◌, ◌≤◌, true, ◌&&◌, List, length, Option}
use Rattle.board.specs.declared.board_view.View.{View}
use Rattle.domains.specs.Drive.{Drive}
use Rattle.domains.specs.DriveSet.{has}
use Rattle.domains.specs.Level.{Level}
use Rattle.domains.specs.Shape.{is_of}
use Rattle.flex_io.specs.declared.raw_place.RawPlace.{RawPlace}
use Rattle.file_history.specs.Bytes.{overwrite}
use Rattle.file_history.specs.Refusals.{is_usable}
use Rattle.file_core.specs.FileView.{FileView, bytes_of, layout_of, now_of}
use Rattle.map_switches.specs.declared.change.MapChange.{MapChange}
use Rattle.map_switches.specs.declared.change.Why.TheVariants.{Write}
use Rattle.map_switches.specs.declared.change.Fresh.TheVariants.{Groups}
use Rattle.striped_groups.specs.StoredGroups.{AllTell, GroupSlots}
use Rattle.write_rule.specs.NewBytes.{padded_slice}
use Rattle.write_plans.specs.Plans.{IsPlan}
use Rattle.write_plans.specs.declared.plan.WritePlan.{WritePlan}
use Rattle.placed_runs.specs.declared.terms.RunTerms.{RunTerms}
use Rattle.range_writes.specs.StandingRuns.{HoldBytes, StandsOnSlots}

module _ {S : Type 0} where
  -- the terms are those of the file at the view: its requested level and stripe unit, and drives that may hold its new units
  pub record AreTermsOf (x : FileView S) (view : View) (t : RunTerms) : Type 0 where
    pub level : t.level ≡ (layout_of x).requested
    pub unit : t.unit ≡ x.shape.unit
    pub usable : (d : Drive) → is_of x.shape d ≡ true → (has t.usable d && has t.view.up d) ≡ true → is_usable (now_of x view) (layout_of x) d ≡ true

  -- the change that a write makes which replaces the groups with these generations, on a copy of the file after `at` entries, of `units` data units and this level
  abbrev pub write_change : List ℕ → ℕ → List ℕ → ℕ → ℕ → Level → List (GroupSlots S) → GroupSlots S → MapChange S
  write_change gone offset payload at units level groups inode = record {
    why = Write offset payload;
    at = at;
    units = units;
    level = level;
    old = gone;
    fresh = Groups groups;
    inode = inode;
  }

module _ {S : Type 0} (place_of : S → RawPlace) (content : S → Option (List ℕ)) (len_of : S → ℕ) where
  -- the new groups hold these bytes, and if all slots tell they are those of the run in the file after the write
  pub record IsReadyWrite (x : FileView S) (view : View) (t : RunTerms) (plan : WritePlan) (offset : ℕ) (payload bytes : List ℕ) (groups : List (GroupSlots S))
      (inode : GroupSlots S) : Type 0 where
    pub plan_is : IsPlan (now_of x view) (layout_of x) offset (length payload) plan
    pub some : 1 ≤ length payload
    pub terms : AreTermsOf x view t
    pub groups_hold : HoldBytes place_of content len_of t x.shape bytes 0 plan.chunks groups
    pub inode_stands : StandsOnSlots place_of t x.shape 1 inode
    pub written : AllTell content → padded_slice bytes 0 (plan.run.new_units * x.shape.unit)
        ≡ padded_slice (overwrite (bytes_of x) offset payload) (plan.run.start * x.shape.unit) (plan.run.new_units * x.shape.unit)
