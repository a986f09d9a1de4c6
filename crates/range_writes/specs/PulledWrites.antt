-- What is pulled of a file for a write, and what a refused pull tells.
use Rattle.std.specs.Prelude.{◌≡◌, ℕ, true, false, List, Option, Some, Result, Ok, Err}
use Rattle.std.specs.List.{AllByRecursion}
use Rattle.board.specs.declared.board_view.View.{View}
use Rattle.flex_io.specs.declared.raw_place.RawPlace.{RawPlace}
use Rattle.file_history.specs.Live.{IsReadable, first_short, write}
use Rattle.file_core.specs.FileView.{FileView, bytes_of, layout_of, now_of, stored_groups, stored_inode}
use Rattle.file_heads.specs.Parts.{needs}
use Rattle.pulled_groups.specs.PullAnswers.{CanDecode, ShowsGroup}
use Rattle.file_heads.specs.declared.part.PullRefusal.{PullRefusal}
use Rattle.file_heads.specs.declared.part.PullRefusal.TheVariants.{Absent, Unknown, Lost, NoMemory}
use Rattle.file_core.specs.declared.pull.Pulled.{Pulled}
use Rattle.striped_groups.specs.StoredGroups.{AllTell}
use Rattle.write_units.specs.GroupUnits.{pulled_spans}
use Rattle.write_units.specs.Spans.{spans_with}

module _ {S : Type 0} (place_of : S → RawPlace) (content : S → Option (List ℕ)) (len_of : S → ℕ) where
  -- slots of the file may have been read; nothing else is changed
  pub record ReadsSlots (x y : FileView S) : Type 0 where
    pub kept : y ≡ record x { groups = y.groups; inode = y.inode }
    pub same : stored_groups place_of content len_of y ≡ stored_groups place_of content len_of x
    pub same_inode : stored_inode place_of content len_of y ≡ stored_inode place_of content len_of x

  -- the file is there, each group that the write needs has enough live units, and these are at hand
  pub record IsPulledWrite (view : View) (offset len width : ℕ) (p : Pulled) (x y : FileView S) : Type 0 where
    pub present : (layout_of x).present ≡ true
    pub readable : IsReadable (now_of x view) (layout_of x) (write offset len width)
    pub spans : pulled_spans p.groups ≡ spans_with (layout_of x).groups 0 (needs x.shape.unit (layout_of x).size (write offset len width))
    pub decodes : AllByRecursion (CanDecode x.shape.unit) p.groups
    pub shown : AllTell content → AllByRecursion (ShowsGroup x.shape.unit (bytes_of x)) p.groups
    pub reads : ReadsSlots x y

  -- what the answer tells of the file, before and after
  abbrev pub WritePullTells : Result Pulled PullRefusal → View → ℕ → ℕ → ℕ → FileView S → FileView S → Type 0
  WritePullTells (Ok p) view offset len width x y = IsPulledWrite view offset len width p x y
  WritePullTells (Err Absent) view offset len width x y = (y ≡ x) × ((layout_of x).present ≡ false)
  WritePullTells (Err (Unknown generation)) view offset len width x y = ⊥
  WritePullTells (Err (Lost lost)) view offset len width x y =
      (y ≡ x) × ((layout_of x).present ≡ true) × (first_short (now_of x view) (layout_of x) (write offset len width) ≡ Some lost)
  WritePullTells (Err NoMemory) view offset len width x y = ReadsSlots x y
