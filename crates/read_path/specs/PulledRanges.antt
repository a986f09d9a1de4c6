-- What is pulled of a file for a range, and what a refused pull tells.
use Rattle.std.specs.Prelude.{◌≡◌, ℕ, true, false, List, Option, Some, Result, Ok, Err}
use Rattle.std.specs.List.{AllByRecursion}
use Rattle.board.specs.declared.board_view.View.{View}
use Rattle.flex_io.specs.declared.raw_place.RawPlace.{RawPlace}
use Rattle.file_history.specs.Live.{IsReadable, first_short, range}
use Rattle.file_core.specs.FileView.{FileView, bytes_of, layout_of, now_of, stored_groups, stored_inode}
use Rattle.pulled_groups.specs.Pulls.{AreAllPulled}
use Rattle.pulled_groups.specs.PullAnswers.{CanDecode, ShowsGroup}
use Rattle.striped_groups.specs.StoredGroups.{AllTell}
use Rattle.file_heads.specs.declared.part.PullRefusal.{PullRefusal}
use Rattle.file_heads.specs.declared.part.PullRefusal.TheVariants.{Absent, Unknown, Lost, NoMemory}
use Rattle.file_core.specs.declared.pull.Pulled.{Pulled}
use Rattle.read_path.specs.Reads.{ReadsAtMost}

module _ {S : Type 0} (place_of : S → RawPlace) (content : S → Option (List ℕ)) (len_of reads : S → ℕ) where
  -- the file is there, each group that the range needs has enough live units, and these are at hand
  pub record IsPulledRange (view : View) (offset len : ℕ) (p : Pulled) (x y : FileView S) : Type 0 where
    pub present : (layout_of x).present ≡ true
    pub readable : IsReadable (now_of x view) (layout_of x) (range offset len)
    pub pulled : AreAllPulled place_of content len_of reads x.shape view (layout_of x).dead (layout_of x).size (range offset len) x.inode y.inode x.groups y.groups p.groups
    pub decodes : AllByRecursion (CanDecode x.shape.unit) p.groups
    pub size : p.look.size ≡ (layout_of x).size
    pub shown : AllTell content → AllByRecursion (ShowsGroup x.shape.unit (bytes_of x)) p.groups
    pub kept : y ≡ record x { groups = y.groups; inode = y.inode }
    pub same : stored_groups place_of content len_of y ≡ stored_groups place_of content len_of x
    pub same_inode : stored_inode place_of content len_of y ≡ stored_inode place_of content len_of x

  -- what the answer tells of the file, before and after
  abbrev pub PullTells : Result Pulled PullRefusal → View → ℕ → ℕ → FileView S → FileView S → Type 0
  PullTells (Ok p) view offset len x y = IsPulledRange view offset len p x y
  PullTells (Err Absent) view offset len x y = (y ≡ x) × ((layout_of x).present ≡ false)
  PullTells (Err (Unknown generation)) view offset len x y = ⊥
  PullTells (Err (Lost lost)) view offset len x y =
      (y ≡ x) × ((layout_of x).present ≡ true) × (first_short (now_of x view) (layout_of x) (range offset len) ≡ Some lost)
  PullTells (Err NoMemory) view offset len x y = ReadsAtMost place_of content len_of x y
