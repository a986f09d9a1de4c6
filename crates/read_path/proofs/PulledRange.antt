-- What a pull of a range tells, by its answer, and what is noted of it.
use Rattle.std.proofs.Common.{◌≡◌, ℕ, ◌+◌, ◌≤◌, min, arith, ◌↔◌, ◌⊎◌, List, [], Option, Result, Ok, Err, None, Some, Bool, true, false, inl, inr, IfOk, IfErr, length, refl, sym, ap, subst, ◌∙◌}
use Rattle.std.specs.List.{AllByRecursion, list_any}
use Rattle.std.specs.Result.{IsErrOf}
use Rattle.board.specs.declared.board_view.View.{View}
use Rattle.domains.specs.declared.by.By.{By}
use Rattle.domains.specs.declared.group.Group.{Group}
use Rattle.domains.specs.declared.group.Lost.{Lost}
use Rattle.flex_io.specs.declared.raw_place.RawPlace.{RawPlace}
use Rattle.file_history.specs.Bytes.{slice_of}
use Rattle.file_history.specs.Layout.{group_list}
use Rattle.file_history.specs.Live.{first_short, range}
use Rattle.file_history.specs.declared.entry.FileEvent.TheVariants.{Refused, Shown}
use Rattle.file_history.specs.declared.entry.Refused.{Refused as Refusal}
use Rattle.file_core.specs.FileView.{FileView, IsFile, bytes_of, layout_of, now_of, stored_groups, stored_inode, with_note}
use Rattle.file_core.specs.Looks.{IsLook}
use Rattle.file_core.specs.Notes.{noted}
use Rattle.pulled_groups.specs.Pulls.{AreAllPulled}
use Rattle.file_heads.specs.Parts.{is_asked}
use Rattle.pulled_groups.specs.PullAnswers.{CanDecode, ShowsGroup, asks_inode}
use Rattle.file_heads.specs.PullRefusals.{unknown_of}
use Rattle.striped_groups.specs.StoredGroups.{AllTell, GroupSlots}
use Rattle.file_heads.specs.declared.part.PullRefusal.{PullRefusal}
use Rattle.file_heads.specs.declared.part.PullRefusal.TheVariants as refusal
use Rattle.file_core.specs.declared.pull.Pulled.{Pulled}
use Rattle.file_turns.specs.PathRoom.{with_room}
use Rattle.file_turns.specs.Paths.{IsRefused}
use Rattle.read_path.specs.PulledRanges.{IsPulledRange, PullTells}
use Rattle.read_path.specs.Reads.{ShowsRange}
use Rattle.read_path.specs.Segments.{parts_of}
use Rattle.read_path.proofs.RangeParts.{range_shown}

-- a range asks for no inode
no_inode : (offset len : ℕ) (root : Option Group) → list_any (is_asked (range offset len)) (group_list root) ≡ false
no_inode offset len None = refl
no_inode offset len (Some g) = refl

-- all that a pull of a range tells
pub record PullOfRange {S : Type 0} (place_of : S → RawPlace) (content : S → Option (List ℕ)) (len_of reads : S → ℕ) (r : Result Pulled PullRefusal) (view : View) (offset len : ℕ)
    (x y : FileView S) : Type 0 where
  pub pulled : IfOk r (λ (p : Pulled). AreAllPulled place_of content len_of reads x.shape view (layout_of x).dead (layout_of x).size (range offset len) x.inode y.inode x.groups y.groups p.groups)
  pub look : IfOk r (λ (p : Pulled). IsLook (layout_of x) (length x.notes) p.look)
  pub absent : IsErrOf r refusal.Absent ↔ ((layout_of x).present ≡ false)
  pub unknown : (generation : ℕ) → IsErrOf r (refusal.Unknown generation) ↔ (((layout_of x).present ≡ true) × (unknown_of (layout_of x) (range offset len) ≡ Some generation))
  pub lost : (lost : Lost) → IsErrOf r (refusal.Lost lost) ↔ (((layout_of x).present ≡ true) × (unknown_of (layout_of x) (range offset len) ≡ None)
      × (first_short (now_of x view) (layout_of x) (range offset len) ≡ Some lost))
  pub refused : IfErr r (λ (e : PullRefusal). (e ≡ refusal.NoMemory) ⊎ (y ≡ x))
  pub kept : y ≡ record x { groups = y.groups; inode = y.inode }
  pub same : stored_groups place_of content len_of y ≡ stored_groups place_of content len_of x
  pub same_inode : stored_inode place_of content len_of y ≡ stored_inode place_of content len_of x
  pub decodes : asks_inode (layout_of x) (range offset len) ≡ false → IfOk r (λ (p : Pulled). AllByRecursion (CanDecode x.shape.unit) p.groups)
  pub shown : AllTell content → asks_inode (layout_of x) (range offset len) ≡ false → IfOk r (λ (p : Pulled). AllByRecursion (ShowsGroup x.shape.unit (bytes_of x)) p.groups)

module _ {S : Type 0} (place_of : S → RawPlace) (content : S → Option (List ℕ)) (len_of reads : S → ℕ) where
  ok_present : (p : Pulled) (b : Bool) → (IsErrOf (Ok p) refusal.Absent ↔ (b ≡ false)) → b ≡ true
  ok_present p true absent = refl
  ok_present p false absent = absurd (no_err (absent.1 refl))
    where
      no_err : IsErrOf (Ok p) refusal.Absent → ⊥
      no_err h = cc

  ok_readable : (p : Pulled) (o : Option Lost) → ((lost : Lost) → o ≡ Some lost → IsErrOf (Ok p) (refusal.Lost lost)) → o ≡ None
  ok_readable p None lost = refl
  ok_readable p (Some loss) lost = absurd (no_err (lost loss refl))
    where
      no_err : IsErrOf (Ok p) (refusal.Lost loss) → ⊥
      no_err h = cc

  same_unless : (e : PullRefusal) (x y : FileView S) → (e ≡ refusal.NoMemory → ⊥) → (e ≡ refusal.NoMemory) ⊎ (y ≡ x) → y ≡ x
  same_unless e x y other refused = elim refused [
    | inl memory ↦ absurd (other memory)
    | inr same ↦ same
  ]

  not_memory : (lost : Lost) → refusal.Lost lost ≡ refusal.NoMemory → ⊥
  not_memory lost h = cc

  absent_is_other : refusal.Absent ≡ refusal.NoMemory → ⊥
  absent_is_other h = cc

  no_generation : (generation : ℕ) → None ≡ Some generation → ⊥
  no_generation generation h = cc

  pub pull_tells : (r : Result Pulled PullRefusal) (view : View) (offset len : ℕ) (x y : FileView S)
      → PullOfRange place_of content len_of reads r view offset len x y → PullTells place_of content len_of reads r view offset len x y
  pull_tells (Ok p) view offset len x y told =
      let present = ok_present p (layout_of x).present told.absent in record {
        present = present;
        readable = ok_readable p (first_short (now_of x view) (layout_of x) (range offset len)) (λ lost is. (told.lost lost).1 (present, refl, is));
        pulled = told.pulled;
        decodes = told.decodes (no_inode offset len (layout_of x).inode);
        size = told.look.size;
        shown = λ tell. told.shown tell (no_inode offset len (layout_of x).inode);
        kept = told.kept;
        same = told.same;
        same_inode = told.same_inode;
      }
  pull_tells (Err refusal.Absent) view offset len x y told = (same_unless refusal.Absent x y absent_is_other told.refused, told.absent.0 refl)
  pull_tells (Err (refusal.Unknown generation)) view offset len x y told = absurd (no_generation generation ((told.unknown generation).0 refl).1)
  pull_tells (Err (refusal.Lost lost)) view offset len x y told =
      let cause = (told.lost lost).0 refl in (same_unless (refusal.Lost lost) x y (not_memory lost) told.refused, cause.0, cause.2)
  pull_tells (Err refusal.NoMemory) view offset len x y told = record {
    kept = told.kept ∙ (λ i. record x { groups = y.groups; inode = y.inode; spare = sym (ap (λ (f : FileView S). f.spare) told.kept) i });
    same = told.same;
    same_inode = told.same_inode;
  }

  -- the entry of a read stands behind the pull
  pub notes_shown : (by : By) (view : View) (offset len : ℕ) (p : Pulled) (answer logged : List ℕ) (x y z : FileView S) → IsPulledRange place_of content len_of reads view offset len p x y
      → logged ≡ answer → (AllTell content → answer ≡ slice_of (bytes_of x) offset len) → z ≡ with_note y (noted by view (Shown offset len logged) [])
      → ShowsRange place_of content len_of reads by view offset len answer x z
  notes_shown by view offset len p answer logged x y z is copied shown noted_as =
      let n = noted by view (Shown offset len answer) [] in
      let at : z ≡ with_note (record x { groups = y.groups; inode = y.inode }) n =
      noted_as ∙ ap (λ (l : List ℕ). with_note y (noted by view (Shown offset len l) [])) copied ∙ ap (λ (f : FileView S). with_note f n) is.kept in
      let groups : z.groups ≡ y.groups = ap (λ (f : FileView S). f.groups) at in
      let inode : z.inode ≡ y.inode = ap (λ (f : FileView S). f.inode) at in record {
        present = is.present;
        readable = is.readable;
        groups = p.groups;
        pulled = subst (λ (o : Option (GroupSlots S) × List (GroupSlots S)). AreAllPulled place_of content len_of reads x.shape view (layout_of x).dead (layout_of x).size (range offset len)
            x.inode o.0 x.groups o.1 p.groups) (λ i. (sym inode i, sym groups i)) is.pulled;
        same = ap (stored_groups place_of content len_of) at ∙ is.same;
        same_inode = ap (stored_inode place_of content len_of) at ∙ is.same_inode;
        shown = shown;
        spare = x.spare;
        noted = at ∙ (λ i. record (with_note (with_room x.spare x) n) { groups = sym groups i; inode = sym inode i });
      }

  -- the entry of a refusal stands behind a pull that read nothing
  pub notes_refusal : (by : By) (view : View) (why : Refusal) (x y z : FileView S) → y ≡ x → z ≡ with_note y (noted by view (Refused why) []) → IsRefused by view why x z
  notes_refusal by view why x y z same noted_as = record {
    spare = x.spare;
    noted = noted_as ∙ ap (λ (f : FileView S). with_note f (noted by view (Refused why) [])) same;
  }

  -- the bytes that a range takes of what was pulled are the file's
  pub answer_shown : (view : View) (offset len unit : ℕ) (p : Pulled) (answer : List ℕ) (x y : FileView S) → IsFile place_of content len_of x
      → IsPulledRange place_of content len_of reads view offset len p x y → unit ≡ x.shape.unit
      → ((bytes : List ℕ) → p.look.size ≤ length bytes → AllByRecursion (ShowsGroup unit bytes) p.groups → answer ≡ parts_of unit offset (min (offset + len) p.look.size) bytes p.groups)
      → AllTell content → answer ≡ slice_of (bytes_of x) offset len
  answer_shown view offset len unit p answer x y is pulled same parts tell =
      let size = pulled.size in
      let whole = is.slots.size in
      parts (bytes_of x) (omega (arith, size, whole)) (subst (λ (n : ℕ). AllByRecursion (ShowsGroup n (bytes_of x)) p.groups) (sym same) (pulled.shown tell))
      ∙ (λ i. parts_of (same i) offset (min (offset + len) (size i)) (bytes_of x) p.groups)
      ∙ range_shown place_of content len_of reads x view offset len y.inode y.groups p.groups is pulled.pulled
