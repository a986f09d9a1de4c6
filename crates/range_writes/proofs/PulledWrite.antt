-- What a pull tells a write.
use Rattle.std.proofs.Common.{◌≡◌, ℕ, ◌⊎◌, ◌↔◌, inl, inr, Bool, true, false, List, [], ◌∷◌, map, Option, None, Some, Result, Ok, Err, IfErr, IfOk, refl, sym, ap, ◌∙◌}
use Rattle.std.specs.List.{AllByRecursion, list_any}
use Rattle.std.specs.Result.{IsErrOf}
use Rattle.board.specs.declared.board_view.View.{View}
use Rattle.domains.specs.declared.group.Group.{Group}
use Rattle.domains.specs.declared.group.Lost.{Lost}
use Rattle.flex_io.specs.declared.raw_place.RawPlace.{RawPlace}
use Rattle.file_history.specs.Layout.{group_list}
use Rattle.file_history.specs.Live.{first_short, write}
use Rattle.file_core.specs.FileView.{IsFile, FileView, bytes_of, layout_of, now_of, stored_groups, stored_inode}
use Rattle.file_heads.specs.PullRefusals.{unknown_of}
use Rattle.pulled_groups.specs.PullAnswers.{CanDecode, ShowsGroup, asks_inode}
use Rattle.file_heads.specs.Parts.{is_asked, needs}
use Rattle.pulled_groups.specs.Pulls.{AreAllPulled}
use Rattle.file_heads.specs.declared.part.PullRefusal.{PullRefusal}
use Rattle.file_heads.specs.declared.part.PullRefusal.TheVariants as refusal
use Rattle.file_core.specs.declared.pull.Pulled.{Pulled}
use Rattle.striped_groups.specs.StoredGroups.{AllTell, GroupSlots, StoredGroup, stored_group}
use Rattle.write_units.specs.Spans.{spans_with}
use Rattle.write_units.proofs.PulledSpans.{written_spans}
use Rattle.range_writes.specs.PulledWrites.{WritePullTells}

-- a write asks for no inode
no_inode : (offset len width : ℕ) (root : Option Group) → list_any (is_asked (write offset len width)) (group_list root) ≡ false
no_inode offset len width None = refl
no_inode offset len width (Some g) = refl

-- all that a pull for a write tells
pub record PullOfWrite {S : Type 0} (place_of : S → RawPlace) (content : S → Option (List ℕ)) (len_of reads : S → ℕ) (r : Result Pulled PullRefusal) (view : View) (offset len width : ℕ)
    (x y : FileView S) : Type 0 where
  pub pulled : IfOk r (λ (p : Pulled). AreAllPulled place_of content len_of reads x.shape view (layout_of x).dead (layout_of x).size (write offset len width) x.inode y.inode x.groups y.groups p.groups)
  pub absent : IsErrOf r refusal.Absent ↔ ((layout_of x).present ≡ false)
  pub unknown : (generation : ℕ) → IsErrOf r (refusal.Unknown generation) ↔ (((layout_of x).present ≡ true) × (unknown_of (layout_of x) (write offset len width) ≡ Some generation))
  pub lost : (lost : Lost) → IsErrOf r (refusal.Lost lost) ↔ (((layout_of x).present ≡ true) × (unknown_of (layout_of x) (write offset len width) ≡ None)
      × (first_short (now_of x view) (layout_of x) (write offset len width) ≡ Some lost))
  pub refused : IfErr r (λ (e : PullRefusal). (e ≡ refusal.NoMemory) ⊎ (y ≡ x))
  pub kept : y ≡ record x { groups = y.groups; inode = y.inode }
  pub same : stored_groups place_of content len_of y ≡ stored_groups place_of content len_of x
  pub same_inode : stored_inode place_of content len_of y ≡ stored_inode place_of content len_of x
  pub decodes : asks_inode (layout_of x) (write offset len width) ≡ false → IfOk r (λ (p : Pulled). AllByRecursion (CanDecode x.shape.unit) p.groups)
  pub shown : AllTell content → asks_inode (layout_of x) (write offset len width) ≡ false → IfOk r (λ (p : Pulled). AllByRecursion (ShowsGroup x.shape.unit (bytes_of x)) p.groups)

groups_mapped : {S : Type 0} (place_of : S → RawPlace) (content : S → Option (List ℕ)) (len_of : S → ℕ) (gs : List (GroupSlots S))
    → map (λ (g : StoredGroup). g.group) (map (stored_group place_of content len_of) gs) ≡ map (λ (g : GroupSlots S). g.group) gs
groups_mapped place_of content len_of [] = refl
groups_mapped place_of content len_of (g ∷ gs) = ap (λ (l : List Group). g.group ∷ l) (groups_mapped place_of content len_of gs)

module _ {S : Type 0} (place_of : S → RawPlace) (content : S → Option (List ℕ)) (len_of reads : S → ℕ) where
  ok_present : (p : Pulled) (b : Bool) → (IsErrOf (Ok p) refusal.Absent ↔ (b ≡ false)) → b ≡ true
  ok_present p true absent = refl
  ok_present p false absent = absurd (no_err (absent.1 refl))
    where
      no_err : IsErrOf (Ok p) refusal.Absent → ⊥
      no_err h = cc

  ok_readable : (p : Pulled) (o : Option Lost) → ((lost : Lost) → o ≡ Some lost → IsErrOf (Ok p) (refusal.Lost lost)) → o ≡ None
  ok_readable p None lost = refl
  ok_readable p (Some loss) lost = absurd (no_err (lost loss refl))
    where
      no_err : IsErrOf (Ok p) (refusal.Lost loss) → ⊥
      no_err h = cc

  same_unless : (e : PullRefusal) (x y : FileView S) → (e ≡ refusal.NoMemory → ⊥) → (e ≡ refusal.NoMemory) ⊎ (y ≡ x) → y ≡ x
  same_unless e x y other refused = elim refused [
    | inl memory ↦ absurd (other memory)
    | inr same ↦ same
  ]

  not_memory : (lost : Lost) → refusal.Lost lost ≡ refusal.NoMemory → ⊥
  not_memory lost h = cc

  absent_is_other : refusal.Absent ≡ refusal.NoMemory → ⊥
  absent_is_other h = cc

  no_generation : (generation : ℕ) → None ≡ Some generation → ⊥
  no_generation generation h = cc

  pub pull_tells : (r : Result Pulled PullRefusal) (view : View) (offset len width : ℕ) (x y : FileView S) → IsFile place_of content len_of x
      → PullOfWrite place_of content len_of reads r view offset len width x y → WritePullTells place_of content len_of r view offset len width x y
  pull_tells (Ok p) view offset len width x y is told =
      let present = ok_present p (layout_of x).present told.absent in record {
        present = present;
        readable = ok_readable p (first_short (now_of x view) (layout_of x) (write offset len width)) (λ lost is_lost. (told.lost lost).1 (present, refl, is_lost));
        spans = written_spans place_of content len_of reads x.shape view (layout_of x).dead (layout_of x).size offset len width x.inode y.inode x.groups y.groups p.groups told.pulled
            ∙ ap (λ (gs : List Group). spans_with gs 0 (needs x.shape.unit (layout_of x).size (write offset len width))) (sym (groups_mapped place_of content len_of x.groups) ∙ is.slots.mapped);
        decodes = told.decodes (no_inode offset len width (layout_of x).inode);
        shown = λ tell. told.shown tell (no_inode offset len width (layout_of x).inode);
        reads = record { kept = told.kept; same = told.same; same_inode = told.same_inode };
      }
  pull_tells (Err refusal.Absent) view offset len width x y is told = (same_unless refusal.Absent x y absent_is_other told.refused, told.absent.0 refl)
  pull_tells (Err (refusal.Unknown generation)) view offset len width x y is told = absurd (no_generation generation ((told.unknown generation).0 refl).1)
  pull_tells (Err (refusal.Lost lost)) view offset len width x y is told =
      let cause = (told.lost lost).0 refl in (same_unless (refusal.Lost lost) x y (not_memory lost) told.refused, cause.0, cause.2)
  pull_tells (Err refusal.NoMemory) view offset len width x y is told = record { kept = told.kept; same = told.same; same_inode = told.same_inode }
