-- What is made ready for a change, and the change when its inode was written.
use Rattle.std.proofs.Common.{◌≡◌, ℕ, ◌+◌, ◌<◌, ◌≤◌, List, length, map, Option, sym, ap, subst, ◌∙◌}
use Rattle.std.proofs.lemmas.List.{length-map}
use Rattle.flex_io.specs.declared.raw_place.RawPlace.{RawPlace}
use Rattle.board.specs.declared.board_view.View.{View}
use Rattle.domains.specs.Level.{Level, IsLevel}
use Rattle.domains.specs.Place.{Place}
use Rattle.domains.specs.declared.group.Group.{Group}
use Rattle.held_slots.specs.Slots.{place_from}
use Rattle.inode_codec.specs.Inode.{inode_bytes}
use Rattle.file_history.specs.declared.entry.FileEntry.{FileEntry}
use Rattle.map_changes.specs.ChangedMaps.{first_of, inode_with, spliced}
use Rattle.map_changes.proofs.InodeLengths.{inodes_fit_slots}
use Rattle.stale_changes.specs.Staleness.{cause_in}
use Rattle.stale_changes.specs.declared.basis.Basis.{Basis}
use Rattle.stale_changes.specs.declared.basis.KeptUnit.{KeptUnit}
use Rattle.striped_groups.specs.StoredGroups.{GroupSlots, list_of}
use Rattle.map_switches.specs.declared.change.MapChange.{MapChange}
use Rattle.file_heads.specs.declared.head.Head.{Head}
use Rattle.map_switches.specs.declared.prepared.Prepared.{Prepared}
use Rattle.file_heads.specs.Heads.{IsHead}
use Rattle.file_core.specs.FileView.{FileView, IsFile, layout_of}
use Rattle.map_switches.specs.Switches.{IsBounded, IsMadeReady, groups_of, logged, new_groups, numbered, repaired_among, size_after}
use Rattle.file_core.specs.FileSwitches.{IsPrepared, IsReady, new_inode_of}
use Rattle.file_core.proofs.GroupLookups.{groups_of as groups_of_file}
use Rattle.file_core.proofs.ReadyChanges.{run}
use Rattle.file_core.proofs.ReadyBounds.{bounded}

-- the cause at equal entries, bases, generations, kept units and places
pub same_cause : (xs ys : List FileEntry) (at : ℕ) (b d : Basis) (old gone : List ℕ) (k j : List KeptUnit) (p q : List Place) → xs ≡ ys → b ≡ d → old ≡ gone → k ≡ j → p ≡ q
    → cause_in xs at b old k p ≡ cause_in ys at d gone j q
same_cause xs ys at b d old gone k j p q entries basis olds kept places =
    ap (λ (x : List FileEntry × Basis × List ℕ × List KeptUnit × List Place). cause_in x.0 at x.1 x.2 x.3 x.4) (λ i. (entries i, basis i, olds i, kept i, places i))

-- what is compared with, from its parts
pub basis_from : (u v units e d : ℕ) (l k : Option ℕ) (level : Level) → u ≡ v → l ≡ k → e ≡ d
    → (let made : Basis = record { unit = u; last = l; units = units; level = level; end = e } in made)
    ≡ (let made : Basis = record { unit = v; last = k; units = units; level = level; end = d } in made)
basis_from u v units e d l k level unit last end =
    ap (λ (x : ℕ × Option ℕ × ℕ). let made : Basis = record { unit = x.0; last = x.1; units = units; level = level; end = x.2 } in made)
    (λ i. (unit i, last i, end i))

module _ {S : Type 0} (place_of : S → RawPlace) (content : S → Option (List ℕ)) (len_of : S → ℕ) (f : FileView S) (view : View) (change : MapChange S) (h : Head)
    (file : IsFile place_of content len_of f) (ready : IsReady place_of content len_of f view change) (level : IsLevel (layout_of f).requested)
    (below : length f.notes < f.room) (head : IsHead h (layout_of f)) where
  -- the limits, at the numbers that are kept beside the groups
  pub bounded_head : IsBounded f.groups h.next h.size change
  bounded_head =
      subst (λ (x : ℕ × ℕ). IsBounded f.groups x.0 x.1 change) (λ i. (sym head.next i, sym head.size i))
      (bounded place_of content len_of f view change file ready level below)

  same : groups_of f.groups ≡ (layout_of f).groups
  same = groups_of_file place_of content len_of f.shape (layout_of f) _ f.groups _ file.slots

  new_same : numbered (new_groups (groups_of f.groups) change) h.next ≡ (logged (layout_of f) change).new
  new_same = ap (λ (x : List Group × ℕ). numbered (new_groups x.0 change) x.1) (λ i. (same i, head.next i))

  -- what was made ready, beside the groups where there is room for more
  pub inode_numbered : (xs : List (GroupSlots S)) (p : Prepared) → xs ≡ f.groups → IsPrepared f change p → p.inode.generation ≡ h.next + length (new_groups (groups_of xs) change)
  inode_numbered xs p is prepared =
      ap (λ (g : Group). g.generation) prepared.inode
      ∙ sym (ap (λ (x : ℕ × List Group). x.0 + length (new_groups x.1 change)) (λ i. (head.next i, (ap (λ (l : List (GroupSlots S)). groups_of l) is ∙ same) i)))

  pub repaired_numbered : (xs : List (GroupSlots S)) (p : Prepared) → xs ≡ f.groups → IsPrepared f change p
      → list_of p.repaired ≡ repaired_among change.fresh (numbered (new_groups (groups_of xs) change) h.next)
  repaired_numbered xs p is prepared =
      prepared.repaired
      ∙ sym (ap (λ (x : ℕ × List Group). repaired_among change.fresh (numbered (new_groups x.1 change) x.0)) (λ i. (head.next i, (ap (λ (l : List (GroupSlots S)). groups_of l) is ∙ same) i)))

  text_is : (p : Prepared) → IsMadeReady f.groups h.next (record { level = h.requested; unit = f.shape.unit; size = size_after change.why h.size }) change p
      → p.text.items ≡ inode_bytes (new_inode_of f change)
  text_is p made =
      made.text
      ∙ ap (λ (x : Level × ℕ × List Group × ℕ). inode_bytes (inode_with x.0 f.shape.unit (size_after change.why x.1)
      (spliced x.2 (first_of change.old x.2) (length change.old) (numbered (new_groups x.2 change) x.3))))
      (λ i. (head.requested i, head.size i, groups_of_file place_of content len_of f.shape (layout_of f) _ f.groups _ file.slots i, head.next i))

  pub prepared_is : (p : Prepared) → IsMadeReady f.groups h.next (record { level = h.requested; unit = f.shape.unit; size = size_after change.why h.size }) change p
      → IsPrepared f change p
  prepared_is p made =
      let for_run = run place_of content len_of f view change file ready level below in record {
        groups = made.groups ∙ new_same;
        repaired = made.repaired ∙ ap (λ (gs : List Group). repaired_among change.fresh gs) new_same;
        inode = made.inode ∙ ap (λ (x : ℕ × List Group). let made : Group = record change.inode.group { generation = x.0 + length (new_groups x.1 change) } in made) (λ i. (head.next i, same i));
        text = text_is p made;
        fits = subst (λ (t : List ℕ). length t ≤ 262144) (sym (text_is p made)) (inodes_fit_slots (new_inode_of f change) for_run.valid);
        few = subst (λ (n : ℕ). n ≤ 255)
            (sym (ap (λ (ss : List Place). length ss) ready.slots.inode) ∙ length-map change.inode.slots (λ (x : S). place_from (place_of x))) for_run.root_narrow;
      }

module _ {S : Type 0} (place_of : S → RawPlace) where
  pub same_length : (xs ys : List S) → map place_of xs ≡ map place_of ys → length xs ≡ length ys
  same_length xs ys same = sym (length-map xs place_of) ∙ ap (λ (l : List RawPlace). length l) same ∙ length-map ys place_of

  -- what was made ready serves when the inode was written
  pub prepared_written : (f : FileView S) (change : MapChange S) (p : Prepared) (slots : List S) → map place_of slots ≡ map place_of change.inode.slots
      → IsPrepared f change p → IsPrepared f (record change { inode = record { group = change.inode.group; slots = slots } }) p
  prepared_written f change p slots same prepared = record {
    groups = prepared.groups;
    repaired = prepared.repaired;
    inode = prepared.inode;
    text = prepared.text;
    fits = prepared.fits;
    few = subst (λ (n : ℕ). n ≤ 255) (sym (same_length slots change.inode.slots same)) prepared.few;
  }
