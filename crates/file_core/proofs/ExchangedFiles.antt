-- A file in which a change was put: what holds of it, and of what is kept beside its groups.
use Rattle.std.proofs.Common.{◌≡◌, ℕ, ◌<◌, List, [], ◌∷◌, ◌++◌, length, map, Option, Some, sym, ap, subst, ◌∙◌}
use Rattle.std.specs.List.{AllByRecursion}
use Rattle.flex_io.specs.declared.raw_place.RawPlace.{RawPlace}
use Rattle.board.specs.declared.board_view.View.{View}
use Rattle.domains.specs.Level.{IsLevel}
use Rattle.domains.specs.declared.by.By.{By}
use Rattle.inode_codec.specs.Inode.{inode_bytes}
use Rattle.file_history.specs.Layout.{layout_after}
use Rattle.turn_cell.specs.declared.chronicle.Note.{Note}
use Rattle.file_core.specs.declared.noted.Noted.{Noted}
use Rattle.map_switches.specs.declared.change.MapChange.{MapChange}
use Rattle.map_switches.specs.declared.exchanged.Exchanged.{Exchanged}
use Rattle.file_heads.specs.declared.head.Head.{Head}
use Rattle.map_switches.specs.declared.prepared.Prepared.{Prepared}
use Rattle.striped_groups.specs.StoredGroups.{Took}
use Rattle.file_heads.specs.Heads.{IsHead}
use Rattle.file_core.specs.FileInvariant.{KeepsFile}
use Rattle.file_core.specs.FileView.{FileView, IsFile, IsLater, layout_of}
use Rattle.file_core.specs.NoteLog.{NoteList, pushed}
use Rattle.file_core.specs.Notes.{noted, told_of}
use Rattle.striped_groups.specs.StoredGroups.{AllTell, GroupSlots, list_of, stored_group}
use Rattle.map_switches.specs.Switches.{IsBounded, IsExchanged}
use Rattle.file_core.specs.FileSwitches.{IsPrepared, IsReady, new_inode_of, switched}
use Rattle.file_core.proofs.ExchangedMaps.{exchanged_is, head_exchanged}
use Rattle.file_core.proofs.FileGrowth.{layout_after-note}
use Rattle.file_core.proofs.PreparedChanges.{bounded_head}
use Rattle.file_core.proofs.ReadyChanges.{file_after}

module _ {S : Type 0} (place_of : S → RawPlace) (content : S → Option (List ℕ)) (len_of : S → ℕ) (f : FileView S) (view : View) (change : MapChange S) (p : Prepared)
    (h : Head) (file : IsFile place_of content len_of f) (ready : IsReady place_of content len_of f view change) (level : IsLevel (layout_of f).requested)
    (below : length f.notes < f.room) (head : IsHead h (layout_of f)) where
  -- the limits, of the groups where there is room for more
  pub bounded_groups : (xs : List (GroupSlots S)) → xs ≡ f.groups → IsBounded xs h.next h.size change
  bounded_groups xs same =
      subst (λ (gs : List (GroupSlots S)). IsBounded gs h.next h.size change) (sym same)
      (bounded_head place_of content len_of f view change h file ready level below head)

  module _ (xs new : List (GroupSlots S)) (r : Exchanged S) (same : xs ≡ f.groups) (prepared : IsPrepared f change p) (made : IsExchanged xs new h.next h.size change p r)
      (by : By) where
    pub done : IsExchanged f.groups new (layout_of f).next (layout_of f).size change p r
    done =
        subst (λ (x : List (GroupSlots S) × ℕ × ℕ). IsExchanged x.0 new x.1 x.2 change p r)
        (λ i. (same i, head.next i, head.size i)) made

    abbrev note : Note Noted
    note = record { turn = f.turns; seat = f.seat; entry = noted by view r.event r.payload }

    pub file_put : (ns : List (Note Noted)) (inode : Option (GroupSlots S)) → ns ≡ f.notes ++ note ∷ [] → inode ≡ Some r.inode
        → IsLater view f → AllByRecursion (Took content len_of (inode_bytes (new_inode_of f change))) change.inode.slots
        → KeepsFile (AllTell content) f.shape f.level f.room ns (map (stored_group place_of content len_of) new) (map (stored_group place_of content len_of) (list_of inode))
    file_put ns inode notes root later took =
        subst (λ (x : List (Note Noted) × Option (GroupSlots S)).
        KeepsFile (AllTell content) f.shape f.level f.room x.0 (map (stored_group place_of content len_of) new) (map (stored_group place_of content len_of) (list_of x.1)))
        (λ i. (sym notes i, sym root i))
        (subst (IsFile place_of content len_of) (sym (exchanged_is place_of content len_of f view change p new r file prepared done by))
        (file_after place_of content len_of f view change file ready level below by later took))

    pub head_put : (ns : List (Note Noted)) (after : Head) → ns ≡ f.notes ++ note ∷ []
        → after ≡ record h { level = h.requested; next = r.next; size = r.size; units = r.units } → IsHead after (layout_after f.level (told_of ns))
    head_put ns after notes is =
        subst (IsHead after) (sym (ap (λ (ms : List (Note Noted)). layout_after f.level (told_of ms)) notes ∙ layout_after-note f.level f.notes note))
        (head_exchanged place_of content len_of f view change p new r file prepared done h after ready level below head is)

    pub view_put : (l : NoteList) (inode : Option (GroupSlots S)) → l ≡ pushed (record { notes = f.notes; spare = f.spare }) note → inode ≡ Some r.inode
        → record f { notes = l.notes; groups = new; inode = inode; spare = l.spare } ≡ switched by view change change.inode.slots f
    view_put l inode notes root =
        ap (λ (x : NoteList × Option (GroupSlots S)). let made : FileView S = record f { notes = x.0.notes; groups = new; inode = x.1; spare = x.0.spare } in made)
        (λ i. (notes i, root i))
        ∙ exchanged_is place_of content len_of f view change p new r file prepared done by
