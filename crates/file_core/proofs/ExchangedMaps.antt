-- A file whose groups were exchanged is the one that the change makes of it.
use Rattle.std.proofs.Common.{◌≡◌, ℕ, ◌+◌, ◌<◌, true, List, length, take, drop, Option, None, Some, sym, ap, subst, ◌∙◌}
use Rattle.std.proofs.lemmas.Bool.{false≢true}
use Rattle.flex_io.specs.declared.raw_place.RawPlace.{RawPlace}
use Rattle.board.specs.declared.board_view.View.{View}
use Rattle.domains.specs.Level.{IsLevel}
use Rattle.domains.specs.declared.by.By.{By}
use Rattle.domains.specs.declared.group.Group.{Group}
use Rattle.file_history.specs.Layout.{Layout, layout_after_event, places_of}
use Rattle.file_history.specs.declared.entry.Change.{Change}
use Rattle.file_history.specs.declared.entry.FileEvent.{FileEvent}
use Rattle.map_changes.specs.ChangedMaps.{first_of, spliced}
use Rattle.map_switches.specs.declared.change.MapChange.{MapChange}
use Rattle.map_switches.specs.declared.exchanged.Exchanged.{Exchanged}
use Rattle.file_heads.specs.declared.head.Head.{Head}
use Rattle.map_switches.specs.declared.prepared.Prepared.{Prepared}
use Rattle.file_heads.specs.Heads.{IsHead, is_there}
use Rattle.file_core.specs.FileView.{FileView, IsFile, layout_of, with_note}
use Rattle.file_core.specs.Notes.{noted}
use Rattle.file_heads.specs.PullRefusals.{group_of}
use Rattle.striped_groups.specs.StoredGroups.{GroupSlots}
use Rattle.map_switches.specs.Switches.{IsExchanged, brought, event_of, event_with, groups_of, inode_from, logged, new_groups, new_stripes, numbered, released, size_after, stripes_from}
use Rattle.file_core.specs.FileSwitches.{IsPrepared, IsReady, replaced_in, switched}
use Rattle.file_core.proofs.GroupLookups.{groups_of as groups_of_file}
use Rattle.file_core.proofs.PulledSlots.{root_group}
use Rattle.file_core.proofs.ReadyChanges.{run}
use Rattle.map_switches.proofs.BroughtGroups.{new-groups}
use Rattle.map_switches.proofs.SwitchBounds.{groups_switched}
use Rattle.file_core.proofs.SwitchedHead.{head_switched}

module _ {S : Type 0} (place_of : S → RawPlace) (content : S → Option (List ℕ)) (len_of : S → ℕ) (f : FileView S) (view : View) (change : MapChange S) (p : Prepared)
    (new : List (GroupSlots S)) (r : Exchanged S) (file : IsFile place_of content len_of f) (prepared : IsPrepared f change p)
    (done : IsExchanged f.groups new (layout_of f).next (layout_of f).size change p r) where
  same : groups_of f.groups ≡ (layout_of f).groups
  same = groups_of_file place_of content len_of f.shape (layout_of f) _ f.groups _ file.slots

  change_is : (let made : Change = record { old = change.old; new = p.groups.items; inode = p.inode } in made) ≡ logged (layout_of f) change
  change_is = ap (λ (x : List Group × Group). let made : Change = record { old = change.old; new = x.0; inode = x.1 } in made) (λ i. (prepared.groups i, prepared.inode i))

  pub event_is : r.event ≡ event_of change.why (layout_of f).size (logged (layout_of f) change)
  event_is = done.event ∙ ap (λ (c : Change). event_with change.why (size_after change.why (layout_of f).size) c) change_is

  groups_are : new
      ≡ spliced f.groups (first_of change.old (layout_of f).groups) (length change.old) (stripes_from (brought (replaced_in f change) change.fresh) (layout_of f).next)
  groups_are =
      done.groups
      ∙ ap (λ (gs : List Group). spliced f.groups (first_of change.old gs) (length change.old)
      (stripes_from (brought (take (length change.old) (drop (first_of change.old gs) f.groups)) change.fresh) (layout_of f).next)) same

  pub gone_are : r.gone ≡ released (replaced_in f change) change.fresh
  gone_are = done.gone ∙ ap (λ (gs : List Group). released (take (length change.old) (drop (first_of change.old gs) f.groups)) change.fresh) same

  inode_is : r.inode ≡ inode_from (layout_of f) change
  inode_is =
      done.inode
      ∙ ap (λ (g : Group). let made : GroupSlots S = record { group = record change.inode.group { generation = g.generation }; slots = change.inode.slots } in made) prepared.inode

  -- the file with what was exchanged
  abbrev pub exchanged : By → FileView S
  exchanged by = record (with_note f (noted by view r.event r.payload)) { groups = new; inode = Some r.inode }

  pub exchanged_is : (by : By) → exchanged by ≡ switched by view change change.inode.slots f
  exchanged_is by =
      ap (λ (x : FileEvent × List ℕ × List (GroupSlots S) × GroupSlots S).
      let made : FileView S = record (with_note f (noted by view x.0 x.1)) { groups = x.2; inode = Some x.3 } in made)
      (λ i. (event_is i, done.payload i, groups_are i, inode_is i))

  pub head_exchanged : (h after : Head) → IsReady place_of content len_of f view change → IsLevel (layout_of f).requested → length f.notes < f.room → IsHead h (layout_of f)
      → after ≡ record h { level = h.requested; next = r.next; size = r.size; units = r.units } → IsHead after (layout_after_event f.level r.event (layout_of f))
  head_exchanged h after ready level below head is =
      let l : Layout = layout_of f in
      let c : Change = logged l change in
      let for_run = run place_of content len_of f view change file ready level below in
      subst (λ (e : FileEvent). IsHead after (layout_after_event f.level e l)) (sym event_is)
      (head_switched change.why h after l c f.level r.units head
      (is ∙ ap (λ (x : ℕ × ℕ). let made : Head = record h { level = h.requested; next = x.0; size = x.1; units = r.units } in made)
      (λ i. ((done.next ∙ ap (λ (g : Group). g.generation + 1) prepared.inode) i, done.size i)))
      (done.units ∙ ap (λ (gs : List Group). length (places_of gs) + length change.inode.group.places)
      (ap (λ (gs : List (GroupSlots S)). groups_of gs) done.groups
      ∙ groups_switched f.groups (new_stripes f.groups change) (first_of change.old (groups_of f.groups)) (length change.old) l.next
      ∙ ap (λ (gs : List Group). spliced (groups_of f.groups) (first_of change.old (groups_of f.groups)) (length change.old) (numbered gs l.next)) (new-groups f.groups change)
      ∙ ap (λ (gs : List Group). spliced gs (first_of change.old gs) (length change.old) (numbered (new_groups gs change) l.next)) same ∙ sym for_run.run)))

-- a file that is there has an inode
pub inode_there : {S : Type 0} (place_of : S → RawPlace) (content : S → Option (List ℕ)) (len_of : S → ℕ) (f : FileView S) → IsFile place_of content len_of f
    → (layout_of f).present ≡ true → f.inode ≡ None → ⊥
inode_there place_of content len_of f file present none =
    let root = root_group place_of content len_of f.shape (layout_of f) _ _ f.inode file.slots in
    let absent = ap is_there (root ∙ ap (λ (o : Option (GroupSlots _)). group_of o) none) in
    false≢true (sym absent ∙ sym file.slots.there ∙ present)
