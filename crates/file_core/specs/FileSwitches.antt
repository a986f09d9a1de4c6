-- The change of a file's map, as the file's state makes it.
use Rattle.std.specs.Prelude.{◌≡◌, ℕ, ◌≤◌, List, length, map, take, drop, Option, None, Some}
use Rattle.std.specs.List.{AllByRecursion}
use Rattle.flex_io.specs.declared.raw_place.RawPlace.{RawPlace}
use Rattle.board.specs.declared.board_view.View.{View}
use Rattle.domains.specs.declared.by.By.{By}
use Rattle.inode_codec.specs.Inode.{inode_bytes}
use Rattle.inode_codec.specs.declared.inode.Inode.{Inode}
use Rattle.file_history.specs.Step.{IsEvent}
use Rattle.turn_cell.specs.declared.chronicle.Note.{Note}
use Rattle.file_core.specs.declared.noted.Noted.{Noted}
use Rattle.file_history.specs.declared.entry.FileEntry.{FileEntry}
use Rattle.map_changes.specs.ChangedMaps.{spliced}
use Rattle.map_changes.specs.ChangedMaps.{AreFree, first_of, inode_with}
use Rattle.stale_changes.specs.declared.stale.Stale.{Stale}
use Rattle.map_switches.specs.declared.change.MapChange.{MapChange}
use Rattle.file_core.specs.declared.switch.Switched.{Switched}
use Rattle.striped_groups.specs.StoredGroups.{GroupSlots, Took, list_of}
use Rattle.map_switches.specs.declared.prepared.Prepared.{Prepared}
use Rattle.file_core.specs.Notes.{noted}
use Rattle.file_core.specs.FileView.{FileView, bytes_of, layout_of, log_of, now_of, with_note}
use Rattle.stale_changes.specs.Staleness.{cause_in}
use Rattle.stale_changes.specs.declared.basis.Basis.{Basis}
use Rattle.map_switches.specs.Switches.{HoldPart, IsOfSlots, brought, end_of, event_of, inode_from, kept_units, last_generation, logged, new_places, payload_of, released, repaired_among, size_after, stripes_from}

-- the entries behind the first `at`
abbrev pub entries_since : List (Note Noted) → ℕ → List FileEntry
entries_since notes at = drop at (map (λ (n : Note Noted). n.entry.told.entry) notes)

module _ {S : Type 0} where
  -- what the entries behind the change's copy are compared with
  abbrev pub basis_of : FileView S → MapChange S → Basis
  basis_of f change = record {
    unit = f.shape.unit;
    last = last_generation (layout_of f).groups;
    units = change.units;
    level = change.level;
    end = end_of change.why;
  }

  -- why an entry behind the change's copy stands against it
  abbrev pub stale_by : FileView S → MapChange S → Option Stale
  stale_by f change =
      cause_in (entries_since f.notes change.at) change.at (basis_of f change) change.old (kept_units change.fresh) (new_places change)

  -- if no entry stands against the change, and its new units stand at free places, its entry is legal
  abbrev pub IsLegalIfFresh : FileView S → View → MapChange S → Type 0
  IsLegalIfFresh f view change =
      stale_by f change ≡ None → AreFree (layout_of f) (new_places change)
      → IsEvent (now_of f view) (log_of f) (layout_of f) (payload_of change.why)
      (event_of change.why (layout_of f).size (logged (layout_of f) change))

  -- the groups that the change replaces, with their slots
  abbrev pub replaced_in : FileView S → MapChange S → List (GroupSlots S)
  replaced_in f change = take (length change.old) (drop (first_of change.old (layout_of f).groups) f.groups)

  -- the file after the change, whose inode stands on these slots
  abbrev pub switched : By → View → MapChange S → List S → FileView S → FileView S
  switched by view change inode f =
      record (with_note f (noted by view (event_of change.why (layout_of f).size (logged (layout_of f) change)) (payload_of change.why))) {
        groups = spliced f.groups (first_of change.old (layout_of f).groups) (length change.old) (stripes_from (brought (replaced_in f change) change.fresh) (layout_of f).next);
        inode = Some (record { group = (inode_from (layout_of f) change).group; slots = inode });
      }

  module _ (place_of : S → RawPlace) (content : S → Option (List ℕ)) (len_of : S → ℕ) where
    -- the new groups hold their part of the bytes that the file has after the change
    abbrev pub HoldTheirPart : FileView S → MapChange S → Type 0
    HoldTheirPart f change = HoldPart place_of content len_of (layout_of f) f.shape.unit (bytes_of f) change

    -- if no entry stands against the change, the new groups hold their part of the bytes that the file then has
    abbrev pub HoldIfFresh : FileView S → MapChange S → Type 0
    HoldIfFresh f change = stale_by f change ≡ None → HoldTheirPart f change

    -- what is known of a change against which no entry stands, and whose new places are free
    pub record IsReady (f : FileView S) (view : View) (change : MapChange S) : Type 0 where
      pub slots : IsOfSlots place_of len_of f.shape.unit change
      pub holds : HoldTheirPart f change
      pub free : AreFree (layout_of f) (new_places change)
      pub legal : IsEvent (now_of f view) (log_of f) (layout_of f) (payload_of change.why)
          (event_of change.why (layout_of f).size (logged (layout_of f) change))

  -- what the inode says after the change
  abbrev pub new_inode_of : FileView S → MapChange S → Inode
  new_inode_of f change =
      inode_with (layout_of f).requested f.shape.unit (size_after change.why (layout_of f).size)
      (spliced (layout_of f).groups (first_of change.old (layout_of f).groups) (length change.old) (logged (layout_of f) change).new)

  -- the change was made, and set free what it replaced but for the slots that it keeps
  pub record IsPut (by : By) (view : View) (change : MapChange S) (old new : FileView S) (done : Switched S) : Type 0 where
    pub file : new ≡ switched by view change change.inode.slots old
    pub groups : done.groups ≡ released (replaced_in old change) change.fresh
    pub inode : Some done.inode ≡ old.inode
    pub at : done.at ≡ length new.notes

  -- the change was made: its inode was written, and it set free what it replaced but for the slots that it keeps: the groups in map
  -- order, and the inode
  pub record IsSwitched (place_of : S → RawPlace) (content : S → Option (List ℕ)) (len_of : S → ℕ) (by : By) (view : View) (change : MapChange S)
      (old new : FileView S) (done : Switched S) : Type 0 where
    pub slots : List S
    pub places : map place_of slots ≡ map place_of change.inode.slots
    pub written : AllByRecursion (Took content len_of (inode_bytes (new_inode_of old change))) slots
    pub file : new ≡ switched by view change slots old
    pub groups : done.groups ≡ released (replaced_in old change) change.fresh
    pub inode : Some done.inode ≡ old.inode
    pub at : done.at ≡ length new.notes

  -- what a change takes from memory before it changes the file: the logged groups and inode, the group of a repair, and the inode's text
  pub record IsPrepared (f : FileView S) (change : MapChange S) (p : Prepared) : Type 0 where
    pub groups : p.groups.items ≡ (logged (layout_of f) change).new
    pub repaired : list_of p.repaired ≡ repaired_among change.fresh (logged (layout_of f) change).new
    pub inode : p.inode ≡ (logged (layout_of f) change).inode
    pub text : p.text.items ≡ inode_bytes (new_inode_of f change)
    pub fits : length p.text.items ≤ 262144
    pub few : length change.inode.slots ≤ 255
