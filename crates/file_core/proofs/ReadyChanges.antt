-- What a change that is ready makes of a file.
use Rattle.std.proofs.Common.{◌≡◌, ℕ, ◌+◌, ◌*◌, ◌^◌, ◌<◌, ◌≤◌, not, true, List, [], ◌∷◌, ◌++◌, length, map, take, drop, take_while, Option, refl, sym, ap, subst, ◌∙◌, arith, length-append}
use Rattle.std.specs.List.{AllByRecursion}
use Rattle.std.proofs.lemmas.List.{take-map, drop-map}
use Rattle.flex_io.specs.declared.raw_place.RawPlace.{RawPlace}
use Rattle.board.specs.declared.board_view.View.{View}
use Rattle.domains.specs.Place.{Place}
use Rattle.domains.specs.Shape.{IsShape}
use Rattle.domains.specs.Level.{Level, IsLevel}
use Rattle.domains.specs.AtLevel.{AtLevel}
use Rattle.domains.specs.declared.by.By.{By}
use Rattle.domains.specs.declared.group.Group.{Group}
use Rattle.turn_cell.specs.declared.chronicle.Note.{Note}
use Rattle.inode_codec.specs.Inode.{IsInode, data_units, inode_bytes}
use Rattle.file_history.specs.World.{Moment}
use Rattle.file_history.specs.Bytes.{bytes_after, bytes_after_event}
use Rattle.file_history.specs.Layout.{Layout, is_among, layout_after_event, replaced, with_change}
use Rattle.file_history.specs.Step.{IsEvent, ShowsBytes}
use Rattle.file_history.specs.declared.entry.Change.{Change}
use Rattle.file_history.specs.declared.entry.NotedEntry.{NotedEntry}
use Rattle.write_rule.specs.NewBytes.{padded_slice}
use Rattle.map_changes.specs.ChangedMaps.{first_of, inode_with, spliced}
use Rattle.map_changes.proofs.Pairs.{All-drop, All-take, All-then}
use Rattle.map_changes.proofs.SplicedLists.{map-spliced}
use Rattle.map_changes.proofs.ChangedInodes.{level_numbers}
use Rattle.file_core.specs.declared.noted.Noted.{Noted}
use Rattle.map_switches.specs.declared.change.Why.{Why}
use Rattle.map_switches.specs.declared.change.Why.TheVariants.{Write, Place as Place_}
use Rattle.map_switches.specs.declared.change.MapChange.{MapChange}
use Rattle.striped_groups.specs.StoredGroups.{AllTell, GroupSlots, HoldRun, StoredGroup, Took, list_of, stored_group}
use Rattle.file_core.specs.Notes.{last_epoch_of, noted}
use Rattle.file_core.specs.FileInvariant.{KeepsSlots}
use Rattle.file_core.specs.FileView.{FileView, IsFile, IsLater, bytes_of, layout_of, log_of, now_of}
use Rattle.map_switches.specs.Switches.{HoldFresh, IsFreshStripe, brought, brought_groups, event_of, event_with, groups_of, logged, new_groups, numbered, payload_of, run_of, size_after, stripes_from}
use Rattle.file_core.specs.FileSwitches.{IsReady, new_inode_of, replaced_in, switched}
use Rattle.file_core.proofs.CreatedFile.{all_hold, all_long, few_units}
use Rattle.file_core.proofs.FileGrowth.{KeepsFile-note, epochs_up_to}
use Rattle.file_core.proofs.GroupLookups.{groups_of as groups_of_file}
use Rattle.map_switches.proofs.BroughtGroups.{brought-groups}
use Rattle.map_switches.proofs.BroughtPlaces.{brought_places_differ}
use Rattle.map_switches.proofs.BroughtStripes.{brought_hold, brought_stand, stripes_there}
use Rattle.map_switches.proofs.NumberedGroups.{numbered-length, numbered-units, stored-groups, stripes_hold, stripes_sized, stripes_stand}
use Rattle.file_core.proofs.SwitchedFile.{Brings, KeepsSlots-changed, inode_valid}
use Rattle.file_core.proofs.SwitchedRuns.{changed, holds_after, run_holds, size_is}

-- a run that is replaced by groups, and the map that it leaves
pub record IsRunFor (now : Moment) (log : List NotedEntry) (l : Layout) (size : ℕ) (change : Change) : Type 0 where
  pub within : first_of change.old l.groups + length change.old ≤ length l.groups
  pub run : replaced change.old change.new l.groups ≡ spliced l.groups (first_of change.old l.groups) (length change.old) change.new
  pub few : length (spliced l.groups (first_of change.old l.groups) (length change.old) change.new) ≤ 256
  pub new_few : length change.new ≤ 256
  pub valid : IsInode (inode_with l.requested now.shape.unit size (spliced l.groups (first_of change.old l.groups) (length change.old) change.new))
  pub narrow : AllByRecursion (λ (g : Group). length g.places ≤ 255) change.new
  pub root_narrow : length change.inode.places ≤ 255
  pub present : l.present ≡ true

few_new : (a b c : List Group) → length (a ++ (b ++ c)) ≤ 256 → length b ≤ 256
few_new a b c few =
    let whole = length-append a (b ++ c) in
    let rest = length-append b c in omega (arith, few, whole, rest)

few_within : (a b c : List Group) → length ((a ++ b) ++ c) ≤ 256 → length b ≤ 256
few_within a b c few =
    let whole = length-append (a ++ b) c in
    let rest = length-append a b in omega (arith, few, whole, rest)

-- a legal change brings at most 256 groups
pub few_brought : (why : Why) (now : Moment) (log : List NotedEntry) (l : Layout) (c : Change) → IsEvent now log l (payload_of why) (event_of why l.size c)
    → length c.new ≤ 256
few_brought (Write offset bytes) now log l c legal =
    few_within (take_while (λ (g : Group). not (is_among c.old g.generation)) l.groups) c.new _ legal.2.groups
few_brought (Place_ job) now log l c legal =
    few_within (take_while (λ (g : Group). not (is_among c.old g.generation)) l.groups) c.new _ legal.groups

narrow_at : (g : Group) (level : Level) → IsLevel level → AtLevel g level → length g.places ≤ 255
narrow_at g level is at =
    let numbers = level_numbers level is in
    let w = numbers.w in
    let m = numbers.few in
    let n = at.narrow in
    let same = at.corrected in
    let whole = at.whole in omega (arith, w, m, n, same, whole)

shows : (why : Why) (size : ℕ) (c : Change) (log : List NotedEntry) → ShowsBytes log (event_with why size c)
shows (Write offset bytes) size c log = tt
shows (Place_ job) size c log = tt

next_after : (why : Why) (size : ℕ) (c : Change) (declared : Level) (l : Layout) → (layout_after_event declared (event_with why size c) l).next ≡ c.inode.generation + 1
next_after (Write offset bytes) size c declared l = refl
next_after (Place_ job) size c declared l = refl

after_is : (why : Why) (c : Change) (declared : Level) (l : Layout)
    → (let after : Layout = record (with_change c l) { size = size_after why l.size } in after) ≡ layout_after_event declared (event_of why l.size c) l
after_is (Write offset bytes) c declared l = refl
after_is (Place_ job) c declared l = refl

module _ (now : Moment) (log : List NotedEntry) (l : Layout) (groups inode : List StoredGroup) (c : Change)
    (kept : KeepsSlots now.shape l (bytes_after log) groups inode) (is : IsShape now.shape) (level : IsLevel l.requested) (small : l.next + length c.new < 2 ^ 32) where
  pub run_for : (why : Why) → IsEvent now log l (payload_of why) (event_of why l.size c) → IsRunFor now log l (size_after why l.size) c
  run_for why legal =
      let made = changed now log l groups inode c kept why legal in
      let root = few_units c.inode l.requested made.inode level in record {
        within = made.within;
        run = made.run;
        few = made.few;
        new_few = few_new (take (first_of c.old l.groups) l.groups) c.new (drop (first_of c.old l.groups + length c.old) l.groups) made.few;
        valid = inode_valid now l (bytes_after log) groups inode c (size_after why l.size) kept is made level small;
        narrow = All-then (λ (g : Group). AtLevel g l.requested) (λ (g : Group). length g.places ≤ 255) c.new (λ g at. narrow_at g l.requested level at) made.level;
        root_narrow = omega (arith, root);
        present = made.present;
      }

module _ {S : Type 0} (place_of : S → RawPlace) (content : S → Option (List ℕ)) (len_of : S → ℕ) (f : FileView S) (view : View) (change : MapChange S)
    (file : IsFile place_of content len_of f) (ready : IsReady place_of content len_of f view change) (level : IsLevel (layout_of f).requested)
    (below : length f.notes < f.room) where
  abbrev c : Change
  c = logged (layout_of f) change

  abbrev groups : List StoredGroup
  groups = map (stored_group place_of content len_of) f.groups

  abbrev inode : List StoredGroup
  inode = map (stored_group place_of content len_of) (list_of f.inode)

  -- what comes in the place of the replaced groups
  abbrev pub fresh : List (GroupSlots S)
  fresh = brought (replaced_in f change) change.fresh

  pub small : (layout_of f).next + length (logged (layout_of f) change).new < 2 ^ 32
  small =
      let numbers = file.numbers in
      let room = file.few in
      let few = few_brought change.why (now_of f view) (log_of f) (layout_of f) c ready.legal in
      omega (arith, numbers, room, below, few)

  pub run : IsRunFor (now_of f view) (log_of f) (layout_of f) (size_after change.why (layout_of f).size) (logged (layout_of f) change)
  run = run_for (now_of f view) (log_of f) (layout_of f) groups inode c file.slots file.cluster level small change.why ready.legal

  -- the replaced groups are those of the layout
  pub run_same : groups_of (replaced_in f change) ≡ run_of change.old (layout_of f).groups
  run_same =
      sym (take-map (λ (g : GroupSlots S). g.group) (length change.old) (drop (first_of change.old (layout_of f).groups) f.groups))
      ∙ ap (take (length change.old))
      (sym (drop-map (λ (g : GroupSlots S). g.group) (first_of change.old (layout_of f).groups) f.groups)
      ∙ ap (drop (first_of change.old (layout_of f).groups)) (groups_of_file place_of content len_of f.shape (layout_of f) _ f.groups _ file.slots))

  pub fresh_same : groups_of fresh ≡ new_groups (layout_of f).groups change
  fresh_same = brought-groups (replaced_in f change) change.fresh ∙ ap (λ (gs : List Group). brought_groups gs change.fresh) run_same

  pub run_stands : AllByRecursion (IsFreshStripe place_of len_of f.shape.unit) (replaced_in f change)
  run_stands =
      All-take (IsFreshStripe place_of len_of f.shape.unit) (length change.old) (drop (first_of change.old (layout_of f).groups) f.groups)
      (All-drop (IsFreshStripe place_of len_of f.shape.unit) (first_of change.old (layout_of f).groups) f.groups
      (stripes_there place_of content len_of f.groups f.shape.unit file.slots.stands file.slots.sized))

  fresh_stand : AllByRecursion (IsFreshStripe place_of len_of f.shape.unit) fresh
  fresh_stand = brought_stand place_of content len_of (replaced_in f change) change.fresh f.shape.unit change.old ready.slots.groups run_stands

  -- their part of the new bytes
  abbrev part : ℕ → List ℕ
  part k =
      padded_slice (bytes_after_event (event_of change.why (layout_of f).size c) (payload_of change.why) (bytes_of f))
      (data_units (take (first_of change.old (layout_of f).groups) (layout_of f).groups) * f.shape.unit) (k * f.shape.unit)

  pub run_hold : HoldFresh place_of content len_of change.why (groups_of (replaced_in f change)) f.shape.unit (part (data_units (new_groups (layout_of f).groups change))) change.fresh
  run_hold =
      subst (λ (gs : List Group). HoldFresh place_of content len_of change.why gs f.shape.unit (part (data_units (new_groups (layout_of f).groups change))) change.fresh)
      (sym run_same) ready.holds

  fresh_hold : HoldRun (map (stored_group place_of content len_of) fresh) (part (data_units c.new)) f.shape.unit
  fresh_hold =
      let units = numbered-units (new_groups (layout_of f).groups change) (layout_of f).next in
      brought_hold place_of content len_of change.why (replaced_in f change) change.fresh f.shape.unit (part (data_units c.new))
      (subst (λ (k : ℕ). HoldFresh place_of content len_of change.why (groups_of (replaced_in f change)) f.shape.unit (part k) change.fresh) (sym units) run_hold)
      (λ placement.
      subst (λ (gs : List StoredGroup). HoldRun gs (part (data_units c.new)) f.shape.unit)
      (ap (take (length change.old)) (drop-map (stored_group place_of content len_of) (first_of change.old (layout_of f).groups) f.groups)
      ∙ take-map (stored_group place_of content len_of) (length change.old) (drop (first_of change.old (layout_of f).groups) f.groups))
      (run_holds (now_of f view) (log_of f) (layout_of f) groups inode c file.slots change.why placement ready.legal))

  -- what the change brings to the file, when its inode holds what it is to say
  brings : AllByRecursion (Took content len_of (inode_bytes (new_inode_of f change))) change.inode.slots
      → Brings f.shape.unit c (inode_bytes (new_inode_of f change)) (map (stored_group place_of content len_of) (stripes_from fresh (layout_of f).next))
      (stored_group place_of content len_of (record { group = c.inode; slots = change.inode.slots }))
  brings took = record {
    groups = stored-groups place_of content len_of fresh (layout_of f).next ∙ ap (λ (gs : List Group). numbered gs (layout_of f).next) fresh_same;
    stands = stripes_stand place_of content len_of fresh (layout_of f).next f.shape.unit fresh_stand
        (subst (λ (gs : List Group). AllByRecursion (λ (g : Group). length g.places ≤ 255) (numbered gs (layout_of f).next)) (sym fresh_same) run.narrow);
    sized = stripes_sized place_of content len_of fresh (layout_of f).next f.shape.unit fresh_stand;
    inode = refl;
    root_stands = record { places = ready.slots.inode; few = subst (λ (ss : List Place). length ss ≤ 255) (sym ready.slots.inode) run.root_narrow };
    root_sized = all_long content len_of (inode_bytes (new_inode_of f change)) change.inode.slots took;
    root_holds = all_hold content len_of (inode_bytes (new_inode_of f change)) change.inode.slots took;
  }

  slots_after : AllByRecursion (Took content len_of (inode_bytes (new_inode_of f change))) change.inode.slots
      → KeepsSlots f.shape (layout_after_event f.level (event_of change.why (layout_of f).size c) (layout_of f))
      (bytes_after_event (event_of change.why (layout_of f).size c) (payload_of change.why) (bytes_of f))
      (spliced groups (first_of change.old (layout_of f).groups) (length change.old) (map (stored_group place_of content len_of) (stripes_from fresh (layout_of f).next)))
      (stored_group place_of content len_of (record { group = c.inode; slots = change.inode.slots }) ∷ [])
  slots_after took =
      let l : Layout = layout_of f in
      let now : Moment = now_of f view in
      let news = brings took in
      let held = holds_after now (log_of f) l groups inode c file.slots change.why ready.legal (map (stored_group place_of content len_of) (stripes_from fresh l.next)) news.groups
      (stripes_hold place_of content len_of fresh l.next f.shape.unit _ fresh_hold) in
      subst (λ (after : Layout). KeepsSlots f.shape after (bytes_after_event (event_of change.why l.size c) (payload_of change.why) (bytes_of f))
      (spliced groups (first_of change.old l.groups) (length change.old) (map (stored_group place_of content len_of) (stripes_from fresh l.next)))
      (stored_group place_of content len_of (record { group = c.inode; slots = change.inode.slots }) ∷ []))
      (after_is change.why c f.level l)
      (KeepsSlots-changed now l (bytes_of f) groups inode c (size_after change.why l.size) file.slots file.cluster
      (changed now (log_of f) l groups inode c file.slots change.why ready.legal) level small
      (brought_places_differ place_of content len_of l change.why f.shape.unit l.next _ change.old change.fresh c.inode file.slots.distinct ready.free ready.holds)
      (bytes_after_event (event_of change.why l.size c) (payload_of change.why) (bytes_of f)) (size_is now (log_of f) l groups inode c file.slots change.why ready.legal)
      (map (stored_group place_of content len_of) (stripes_from fresh l.next)) (stored_group place_of content len_of (record { group = c.inode; slots = change.inode.slots })) news held.0 held.1)

  -- it keeps what holds of every file
  pub file_after : (by : By) → IsLater view f → AllByRecursion (Took content len_of (inode_bytes (new_inode_of f change))) change.inode.slots
      → IsFile place_of content len_of (switched by view change change.inode.slots f)
  file_after by later took =
      let l : Layout = layout_of f in
      let last = next_of in
      KeepsFile-note (AllTell content) f.shape f.level f.room f.notes note groups inode
      _ _ file
      (record { epoch = refl; later = epochs_up_to (log_of f) (last_epoch_of f.notes) view.epoch later file.ordered; event = ready.legal; shown = λ known. shows change.why (size_after change.why l.size) c (log_of f) })
      later below (omega (arith, last))
      (subst (λ (gs : List StoredGroup). KeepsSlots f.shape (layout_after_event f.level (event_of change.why l.size c) l) (bytes_after_event (event_of change.why l.size c) (payload_of change.why) (bytes_of f)) gs (stored_group place_of content len_of (record { group = c.inode; slots = change.inode.slots }) ∷ []))
      (sym (map-spliced (stored_group place_of content len_of) f.groups (first_of change.old l.groups) (length change.old) (stripes_from fresh l.next))) (slots_after took))
    where
      note : Note Noted
      note = record { turn = f.turns; seat = f.seat; entry = noted by view (event_of change.why (layout_of f).size c) (payload_of change.why) }

      next_of : (layout_after_event f.level (event_of change.why (layout_of f).size c) (layout_of f)).next ≤ (layout_of f).next + 257
      next_of =
          let is = next_after change.why (size_after change.why (layout_of f).size) c f.level (layout_of f) in
          let few = few_brought change.why (now_of f view) (log_of f) (layout_of f) c ready.legal in
          let long = numbered-length (new_groups (layout_of f).groups change) (layout_of f).next in
          omega (arith, is, few, long)
