-- The generations that left, when one more note is made.
use Rattle.std.proofs.Common.{◌≡◌, ℕ, ◌+◌, ◌<◌, ◌≤◌, true, if◌then◌else◌, List, [], ◌∷◌, ◌++◌, length, map, take, drop, Option, None, Some, refl, sym, ap, subst, ◌∙◌, arith}
use Rattle.std.specs.List.{AllByRecursion}
use Rattle.std.proofs.lemmas.Bool.{false≢true}
use Rattle.std.proofs.lemmas.List.{drop-map, length-map, take-map}
use Rattle.std.proofs.lemmas.Simd.{map-map}
use Rattle.flex_io.specs.declared.raw_place.RawPlace.{RawPlace}
use Rattle.domains.specs.Shape.{Shape}
use Rattle.domains.specs.Level.{Level}
use Rattle.domains.specs.declared.group.Group.{Group}
use Rattle.turn_cell.specs.declared.chronicle.Note.{Note}
use Rattle.file_history.specs.Layout.{Layout, all_groups, empty_layout, group_list, layout_after, layout_after_event, layout_from}
use Rattle.file_history.specs.declared.entry.Change.{Change}
use Rattle.file_history.specs.declared.entry.FileEvent.{FileEvent}
use Rattle.file_history.specs.declared.entry.FileEvent.TheVariants.{Created, Deleted, Written, Shown, LevelSet, Placed, Dead, Barred, Cleared, Marked, Refused}
use Rattle.file_history.specs.declared.entry.NotedEntry.{NotedEntry}
use Rattle.file_heads.specs.Heads.{is_quiet}
use Rattle.file_heads.specs.LeftGenerations.{entry_at, has_generation}
use Rattle.map_changes.specs.ChangedMaps.{first_of}
use Rattle.map_changes.proofs.Pairs.{All-drop, All-take}
use Rattle.map_switches.specs.RepairedUnits.{freed}
use Rattle.map_switches.specs.Switches.{event_of, released}
use Rattle.map_switches.specs.declared.change.Fresh.{Fresh}
use Rattle.map_switches.specs.declared.change.Fresh.TheVariants.{Groups, Units}
use Rattle.map_switches.specs.declared.change.Why.{Why}
use Rattle.map_switches.specs.declared.change.Why.TheVariants.{Write, Place as Place_}
use Rattle.striped_groups.specs.StoredGroups.{GroupSlots, StoredGroup, list_of}
use Rattle.file_core.specs.declared.noted.Noted.{Noted}
use Rattle.file_core.specs.Accounts.{groups_taken, run_replaced}
use Rattle.file_core.specs.FileInvariant.{KeepsLeft, KeepsSlots}
use Rattle.file_core.specs.LeftEntries.{left_by, left_from, takes_away}
use Rattle.file_core.specs.Notes.{told_of}
use Rattle.file_core.proofs.FileGrowth.{layout_after-note, next-quiet, told_of-push}
use Rattle.file_core.proofs.GroupLookups.{groups_of, root_of, stored}

left_from-push : (ts : List NotedEntry) (t : NotedEntry) (declared : Level) (l : Layout) (count generation number : ℕ) (before : Option ℕ)
    → number ≡ count + length ts + 1
    → left_from (ts ++ t ∷ []) declared l count generation before
    ≡ (if takes_away t.entry.event (layout_from ts declared l) generation then Some number else left_from ts declared l count generation before)
left_from-push [] t declared l count generation number before is =
    ap (λ (n : ℕ). if takes_away t.entry.event l generation then Some n else before) (omega (arith, is))
left_from-push (x ∷ xs) t declared l count generation number before is =
    left_from-push xs t declared (layout_after_event declared x.entry.event l) (count + 1) generation number
    (if takes_away x.entry.event l generation then Some (count + 1) else before) (omega (arith, is))

left_by-note : (declared : Level) (ns : List (Note Noted)) (n : Note Noted) (generation : ℕ)
    → left_by declared (told_of (ns ++ n ∷ [])) generation
    ≡ (if takes_away n.entry.told.entry.event (layout_after declared (told_of ns)) generation then Some (length ns + 1) else left_by declared (told_of ns) generation)
left_by-note declared ns n generation =
    ap (λ (log : List NotedEntry). left_by declared log generation) (told_of-push ns n)
    ∙ left_from-push (told_of ns) n.entry.told declared (empty_layout declared) 0 generation (length ns + 1) None
    (let long = length-map ns (λ (x : Note Noted). x.entry.told) in omega (arith, long))

-- what is kept after a note, where the generations that its entry takes away were taken in
pub KeepsLeft-note : (declared : Level) (ns : List (Note Noted)) (n : Note Noted) (items new : List ℕ)
    → KeepsLeft items declared (told_of ns)
    → ((g : ℕ) → entry_at new g
    ≡ (if takes_away n.entry.told.entry.event (layout_after declared (told_of ns)) g then Some (length ns + 1) else entry_at items g))
    → (layout_after_event declared n.entry.told.entry.event (layout_after declared (told_of ns))).next ≤ length new
    → AllByRecursion (λ (g : Group). g.generation < (layout_after_event declared n.entry.told.entry.event (layout_after declared (told_of ns))).next)
    (group_list (layout_after_event declared n.entry.told.entry.event (layout_after declared (told_of ns))).inode)
    → KeepsLeft new declared (told_of (ns ++ n ∷ []))
KeepsLeft-note declared ns n items new kept told long root =
    let is = sym (layout_after-note declared ns n) in record {
      entries = λ g.
          told g
          ∙ ap (λ (before : Option ℕ). if takes_away n.entry.told.entry.event (layout_after declared (told_of ns)) g then Some (length ns + 1) else before) (kept.entries g)
          ∙ sym (left_by-note declared ns n g);
      long = subst (λ (l : Layout). l.next ≤ length new) is long;
      root = subst (λ (l : Layout). AllByRecursion (λ (g : Group). g.generation < l.next) (group_list l.inode)) is root;
    }

-- what is kept where there is room for more generations
pub left_with_room : (declared : Level) (log : List NotedEntry) (items new : List ℕ) → KeepsLeft items declared log
    → ((g : ℕ) → entry_at new g ≡ entry_at items g) → length items ≤ length new → KeepsLeft new declared log
left_with_room declared log items new kept same more = record {
  entries = λ g. same g ∙ kept.entries g;
  long = let long = kept.long in omega (arith, long, more);
  root = kept.root;
}

taken-quiet : (event : FileEvent) (l : Layout) → is_quiet event ≡ true → groups_taken event l ≡ []
taken-quiet (Created g) l quiet = absurd (false≢true quiet)
taken-quiet Deleted l quiet = absurd (false≢true quiet)
taken-quiet (Written offset len size change) l quiet = absurd (false≢true quiet)
taken-quiet (Shown offset len shown) l quiet = refl
taken-quiet (LevelSet level) l quiet = refl
taken-quiet (Placed job change) l quiet = absurd (false≢true quiet)
taken-quiet (Dead generation position) l quiet = refl
taken-quiet (Barred job drives) l quiet = refl
taken-quiet (Cleared job drives) l quiet = refl
taken-quiet (Marked job count) l quiet = refl
taken-quiet (Refused why) l quiet = refl

inode-quiet : (event : FileEvent) (declared : Level) (l : Layout) → is_quiet event ≡ true → (layout_after_event declared event l).inode ≡ l.inode
inode-quiet (Created g) declared l quiet = absurd (false≢true quiet)
inode-quiet Deleted declared l quiet = absurd (false≢true quiet)
inode-quiet (Written offset len size change) declared l quiet = absurd (false≢true quiet)
inode-quiet (Shown offset len shown) declared l quiet = refl
inode-quiet (LevelSet level) declared l quiet = refl
inode-quiet (Placed job change) declared l quiet = absurd (false≢true quiet)
inode-quiet (Dead generation position) declared l quiet = refl
inode-quiet (Barred job drives) declared l quiet = refl
inode-quiet (Cleared job drives) declared l quiet = refl
inode-quiet (Marked job count) declared l quiet = refl
inode-quiet (Refused why) declared l quiet = refl

pub KeepsLeft-quiet : (declared : Level) (ns : List (Note Noted)) (n : Note Noted) (items : List ℕ) → is_quiet n.entry.told.entry.event ≡ true
    → KeepsLeft items declared (told_of ns) → KeepsLeft items declared (told_of (ns ++ n ∷ []))
KeepsLeft-quiet declared ns n items quiet kept =
    let event : FileEvent = n.entry.told.entry.event in
    let l : Layout = layout_after declared (told_of ns) in
    let next = next-quiet event declared l quiet in
    let inode = inode-quiet event declared l quiet in
    KeepsLeft-note declared ns n items items kept
    (λ g. ap (λ (gs : List Group). if has_generation g gs then Some (length ns + 1) else entry_at items g) (sym (taken-quiet event l quiet)))
    (subst (λ (m : ℕ). m ≤ length items) (sym next) kept.long)
    (subst (λ (x : ℕ × Option Group). AllByRecursion (λ (g : Group). g.generation < x.0) (group_list x.1)) (λ i. (sym next i, sym inode i)) kept.root)

-- a file that was absent and has an inode now
pub KeepsLeft-created : (declared : Level) (ns : List (Note Noted)) (n : Note Noted) (items new : List ℕ) (g : Group) → n.entry.told.entry.event ≡ Created g
    → KeepsLeft items declared (told_of ns) → ((k : ℕ) → entry_at new k ≡ entry_at items k)
    → all_groups (layout_after declared (told_of ns)) ≡ [] → g.generation < length new → KeepsLeft new declared (told_of (ns ++ n ∷ []))
KeepsLeft-created declared ns n items new g is kept same none below =
    let l : Layout = layout_after declared (told_of ns) in
    KeepsLeft-note declared ns n items new kept
    (λ k. same k ∙ ap (λ (gs : List Group). if has_generation k gs then Some (length ns + 1) else entry_at items k) (sym (ap (λ (e : FileEvent). groups_taken e l) is ∙ none)))
    (subst (λ (e : FileEvent). (layout_after_event declared e l).next ≤ length new) (sym is) (omega (arith, below)))
    (subst (λ (e : FileEvent). AllByRecursion (λ (h : Group). h.generation < (layout_after_event declared e l).next) (group_list (layout_after_event declared e l).inode))
    (sym is) (omega arith, tt))

-- a file whose groups and inode left
pub KeepsLeft-deleted : (declared : Level) (ns : List (Note Noted)) (n : Note Noted) (items new : List ℕ) (gone : List Group) → n.entry.told.entry.event ≡ Deleted
    → KeepsLeft items declared (told_of ns)
    → ((k : ℕ) → entry_at new k ≡ (if has_generation k gone then Some (length ns + 1) else entry_at items k))
    → gone ≡ all_groups (layout_after declared (told_of ns)) → length new ≡ length items → KeepsLeft new declared (told_of (ns ++ n ∷ []))
KeepsLeft-deleted declared ns n items new gone is kept left all long =
    let l : Layout = layout_after declared (told_of ns) in
    let some = kept.long in
    KeepsLeft-note declared ns n items new kept
    (λ k. left k ∙ ap (λ (gs : List Group). if has_generation k gs then Some (length ns + 1) else entry_at items k) (all ∙ ap (λ (e : FileEvent). groups_taken e l) (sym is)))
    (subst (λ (e : FileEvent). (layout_after_event declared e l).next ≤ length new) (sym is) (omega (arith, some, long)))
    (subst (λ (e : FileEvent). AllByRecursion (λ (h : Group). h.generation < (layout_after_event declared e l).next) (group_list (layout_after_event declared e l).inode))
    (sym is) tt)

taken-change : (why : Why) (size : ℕ) (change : Change) (l : Layout) → groups_taken (event_of why size change) l ≡ run_replaced change.old l.groups ++ group_list l.inode
taken-change (Write offset bytes) size change l = refl
taken-change (Place_ job) size change l = refl

next-change : (why : Why) (size : ℕ) (change : Change) (declared : Level) (l : Layout)
    → (layout_after_event declared (event_of why size change) l).next ≡ change.inode.generation + 1
next-change (Write offset bytes) size change declared l = refl
next-change (Place_ job) size change declared l = refl

inode-change : (why : Why) (size : ℕ) (change : Change) (declared : Level) (l : Layout)
    → (layout_after_event declared (event_of why size change) l).inode ≡ Some change.inode
inode-change (Write offset bytes) size change declared l = refl
inode-change (Place_ job) size change declared l = refl

-- a file whose map was changed: a run of its groups and its inode left
pub KeepsLeft-changed : (declared : Level) (ns : List (Note Noted)) (n : Note Noted) (items new : List ℕ) (gone : List Group) (why : Why) (size : ℕ) (change : Change)
    → n.entry.told.entry.event ≡ event_of why size change → KeepsLeft items declared (told_of ns)
    → ((k : ℕ) → entry_at new k ≡ (if has_generation k gone then Some (length ns + 1) else entry_at items k))
    → gone ≡ run_replaced change.old (layout_after declared (told_of ns)).groups ++ group_list (layout_after declared (told_of ns)).inode
    → change.inode.generation + 1 ≤ length new → KeepsLeft new declared (told_of (ns ++ n ∷ []))
KeepsLeft-changed declared ns n items new gone why size change is kept left run long =
    let l : Layout = layout_after declared (told_of ns) in
    KeepsLeft-note declared ns n items new kept
    (λ k.
    left k
    ∙ ap (λ (gs : List Group). if has_generation k gs then Some (length ns + 1) else entry_at items k)
    (run ∙ sym (taken-change why size change l) ∙ ap (λ (e : FileEvent). groups_taken e l) (sym is)))
    (subst (λ (m : ℕ). m ≤ length new) (sym (ap (λ (e : FileEvent). (layout_after_event declared e l).next) is ∙ next-change why size change declared l)) long)
    (subst (λ (x : ℕ × Option Group). AllByRecursion (λ (g : Group). g.generation < x.0) (group_list x.1))
    (λ i. (
      sym (ap (λ (e : FileEvent). (layout_after_event declared e l).next) is ∙ next-change why size change declared l) i,
      sym (ap (λ (e : FileEvent). (layout_after_event declared e l).inode) is ∙ inode-change why size change declared l) i,
    ))
    (omega arith, tt))

-- a group is released as a whole, whatever slots of it stay
released_groups : {S : Type 0} (run : List (GroupSlots S)) (fresh : Fresh S)
    → map (λ (s : GroupSlots S). s.group) (released run fresh) ≡ map (λ (s : GroupSlots S). s.group) run
released_groups run (Groups gs) = refl
released_groups run (Units us) = map-map (λ (s : GroupSlots _). s.group) (freed us) run

all_released : {S : Type 0} (long : ℕ) (run : List (GroupSlots S)) (fresh : Fresh S) → AllByRecursion (λ (s : GroupSlots S). s.group.generation < long) run
    → AllByRecursion (λ (s : GroupSlots S). s.group.generation < long) (released run fresh)
all_released long run (Groups gs) all = all
all_released long [] (Units us) all = tt
all_released long (x ∷ xs) (Units us) all = (all.0, all_released long xs (Units us) all.1)

module _ {S : Type 0} (place_of : S → RawPlace) (content : S → Option (List ℕ)) (len_of : S → ℕ) where
  below : (n m : ℕ) (gs : List (GroupSlots S)) → n ≤ m → AllByRecursion (λ (g : Group). g.generation < n) (map (λ (s : GroupSlots S). s.group) gs)
      → AllByRecursion (λ (s : GroupSlots S). s.group.generation < m) gs
  below n m [] less all = tt
  below n m (g ∷ gs) less all = (let here : g.group.generation < n = all.0 in omega (arith, here, less), below n m gs less all.1)

  -- the generations of a file's groups have a place
  pub known_groups : (shape : Shape) (level : Level) (log : List NotedEntry) (bytes : List ℕ) (gs : List (GroupSlots S)) (inode : List StoredGroup) (items : List ℕ)
      → KeepsSlots shape (layout_after level log) bytes (stored place_of content len_of gs) inode → KeepsLeft items level log
      → AllByRecursion (λ (s : GroupSlots S). s.group.generation < length items) gs
  known_groups shape level log bytes gs inode items kept left =
      let l : Layout = layout_after level log in
      below l.next (length items) gs left.long
      (subst (AllByRecursion (λ (g : Group). g.generation < l.next)) (sym (groups_of place_of content len_of shape l bytes gs inode kept)) kept.used)

  -- and so has the inode's
  pub known_root : (shape : Shape) (level : Level) (log : List NotedEntry) (bytes : List ℕ) (groups : List StoredGroup) (inode : Option (GroupSlots S)) (s : GroupSlots S)
      (items : List ℕ) → KeepsSlots shape (layout_after level log) bytes groups (stored place_of content len_of (list_of inode)) → KeepsLeft items level log
      → inode ≡ Some s → s.group.generation < length items
  known_root shape level log bytes groups inode s items kept left is =
      let l : Layout = layout_after level log in
      let root = root_of place_of content len_of shape l bytes groups inode kept ∙ refl in
      (below l.next (length items) (s ∷ []) left.long
      (subst (AllByRecursion (λ (g : Group). g.generation < l.next))
      (sym root ∙ ap (λ (o : Option (GroupSlots S)). map (λ (x : GroupSlots S). x.group) (list_of o)) is) left.root)).0

  -- all groups of a file, and its inode
  pub all_are : (shape : Shape) (l : Layout) (bytes : List ℕ) (gs : List (GroupSlots S)) (inode : Option (GroupSlots S)) (s : GroupSlots S)
      → KeepsSlots shape l bytes (stored place_of content len_of gs) (stored place_of content len_of (list_of inode)) → inode ≡ Some s
      → map (λ (x : GroupSlots S). x.group) gs ++ s.group ∷ [] ≡ all_groups l
  all_are shape l bytes gs inode s kept is =
      let groups = groups_of place_of content len_of shape l bytes gs (stored place_of content len_of (list_of inode)) kept in
      let root =
      sym (ap (λ (o : Option (GroupSlots S)). map (λ (x : GroupSlots S). x.group) (list_of o)) is)
      ∙ root_of place_of content len_of shape l bytes (stored place_of content len_of gs) inode kept in λ i. groups i ++ root i

  -- a run of a file's groups, and its inode
  pub run_is : (shape : Shape) (l : Layout) (bytes : List ℕ) (gs gone : List (GroupSlots S)) (inode : Option (GroupSlots S)) (s : GroupSlots S) (old : List ℕ) (fresh : Fresh S)
      → KeepsSlots shape l bytes (stored place_of content len_of gs) (stored place_of content len_of (list_of inode)) → inode ≡ Some s
      → gone ≡ released (take (length old) (drop (first_of old l.groups) gs)) fresh
      → map (λ (x : GroupSlots S). x.group) gone ++ s.group ∷ [] ≡ run_replaced old l.groups ++ group_list l.inode
  run_is shape l bytes gs gone inode s old fresh kept is run =
      let groups = groups_of place_of content len_of shape l bytes gs (stored place_of content len_of (list_of inode)) kept in
      let root =
      sym (ap (λ (o : Option (GroupSlots S)). map (λ (x : GroupSlots S). x.group) (list_of o)) is)
      ∙ root_of place_of content len_of shape l bytes (stored place_of content len_of gs) inode kept in
      let mapped =
      ap (map (λ (x : GroupSlots S). x.group)) run
      ∙ released_groups (take (length old) (drop (first_of old l.groups) gs)) fresh
      ∙ sym (take-map (λ (x : GroupSlots S). x.group) (length old) (drop (first_of old l.groups) gs))
      ∙ ap (take (length old)) (sym (drop-map (λ (x : GroupSlots S). x.group) (first_of old l.groups) gs) ∙ ap (drop (first_of old l.groups)) groups) in λ i. mapped i ++ root i

-- a run of groups whose generations have a place
pub known_run : {S : Type 0} (gs gone : List (GroupSlots S)) (fresh : Fresh S) (count first long : ℕ) → gone ≡ released (take count (drop first gs)) fresh
    → AllByRecursion (λ (s : GroupSlots S). s.group.generation < long) gs → AllByRecursion (λ (s : GroupSlots S). s.group.generation < long) gone
known_run gs gone fresh count first long is all =
    let below : GroupSlots _ → Type 0 = λ s. s.group.generation < long in
    subst (AllByRecursion below) (sym is) (all_released long (take count (drop first gs)) fresh (All-take below count (drop first gs) (All-drop below first gs all)))
