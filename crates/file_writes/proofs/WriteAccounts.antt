-- The account of an actor with a file that it wrote: what it placed is the file's, and what it replaced went back.
use Rattle.std.proofs.Common.{◌≡◌, ℕ, zero, suc, ◌+◌, ◌*◌, true, List, [], ◌∷◌, ◌++◌, length, map, take, drop, Option, Some, refl, sym, ap, subst, ◌∙◌, arith, append-nil}
use Rattle.std.specs.List.{AllByRecursion, count_by}
use Rattle.std.proofs.lemmas.Grind.{flat_map-append}
use Rattle.std.proofs.lemmas.List.{map-append}
use Rattle.board.specs.declared.board_view.View.{View}
use Rattle.domains.specs.Drive.{Drive}
use Rattle.domains.specs.Place.{Place}
use Rattle.domains.specs.Shape.{Shape, is_of}
use Rattle.domains.specs.declared.by.By.{By}
use Rattle.domains.specs.declared.group.Group.{Group}
use Rattle.domains.proofs.CountLemmas.{count_by-append, count_by-cons}
use Rattle.fabric.specs.Accounts.{Holds, Stays}
use Rattle.fabric.specs.Cells.{FabricView}
use Rattle.fabric.specs.declared.hand.Hand.{Hand}
use Rattle.file_core.specs.Accounts.{groups_placed, groups_taken, units_at}
use Rattle.file_core.specs.FileView.{FileView, IsFile, layout_of}
use Rattle.file_core.specs.Notes.{noted}
use Rattle.file_core.specs.declared.noted.Noted.{Noted}
use Rattle.file_core.specs.declared.switch.Switched.{Switched}
use Rattle.file_history.specs.Layout.{Layout, group_list, places_of}
use Rattle.file_turns.specs.FileTurns.{terms_of}
use Rattle.file_turns.specs.PathAccounts.{KeepsAccount, on_drive}
use Rattle.file_turns.specs.Paths.{SeesBoard}
use Rattle.file_turns.proofs.FileTurnLemmas.{NotesOne}
use Rattle.file_turns.proofs.PathAccountLemmas.{account_noted, holds_looked}
use Rattle.file_writes.specs.WriteTries.{SwitchesPlaced, change_of, spin_of}
use Rattle.flex_io.specs.declared.raw_place.RawPlace.{RawPlace}
use Rattle.held_slots.specs.Slots.{count_on, place_from, places_from}
use Rattle.map_changes.specs.ChangedMaps.{first_of}
use Rattle.map_switches.specs.Switches.{event_of, groups_of, logged, numbered, payload_of}
use Rattle.map_switches.specs.declared.change.MapChange.{MapChange}
use Rattle.placed_runs.specs.PlacedRuns.{HoldsLess, PlacesRun, slots_of_groups}
use Rattle.placed_runs.specs.declared.terms.RunTerms.{RunTerms}
use Rattle.range_writes.specs.PulledWrites.{ReadsSlots}
use Rattle.striped_groups.specs.StoredGroups.{GroupSlots, StandsThere, StoredGroup, list_of, stored_group}
use Rattle.write_plans.specs.declared.plan.WritePlan.{WritePlan}

-- other generations leave the places as they are
numbered_places : (gs : List Group) (next : ℕ) → places_of (numbered gs next) ≡ places_of gs
numbered_places [] next = refl
numbered_places (g ∷ gs) next = ap (λ (l : List Place). g.places ++ l) (numbered_places gs (next + 1))

take-map : {A B : Type 0} (f : A → B) (n : ℕ) (xs : List A) → take n (map f xs) ≡ map f (take n xs)
take-map f zero [] = refl
take-map f zero (x ∷ xs) = refl
take-map f (suc n) [] = refl
take-map f (suc n) (x ∷ xs) = ap (λ l. f x ∷ l) (take-map f n xs)

drop-map : {A B : Type 0} (f : A → B) (n : ℕ) (xs : List A) → drop n (map f xs) ≡ map f (drop n xs)
drop-map f zero [] = refl
drop-map f zero (x ∷ xs) = refl
drop-map f (suc n) [] = refl
drop-map f (suc n) (x ∷ xs) = drop-map f n xs

all-take : {A : Type 0} (P : A → Type 0) (n : ℕ) (xs : List A) → AllByRecursion P xs → AllByRecursion P (take n xs)
all-take P zero [] all = tt
all-take P zero (x ∷ xs) all = tt
all-take P (suc n) [] all = tt
all-take P (suc n) (x ∷ xs) all = (all.0, all-take P n xs all.1)

all-drop : {A : Type 0} (P : A → Type 0) (n : ℕ) (xs : List A) → AllByRecursion P xs → AllByRecursion P (drop n xs)
all-drop P zero [] all = tt
all-drop P zero (x ∷ xs) all = all
all-drop P (suc n) [] all = tt
all-drop P (suc n) (x ∷ xs) all = all-drop P n xs all.1

module _ {S : Type 0} (place_of : S → RawPlace) where
  abbrev pub at : S → Place
  at slot = place_from (place_of slot)

  -- as many slots as places of slots are on the drive
  count_places : (d : Drive) (slots : List S) → count_by (on_drive d) (places_from place_of slots) ≡ count_on place_of d slots
  count_places d [] = refl
  count_places d (x ∷ xs) =
      let rest = count_places d xs in
      let one = count_by-cons (on_drive d) (at x) (places_from place_of xs) in
      let two = count_by-cons (λ slot. on_drive d (at slot)) x xs in
      omega (arith, rest, one, two)

  count-append : (d : Drive) (xs ys : List S) → count_on place_of d (xs ++ ys) ≡ count_on place_of d xs + count_on place_of d ys
  count-append d xs ys = count_by-append (λ slot. on_drive d (at slot)) xs ys

  -- the slots of groups that stand at their places
  standing : (gs : List (GroupSlots S)) → AllByRecursion (λ (g : GroupSlots S). places_from place_of g.slots ≡ g.group.places) gs → places_from place_of (slots_of_groups gs) ≡ places_of (groups_of gs)
  standing [] all = refl
  standing (g ∷ gs) all = map-append at g.slots (slots_of_groups gs) ∙ ap (λ (l : List Place). l ++ places_from place_of (slots_of_groups gs)) all.0
      ∙ ap (λ (l : List Place). g.group.places ++ l) (standing gs all.1)

  module _ (content : S → Option (List ℕ)) (len_of : S → ℕ) where
    abbrev stored : GroupSlots S → StoredGroup
    stored = stored_group place_of content len_of

    stand-there : (gs : List (GroupSlots S)) → AllByRecursion StandsThere (map stored gs) → AllByRecursion (λ (g : GroupSlots S). places_from place_of g.slots ≡ g.group.places) gs
    stand-there [] all = tt
    stand-there (g ∷ gs) all = (all.0.places, stand-there gs all.1)

    groups-stored : (gs : List (GroupSlots S)) → map (λ (g : StoredGroup). g.group) (map stored gs) ≡ groups_of gs
    groups-stored [] = refl
    groups-stored (g ∷ gs) = ap (λ (l : List Group). g.group ∷ l) (groups-stored gs)

    module _ (faults : S → ℕ) (t : RunTerms) (shape : Shape) (bytes : List ℕ) where
      -- the hand gained what was placed
      run-gains : (chunks : List ℕ) (spin from : ℕ) (groups : List (GroupSlots S)) (inode : GroupSlots S) (old new : Hand S) → PlacesRun place_of content len_of faults t shape spin bytes from chunks groups inode old new
          → (d : Drive) (many : ℕ) → is_of shape d ≡ true → Holds shape d many old → Holds shape d (many + count_on place_of d (slots_of_groups groups ++ inode.slots)) new
      run-gains [] spin from [] inode old new run d many of holds =
          let same = run.asks.shape_is in
          subst (λ (c : Shape). Holds c d (many + count_on place_of d inode.slots) new) same
          (run.drawn.drew.account d many (subst (λ (c : Shape). is_of c d ≡ true) (sym same) of) (subst (λ (c : Shape). Holds c d many old) (sym same) holds))
      run-gains [] spin from (g ∷ gs) inode old new run d many of holds = absurd run
      run-gains (n ∷ ns) spin from [] inode old new run d many of holds = absurd run
      run-gains (n ∷ ns) spin from (g ∷ gs) inode old new run d many of holds =
          let same = run.1.asks.shape_is in
          let here = subst (λ (c : Shape). Holds c d (many + count_on place_of d g.slots) run.0) same
          (run.1.placed.account d many (subst (λ (c : Shape). is_of c d ≡ true) (sym same) of) (subst (λ (c : Shape). Holds c d many old) (sym same) holds)) in
          let rest = run-gains ns (spin + 1) (from + n * t.unit) gs inode run.0 new run.2 d (many + count_on place_of d g.slots) of here in
          let one = count-append d g.slots (slots_of_groups gs) in
          let both = count-append d (g.slots ++ slots_of_groups gs) inode.slots in
          let less = count-append d (slots_of_groups gs) inode.slots in
          subst (λ (k : ℕ). Holds shape d k new)
          (let sum : many + count_on place_of d g.slots + count_on place_of d (slots_of_groups gs ++ inode.slots) ≡ many + count_on place_of d ((g.slots ++ slots_of_groups gs) ++ inode.slots) = omega (arith, one, both, less) in sum)
          rest

      -- what was placed stands at its places
      run-stands : (chunks : List ℕ) (spin from : ℕ) (groups : List (GroupSlots S)) (inode : GroupSlots S) (old new : Hand S) → PlacesRun place_of content len_of faults t shape spin bytes from chunks groups inode old new
          → AllByRecursion (λ (g : GroupSlots S). places_from place_of g.slots ≡ g.group.places) groups × (places_from place_of inode.slots ≡ inode.group.places)
      run-stands [] spin from [] inode old new run = (tt, sym (ap (λ (g : Group). g.places) run.group))
      run-stands [] spin from (g ∷ gs) inode old new run = absurd run
      run-stands (n ∷ ns) spin from [] inode old new run = absurd run
      run-stands (n ∷ ns) spin from (g ∷ gs) inode old new run =
          let rest = run-stands ns (spin + 1) (from + n * t.unit) gs inode run.0 new run.2 in
          ((sym (ap (λ (x : Group). x.places) run.1.group), rest.0), rest.1)

    -- what a change takes away of a file is what it hands out
    taken-count : (x : FileView S) (d : Drive) (old : List ℕ) (root : GroupSlots S) → IsFile place_of content len_of x → Some root ≡ x.inode
        → count_on place_of d (slots_of_groups (take (length old) (drop (first_of old (layout_of x).groups) x.groups)) ++ root.slots)
        ≡ units_at (on_drive d) (take (length old) (drop (first_of old (layout_of x).groups) (layout_of x).groups) ++ group_list (layout_of x).inode)
    taken-count x d old root is some =
        let l = layout_of x in
        let k = first_of old l.groups in
        let run = take (length old) (drop k x.groups) in
        let mapped : groups_of x.groups ≡ l.groups = sym (groups-stored x.groups) ∙ is.slots.mapped in
        let stands = all-take _ (length old) (drop k x.groups) (all-drop _ k x.groups (stand-there x.groups is.slots.stands)) in
        let groups : groups_of run ≡ take (length old) (drop k l.groups) =
        sym (take-map (λ (g : GroupSlots S). g.group) (length old) (drop k x.groups)) ∙ ap (take (length old)) (sym (drop-map (λ (g : GroupSlots S). g.group) k x.groups))
        ∙ ap (λ (gs : List Group). take (length old) (drop k gs)) mapped in
        let roots : list_of x.inode ≡ root ∷ [] = ap list_of (sym some) in
        let root_stands = stand-there (root ∷ []) (subst (λ (gs : List (GroupSlots S)). AllByRecursion StandsThere (map stored gs)) roots is.slots.root_stands) in
        let root_is : root.group ∷ [] ≡ group_list l.inode = sym (groups-stored (root ∷ [])) ∙ ap (λ (gs : List (GroupSlots S)). map (λ (g : StoredGroup). g.group) (map stored gs)) (sym roots) ∙ is.slots.root in
        let places : places_from place_of (slots_of_groups run ++ root.slots) ≡ places_of (take (length old) (drop k l.groups) ++ group_list l.inode) =
        map-append at (slots_of_groups run) root.slots
        ∙ (λ i. standing run stands i ++ root_stands.0 i)
        ∙ (λ i. places_of (groups i) ++ sym (append-nil root.group.places) i)
        ∙ (λ i. places_of (take (length old) (drop k l.groups)) ++ places_of (root_is i))
        ∙ sym (flat_map-append (λ (g : Group). g.places) (take (length old) (drop k l.groups)) (group_list l.inode)) in
        sym (count_places d (slots_of_groups run ++ root.slots)) ∙ ap (count_by (on_drive d)) places

module _ {S : Type 0} (place_of : S → RawPlace) (content : S → Option (List ℕ)) (len_of faults : S → ℕ) (by : By) (t : RunTerms) (plan : WritePlan) (offset : ℕ) (payload : List ℕ)
    (x read y : FileView S) (done : Switched S) (tried between : Hand S) (reads : ReadsSlots place_of content len_of x read) (is : IsFile place_of content len_of read)
    (made : SwitchesPlaced place_of content len_of faults by t plan offset payload read y done tried between) where
  abbrev change : MapChange S
  change = change_of read t plan offset payload made.groups made.inode

  -- the note of the write
  abbrev pub written_note : Noted
  written_note = noted by t.view (event_of change.why (layout_of read).size (logged (layout_of read) change)) (payload_of change.why)

  -- it is all that the file notes
  pub written_one : NotesOne written_note x y
  written_one =
      let file = made.switched.file in
      let of_read : NotesOne written_note read y = record {
        turns = ap (λ (f : FileView S). f.turns) file;
        notes = ap (λ (f : FileView S). f.notes) file;
        terms = ap terms_of file;
      } in
      let moved = subst (λ (r : FileView S). NotesOne written_note r y) reads.kept of_read in
      record { turns = moved.turns; notes = moved.notes; terms = moved.terms }

  abbrev gained : List S
  gained = slots_of_groups made.groups ++ made.inode.slots

  abbrev lost : List S
  lost = slots_of_groups done.groups ++ done.inode.slots

  layout_same : layout_of read ≡ layout_of x
  layout_same = ap layout_of reads.kept

  placed-count : (d : Drive) → count_on place_of d gained ≡ units_at (on_drive d) (groups_placed written_note.told.entry.event)
  placed-count d =
      let l = layout_of read in
      let news = numbered (groups_of made.groups) l.next in
      let stands = run-stands place_of content len_of faults t read.shape made.placed.bytes plan.chunks (spin_of read) 0 made.groups made.inode tried between made.placed.placed in
      let places : places_from place_of gained ≡ places_of (news ++ (logged l change).inode ∷ []) =
      map-append (at place_of) (slots_of_groups made.groups) made.inode.slots
      ∙ (λ i. standing place_of made.groups stands.0 i ++ stands.1 i)
      ∙ (λ i. sym (numbered_places (groups_of made.groups) l.next) i ++ sym (append-nil made.inode.group.places) i)
      ∙ sym (flat_map-append (λ (g : Group). g.places) news ((logged l change).inode ∷ [])) in
      sym (count_places place_of d gained) ∙ ap (count_by (on_drive d)) places

  lost-count : (d : Drive) → count_on place_of d lost ≡ units_at (on_drive d) (groups_taken written_note.told.entry.event (layout_of x))
  lost-count d =
      ap (λ (gs : List (GroupSlots S)). count_on place_of d (slots_of_groups gs ++ done.inode.slots)) made.switched.groups
      ∙ taken-count place_of content len_of read d plan.old done.inode is made.switched.inode
      ∙ ap (λ (l : Layout). units_at (on_drive d) (groups_taken written_note.told.entry.event l)) layout_same

  -- the account is as it was
  pub written_account : (f : FabricView) (least : ℕ) (view : View) (old looked new : Hand S) → x.shape ≡ f.shape → SeesBoard f least view old looked → Stays f.shape looked tried
      → HoldsLess place_of f.shape lost between new → KeepsAccount f.shape x.seat x y old new
  written_account f least view old looked new shape sees stays less = record {
    each = λ d many of account.
        let gain = count_on place_of d gained in
        let lose = count_on place_of d lost in
        let same : read.shape ≡ f.shape = ap (λ (r : FileView S). r.shape) reads.kept ∙ shape in
        let in_even = placed-count d in
        let out_even = lost-count d in
        account_noted f.shape d many written_note x y old new gain lose written_one
        (λ held holds.
        let begun = stays d (held + lose) of (holds_looked f least view f.shape d (held + lose) old looked sees holds) in
        let placed = run-gains place_of content len_of faults t read.shape made.placed.bytes plan.chunks (spin_of read) 0 made.groups made.inode tried between made.placed.placed d (held + lose)
        (subst (λ (c : Shape). is_of c d ≡ true) (sym same) of) (subst (λ (c : Shape). Holds c d (held + lose) tried) (sym same) begun) in
        less.each d (held + gain) of
        (subst (λ (k : ℕ). Holds f.shape d k between) (let sum : held + lose + gain ≡ held + gain + lose = omega arith in sum)
        (subst (λ (c : Shape). Holds c d (held + lose + gain) between) same placed)))
        (omega (arith, in_even, out_even)) account;
  }
