-- The slots of the files at the end of a run, and all that go back.
use Rattle.std.proofs.Common.{◌≡◌, ℕ, suc, ◌+◌, ◌*◌, ◌%◌, ◌^◌, ◌<◌, ◌≤◌, List, [], ◌∷◌, ◌++◌, length, map, Option, Some, slice_get, Ok, refl, sym, ap, subst, ◌∙◌, arith}
use Rattle.std.specs.Prelude.{unwrap_or}
use Rattle.std.specs.List.{AllByRecursion, count_by, flat_map, sum}
use Rattle.std.specs.Option.{option_map}
use Rattle.std.proofs.lemmas.Grind.{flat_map-append}
use Rattle.std.proofs.lemmas.List.{map-append}
use Rattle.std.proofs.lemmas.Option.{slice_get-map, slice_get_within}
use Rattle.actor_operations.specs.Entries.{board_of}
use Rattle.board.specs.History.{log_of}
use Rattle.board_history.specs.declared.entry.BoardEntry.{BoardEntry}
use Rattle.domains.specs.Drive.{Drive}
use Rattle.domains.specs.Place.{Place}
use Rattle.domains.specs.Shape.{Shape}
use Rattle.domains.specs.declared.by.By.{By}
use Rattle.domains.specs.declared.group.Group.{Group}
use Rattle.domains.proofs.CountLemmas.{count_by-append}
use Rattle.fabric.specs.declared.hand.Hand.{Hand}
use Rattle.file_cells.specs.FileEnds.{slots_in, slots_of_files}
use Rattle.file_cells.specs.OpenFiles.{entries_of, state_of}
use Rattle.file_cells.specs.declared.open_file.OpenFile.{OpenFile}
use Rattle.file_cells.proofs.StandingSlots.{slots_stand}
use Rattle.file_core.specs.FileView.{FileView, IsFile, bytes_of, layout_of, log_of as noted_log_of}
use Rattle.file_core.specs.StoredPlaces.{content_at, slots_of, told_bytes}
use Rattle.file_core.proofs.StoredPlacesLemmas.{all_told, places_hold_the_file}
use Rattle.file_history.specs.Bytes.{bytes_after}
use Rattle.file_history.specs.Layout.{Layout, all_groups, group_list, layout_after, places_of}
use Rattle.file_history.specs.Laws.{LeavesEnough}
use Rattle.file_history.specs.Stored.{IsDetermined, IsStored}
use Rattle.file_history.specs.World.{moment_at}
use Rattle.file_history.proofs.DeterminedByLiveUnits.{all_left, all_right, determined}
use Rattle.file_history.proofs.KnownContents.{told_stored}
use Rattle.file_history.proofs.RootedLayouts.{layout_rooted}
use Rattle.file_history.specs.declared.entry.FileEntry.{FileEntry}
use Rattle.file_history.specs.declared.entry.NotedEntry.{NotedEntry}
use Rattle.file_turns.specs.PathAccounts.{on_drive}
use Rattle.flex_io.specs.declared.raw_place.RawPlace.{RawPlace}
use Rattle.held_slots.specs.Slots.{count_on, place_from, places_from}
use Rattle.legal_runs.specs.Entries.{world_in}
use Rattle.legal_runs.specs.Operations.{noted_entries}
use Rattle.noted_runs.proofs.NotedEntries.{noted-all}
use Rattle.returned_slots.specs.RackStates.{RackState, RisesBy}
use Rattle.returned_slots.specs.Returns.{ComesBack, free_slots}
use Rattle.returned_slots.proofs.FreeCounts.{have_all_slots}
use Rattle.scenario.specs.declared.scenario.FileDecl.{FileDecl}
use Rattle.serial_runs.proofs.OrderedOperations.{count-map}
use Rattle.striped_groups.specs.StoredGroups.{AllTell, list_of}
use Rattle.whole_scenario.specs.declared.whole.Scenario.{Scenario}
use Rattle.serial_play.specs.PlayedRuns.{IsPlayed, IsPlayedFile, file_units, units_on}
use Rattle.serial_play.specs.Outcomes.{EndsCells}
use Rattle.serial_play.specs.RunEnds.{HoldsFile, ReturnsSlots, layout_in}
use Rattle.serial_play.proofs.DriveUnits.{drive-places}
use Rattle.serial_play.proofs.PlayedActions.{element_within, length-map}

-- the element of a list, by that of its image
pub image-at : {A B : Type 0} (g : A → B) (xs : List A) (i : ℕ) (x : A) (y : B) → slice_get xs i ≡ Some x → slice_get (map g xs) i ≡ Some y → g x ≡ y
image-at g xs i x y there image = ap (λ (o : Option _). unwrap_or o y) (sym (ap (λ (o : Option _). option_map g o) there) ∙ sym (slice_get-map g xs i) ∙ image)

module _ {S : Type 0} (place_of : S → RawPlace) (content : S → Option (List ℕ)) (len_of : S → ℕ) where
  abbrev at : S → Place
  at slot = place_from (place_of slot)

  -- the slots of a file stand at the places of its layout
  file-places : (f : FileView S) → IsFile place_of content len_of f → places_from place_of (slots_of f) ≡ places_of (all_groups (layout_of f))
  file-places f is =
      let stand = slots_stand place_of content len_of f is in
      let l = layout_of f in
      map-append at (slots_in f.groups) (slots_in (list_of f.inode)) ∙ (λ i. stand.0 i ++ stand.1 i) ∙ sym (flat_map-append (λ (g : Group). g.places) l.groups (group_list l.inode))

  -- as many slots of a file as units stand on a drive
  file-count : (d : Drive) (f : FileView S) → IsFile place_of content len_of f → count_on place_of d (slots_of f) ≡ file_units d f
  file-count d f is = sym (count-map at (on_drive d) (slots_of f)) ∙ ap (count_by (on_drive d)) (file-places f is)

  abbrev IsStateFile : OpenFile S → Type 0
  IsStateFile f = IsFile place_of content len_of (state_of f)

  files-count : (d : Drive) (files : List (OpenFile S)) → AllByRecursion IsStateFile files → count_on place_of d (slots_of_files files) ≡ units_on d files
  files-count d [] all = refl
  files-count d (f ∷ fs) all =
      let here = file-count d (state_of f) all.0 in
      let rest = files-count d fs all.1 in
      let both = count_by-append (λ slot. on_drive d (at slot)) (slots_of (state_of f)) (slots_of_files fs) in
      omega (arith, here, rest, both)

  file-few : (d : Drive) (f : FileView S) → IsFile place_of content len_of f → file_units d f ≤ 4096
  file-few d f is =
      let few = drive-places f.shape d (places_of (all_groups (layout_of f))) is.slots.distinct is.slots.within in
      let most = is.cluster.slots in
      omega (arith, few, most)

  files-few : (d : Drive) (files : List (OpenFile S)) → AllByRecursion IsStateFile files → units_on d files ≤ length files * 4096
  files-few d [] all = omega arith
  files-few d (f ∷ fs) all =
      let here = file-few d (state_of f) all.0 in
      let rest = files-few d fs all.1 in
      let longer : length (f ∷ fs) * 4096 ≡ length fs * 4096 + 4096 = omega arith in
      omega (arith, here, rest, longer)

  all-from : (P : OpenFile S → Type 0) (files : List (OpenFile S)) → ((i : ℕ) (f : OpenFile S) → slice_get files i ≡ Some f → P f) → AllByRecursion P files
  all-from P [] each = tt
  all-from P (f ∷ fs) each = (each 0 f refl, all-from P fs (λ i g there. each (suc i) g there))

  module _ (s : Scenario) (board : List BoardEntry) (number : ℕ) (declared : FileDecl) (f : FileView S) (is : IsPlayedFile place_of content len_of s board number declared f) where
    told : noted_log_of f ≡ noted_entries s (entries_of f)
    told = noted-all s board number f.notes is.notes

    pub layout-is : layout_of f ≡ layout_in s declared (entries_of f)
    layout-is = λ i. layout_after (is.level_is i) (told i)

    stores : IsStored (content_at place_of content (slots_of f)) s.shape.unit (layout_in s declared (entries_of f)) (bytes_after (noted_entries s (entries_of f)))
    stores =
        subst (λ (l : List NotedEntry). IsStored (content_at place_of content (slots_of f)) s.shape.unit (layout_in s declared (entries_of f)) (bytes_after l)) told
        (subst (λ (l : Layout). IsStored (content_at place_of content (slots_of f)) s.shape.unit l (bytes_of f)) layout-is
        (subst (λ (x : Shape). IsStored (content_at place_of content (slots_of f)) x.unit (layout_of f) (bytes_of f)) is.shape_is (places_hold_the_file place_of content len_of f is.file)))

    -- what the slots of a played file tell determines it where enough is live
    determines : (epoch : ℕ) → AllTell content → LeavesEnough (moment_at (world_in s board declared) epoch) (layout_in s declared (entries_of f))
        → IsDetermined (moment_at (world_in s board declared) epoch) (λ p. told_bytes (content_at place_of content (slots_of f) p)) (layout_in s declared (entries_of f)) (bytes_after (noted_entries s (entries_of f)))
    determines epoch tell enough =
        let l = layout_in s declared (entries_of f) in
        let bytes = bytes_after (noted_entries s (entries_of f)) in
        let tells = content_at place_of content (slots_of f) in
        let T : Place → Type 0 = λ p. tells p ≡ Some (told_bytes (tells p)) in
        let all = all_told place_of content len_of f.shape (layout_of f) (bytes_of f) f.groups (list_of f.inode) is.file.slots tell in
        let told_all : AllByRecursion T (places_of l.groups ++ places_of (group_list l.inode)) =
        subst (AllByRecursion T) (flat_map-append (λ (g : Group). g.places) l.groups (group_list l.inode)) (subst (λ (x : Layout). AllByRecursion T (places_of (all_groups x))) layout-is all) in
        determined (moment_at (world_in s board declared) epoch) (λ p. told_bytes (tells p)) l bytes (layout_rooted declared.level (noted_entries s (entries_of f)))
        (told_stored tells (λ p. told_bytes (tells p)) s.shape.unit l bytes (all_left T (places_of l.groups) (places_of (group_list l.inode)) told_all)
        (all_right T (places_of l.groups) (places_of (group_list l.inode)) told_all) stores) enough

    -- the slots of a played file hold it
    pub holds-file : HoldsFile place_of content s board declared (entries_of f) (slots_of f)
    holds-file = record {
      places = file-places f is.file ∙ ap (λ (l : Layout). places_of (all_groups l)) layout-is;
      stored = stores;
      determined = determines;
    }

  module _ (s : Scenario) (done : List By) (files : List (OpenFile S)) (hand : Hand S) (played : IsPlayed place_of content len_of s done files hand) where
    pub all-files : AllByRecursion IsStateFile files
    all-files = all-from IsStateFile files (λ i f there.
        let low = slice_get_within files i f there in
        let many = played.many in
        let declared = element_within s.files i (omega (arith, low, many)) in
        (played.each i declared.0 f declared.1 there).file)

    -- as many slots of the files as the hand holds
    pub played-count : (d : Drive) → count_on place_of d (slots_of_files files) ≡ units_on d files
    played-count d = files-count d files all-files

    pub played-few : (d : Drive) → length s.files ≤ 65535 → units_on d files < 2 ^ 63
    played-few d few =
        let many = played.many in
        let most = files-few d files all-files in
        omega (arith, few, many, most)

  abbrev slots_in_file : OpenFile S → List S
  slots_in_file f = slots_of (state_of f)

  joined : (files : List (OpenFile S)) → flat_map (λ slots. slots) (map slots_in_file files) ≡ slots_of_files files
  joined [] = refl
  joined (f ∷ fs) = ap (λ (l : List S). slots_in_file f ++ l) (joined fs)

  module _ (s : Scenario) (done : List By) (files : List (OpenFile S)) (hand : Hand S) (played : IsPlayed place_of content len_of s done files hand) (few : length s.files ≤ 65535) where
    pub returns-slots : {T : Type 0} (ended : T) (board : List BoardEntry) (logs : List (List FileEntry)) (before now : RackState)
        → EndsCells place_of content s.shape hand files board logs (Ok ended) before now → ReturnsSlots place_of content s board logs before now
    returns-slots ended board logs before now ends =
        let rest = ends.waited ++ ends.retired ++ free_slots ends.pools in
        let all_slots : slots_of_files files ++ rest ≡ flat_map (λ slots. slots) (map slots_in_file files) ++ rest = ap (λ (l : List S). l ++ rest) (sym (joined files)) in
        record {
          units = map slots_in_file files;
          many = length-map slots_in_file files ∙ played.many;
          each = λ number declared log slots is_d is_log is_slots.
              let low = slice_get_within s.files number declared is_d in
              let many = played.many in
              let f = element_within files number (omega (arith, low, many)) in
              let logged : entries_of (state_of f.0) ≡ log = image-at (λ (x : OpenFile S). entries_of (state_of x)) files number f.0 log f.1 (ap (λ (l : List (List FileEntry)). slice_get l number) (sym ends.logs_are) ∙ is_log) in
              let held : slots_in_file f.0 ≡ slots = image-at slots_in_file files number f.0 slots f.1 is_slots in
              subst (λ (l : List FileEntry). HoldsFile place_of content s board declared l slots) logged
              (subst (HoldsFile place_of content s board declared (entries_of (state_of f.0))) held
              (subst (λ (b : List BoardEntry). HoldsFile place_of content s b declared (entries_of (state_of f.0)) (slots_of (state_of f.0))) (sym ends.board_is) (holds-file s (log_of (board_of hand)) number declared (state_of f.0) (played.each number declared f.0 is_d f.1))));
          hand = hand;
          waited = ends.waited;
          retired = ends.retired;
          pools = ends.pools;
          of_yard = ends.of_yard;
          of_pools = ends.of_pools;
          all = λ d of.
              let n = units_on d files in
              let one : sum (n ∷ []) ≡ n = omega arith in
              let others = have_all_slots place_of s.shape (hand ∷ []) ends.pools ends.waited ends.retired ends.of_pools ends.exact d (n ∷ []) n of (played.account d of, tt)
              (ap (λ (k : ℕ). k % 2 ^ 64) one) (played-few s done files hand played d few) in
              let own = played-count s done files hand played d in
              let both = count_by-append (λ slot. on_drive d (at slot)) (slots_of_files files) rest in
              let whole = ap (count_on place_of d) (sym all_slots) in
              omega (arith, others, own, both, whole);
          takes = ends.returns.takes;
          puts = subst (λ (l : List S). RisesBy (length l) before.puts now.puts) all_slots ends.returns.puts;
          back = subst (λ (l : List S). ComesBack place_of content l before.back now.back) all_slots ends.returns.back;
        }
