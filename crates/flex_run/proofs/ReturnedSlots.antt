-- What comes back to the rack is what the logs say.
use Rattle.std.proofs.Common.{◌≡◌, ℕ, ◌+◌, ◌==◌, Bool, true, false, ◌&&◌, cond, List, [], ◌∷◌, ◌++◌, length, map, count_by, Option, None, Some, IfSome, IsSome, is_none, refl, sym, ap, subst, ◌∙◌, arith, append-nil, append_assoc}
use Rattle.std.specs.List.{AllByRecursion}
use Rattle.std.proofs.lemmas.Bool.{eq-eqb}
use Rattle.std.proofs.lemmas.List.{map-append}
use Rattle.std.proofs.lemmas.List.Sums.{sum_by-append, sum_by-cons}
use Rattle.flex_io.specs.declared.raw_place.RawPlace.{RawPlace}
use Rattle.flex_io.specs.declared.rack.Returned.{Returned}
use Rattle.domains.specs.Place.{Place, same_place}
use Rattle.domains.specs.Shape.{Shape}
use Rattle.domains.specs.Counts.{one_if}
use Rattle.domains.specs.Level.{Level, two_copies}
use Rattle.domains.specs.declared.group.Group.{Group}
use Rattle.board_history.specs.Board.{up_after}
use Rattle.domains.proofs.DriveLemmas.{same_place-self}
use Rattle.file_history.specs.World.{Moment, world_of}
use Rattle.file_history.specs.Bytes.{bytes_after}
use Rattle.file_history.specs.Layout.{Layout, layout_after, group_list, places_of}
use Rattle.held_slots.specs.Slots.{place_from, count_at, places_from}
use Rattle.plain_file.specs.Slots.{Tell, content_at}
use Rattle.plain_file.specs.FreeOrder.{AreInOrder, AreKeptInOrder}
use Rattle.file_history.specs.Stored.{AreHeld, HoldsGroups, SpellsInode, IsStored, IsDetermined}
use Rattle.file_history.specs.Laws.{LeavesEnough}
use Rattle.file_history.proofs.DeterminedByLiveUnits.{determined}
use Rattle.file_history.proofs.RootedLayouts.{layout_rooted}
use Rattle.file_history.proofs.KnownContents.{told_stored}
use Rattle.plain_file.specs.Plain.{StockView, FileView, AllTell}
use Rattle.file_history.specs.declared.entry.NotedEntry.{NotedEntry}
use Rattle.scenario.specs.declared.op.Op.{Op}
use Rattle.scenario.specs.declared.scenario.FileDecl.{FileDecl}
use Rattle.scenario.specs.declared.scenario.Scenario.{Scenario}
use Rattle.first_form.specs.FirstForm.{IsFirstForm}
use Rattle.report.specs.Script.{noted_entries}
use Rattle.flex_run.specs.RetiredPlaces.{retired_places}
use Rattle.flex_run.specs.StockOrder.{stock_order, bytes_or_none, returned_of, PutsBack}
use Rattle.flex_run.specs.RunProgress.{EachTells, entries_of, HasLogs, Leaves}
use Rattle.flex_run.specs.RunReturns.{places_back, returned_at, bytes_at, last_moment, all_retired, IsFileBack, AreFilesBack, IsBack, BringsBack}
use Rattle.flex_run.proofs.StockPlaces.{count_at-stock, count_by-map}
use Rattle.flex_run.proofs.StockInOrder.{stock_in_order}
use Rattle.flex_run.proofs.ListGrowth.{All-weaken}
use Rattle.flex_run.proofs.RunStart.{new_file, new_stock, Tell-each, AllTell-each}
use Rattle.flex_run.proofs.RunLegality.{logs_of, noted_entries-entries}

-- places that hold the same hold the same file
AreHeld-same : (held other : Place → Option (List ℕ)) → ((s : Place) → held s ≡ other s) → (places : List Place) (units : List (List ℕ))
    → AreHeld places units held → AreHeld places units other
AreHeld-same held other same [] [] h = tt
AreHeld-same held other same [] (u ∷ us) h = absurd h
AreHeld-same held other same (s ∷ ss) [] h = absurd h
AreHeld-same held other same (s ∷ ss) (u ∷ us) h = (
  subst (λ (o : Option (List ℕ)). IfSome o (λ content. content ≡ u)) (same s) h.0,
  AreHeld-same held other same ss us h.1,
)

HoldsGroups-same : (held other : Place → Option (List ℕ)) → ((s : Place) → held s ≡ other s) → (groups : List Group) (bytes : List ℕ) (unit : ℕ)
    → HoldsGroups groups bytes unit held → HoldsGroups groups bytes unit other
HoldsGroups-same held other same [] bytes unit h = h
HoldsGroups-same held other same (g ∷ gs) bytes unit h = (
  h.0,
  h.1,
  h.2,
  record {
    units = h.3.units;
    codeword = h.3.codeword;
    lengths = h.3.lengths;
    joined = h.3.joined;
    places = AreHeld-same held other same g.places h.3.units h.3.places;
  },
  HoldsGroups-same held other same gs h.1 unit h.4,
)

spelled_same : (held other : Place → Option (List ℕ)) → ((s : Place) → held s ≡ other s) → (text : List ℕ) (places : List Place)
    → AllByRecursion (λ (s : Place). IfSome (held s) (λ content. content ≡ text)) places
    → AllByRecursion (λ (s : Place). IfSome (other s) (λ content. content ≡ text)) places
spelled_same held other same text [] h = tt
spelled_same held other same text (s ∷ ss) h = (
  subst (λ (o : Option (List ℕ)). IfSome o (λ content. content ≡ text)) (same s) h.0,
  spelled_same held other same text ss h.1,
)

inodes_same : (held other : Place → Option (List ℕ)) → ((s : Place) → held s ≡ other s) → (unit : ℕ) (l : Layout) (groups : List Group)
    → AllByRecursion (SpellsInode held unit l) groups → AllByRecursion (SpellsInode other unit l) groups
inodes_same held other same unit l [] h = tt
inodes_same held other same unit l (g ∷ gs) h = (
  record { valid = h.0.valid; places = spelled_same held other same _ g.places h.0.places },
  inodes_same held other same unit l gs h.1,
)

IsStored-same : (held other : Place → Option (List ℕ)) → ((s : Place) → held s ≡ other s) → (unit : ℕ) (l : Layout) (bytes : List ℕ)
    → IsStored held unit l bytes → IsStored other unit l bytes
IsStored-same held other same unit l bytes h = record {
  inode = inodes_same held other same unit l (group_list l.inode) h.inode;
  size = h.size;
  zeros = h.zeros;
  groups = HoldsGroups-same held other same l.groups _ unit h.groups;
}

at_itself : (s : Place) → one_if (same_place s s) ≡ 1
at_itself s = ap one_if (same_place-self s)

none_counted : (n m : ℕ) → n + m ≡ 0 → (n ≡ 0) × (m ≡ 0)
none_counted n m h = (omega (arith, h), omega (arith, h))

told_is : (o : Option (List ℕ)) → one_if (is_none o) ≡ 0 → o ≡ Some (bytes_or_none o)
told_is None h = absurd (omega (arith, h))
told_is (Some bytes) h = refl

-- what came back from the place is known
abbrev IsFound : List Returned → Place → Type 0
IsFound back s = returned_at back s ≡ Some (bytes_at back s)

found_behind : (r : Returned) (rs : List Returned) (s : Place) → IsFound rs s → IsFound (r ∷ rs) s
found_behind r rs s found =
    elim (same_place (place_from r.place) s) as (λ b. cond b (Some r.bytes) (returned_at rs s) ≡ Some (cond b r.bytes (bytes_at rs s)))
    [ true ↦ refl | false ↦ found ]

found_first : (r : Returned) (rs : List Returned) → IsFound (r ∷ rs) (place_from r.place)
found_first r rs =
    subst (λ (b : Bool). cond b (Some r.bytes) (returned_at rs (place_from r.place)) ≡ Some (cond b r.bytes (bytes_at rs (place_from r.place))))
    (sym (same_place-self (place_from r.place))) refl

-- each of these places is found before others, and behind others
pub found_before : (back later : List Returned) → AllByRecursion (IsFound (back ++ later)) (places_back back)
found_before [] later = tt
found_before (r ∷ rs) later =
    (found_first r (rs ++ later), All-weaken (IsFound (rs ++ later)) (IsFound (r ∷ (rs ++ later))) (found_behind r (rs ++ later)) (places_back rs) (found_before rs later))

pub found_after : (front back : List Returned) → AllByRecursion (IsFound (front ++ back)) (places_back back)
found_after [] back = subst (λ (all : List Returned). AllByRecursion (IsFound all) (places_back back)) (append-nil back) (found_before back [])
found_after (r ∷ rs) back =
    All-weaken (IsFound (rs ++ back)) (IsFound (r ∷ (rs ++ back))) (found_behind r (rs ++ back)) (places_back back) (found_after rs back)

-- what came back of a file leaves one file that it may be, where enough units are live
pub determined_back : (now : Moment) (declared : Level) (log : List NotedEntry) (units inode : List Returned)
    → places_back units ≡ places_of (layout_after declared log).groups
    → places_back inode ≡ places_of (group_list (layout_after declared log).inode)
    → IsStored (returned_at (units ++ inode)) now.shape.unit (layout_after declared log) (bytes_after log)
    → LeavesEnough now (layout_after declared log)
    → IsDetermined now (bytes_at (units ++ inode)) (layout_after declared log) (bytes_after log)
determined_back now declared log units inode units_at inode_at stored enough =
    let all : List Returned = units ++ inode in
    determined now (bytes_at all) (layout_after declared log) (bytes_after log) (layout_rooted declared log)
    (told_stored (returned_at all) (bytes_at all) now.shape.unit (layout_after declared log) (bytes_after log)
    (subst (λ (places : List Place). AllByRecursion (IsFound all) places) units_at (found_before units inode))
    (subst (λ (places : List Place). AllByRecursion (IsFound all) places) inode_at (found_after units inode)) stored)
    enough

module _ {S : Type 0} (place_of : S → RawPlace) (content : S → Option (List ℕ)) where
  abbrev back_of : S → Returned
  back_of x = record { place = place_of x; bytes = bytes_or_none (content x) }

  Tell-parts : (x : S) (xs : List S) → Tell content (x ∷ xs) → (one_if (is_none (content x)) ≡ 0) × Tell content xs
  Tell-parts x xs h =
      let sum = sum_by-cons (λ y. one_if (is_none (content y))) x xs in
      none_counted _ _ (sym sum ∙ h)

  Tell-append : (xs ys : List S) → Tell content xs → Tell content ys → Tell content (xs ++ ys)
  Tell-append xs ys a b = let sum = sum_by-append (λ y. one_if (is_none (content y))) xs ys in omega (arith, sum, a, b)

  -- slots that tell are found among those that came back
  returned_same : (slots : List S) → Tell content slots → (s : Place) → content_at slots place_of content s ≡ returned_at (returned_of place_of content slots) s
  returned_same [] told s = refl
  returned_same (x ∷ xs) told s =
      let parts = Tell-parts x xs told in
      ap (λ (o : Option (List ℕ)). cond (same_place (place_from (place_of x)) s) o (content_at xs place_of content s)) (told_is (content x) parts.0)
      ∙ ap (λ (o : Option (List ℕ)). cond (same_place (place_from (place_of x)) s) (Some (bytes_or_none (content x))) o) (returned_same xs parts.1 s)

  -- they came back from where they stood
  places_same : (slots : List S) → places_back (returned_of place_of content slots) ≡ map (λ x. place_from (place_of x)) slots
  places_same [] = refl
  places_same (x ∷ xs) = ap (λ (l : List Place). place_from (place_of x) ∷ l) (places_same xs)

  places_counted : (p : Place → Bool) (slots : List S) → count_by p (places_back (returned_of place_of content slots)) ≡ count_at place_of p slots
  places_counted p slots = ap (λ (l : List Place). count_by p l) (places_same slots) ∙ sym (count_by-map p (λ x. place_from (place_of x)) slots)

  lost_all : (up : Place → Bool) (slots : List S) → ((s : Place) → up s ≡ true → count_at place_of (same_place s) slots ≡ 0)
      → AllByRecursion (λ (s : Place). up s ≡ false) (map (λ x. place_from (place_of x)) slots)
  lost_all up [] none = tt
  lost_all up (x ∷ xs) none = (
    elim (up (place_from (place_of x))) as (λ b. up (place_from (place_of x)) ≡ b → b ≡ false) [
      | true ↦ λ is.
          let here = none (place_from (place_of x)) is in
          let sum = sum_by-cons (λ y. one_if (same_place (place_from (place_of x)) (place_from (place_of y)))) x xs in
          let self = at_itself (place_from (place_of x)) in
          absurd (omega (arith, here, sum, self))
      | false ↦ λ is. refl
    ] refl,
    lost_all up xs (λ s is.
        let here = none s is in
        let sum = sum_by-cons (λ y. one_if (same_place s (place_from (place_of y)))) x xs in
        omega (arith, here, sum)),
  )

  -- all slots of a cluster are kept in order
  kept_at_start : (slots : List S) (shape : Shape) (room spare : ℕ) → places_from place_of slots ≡ stock_order shape
      → AreKeptInOrder place_of (new_file shape) (new_stock shape slots room spare)
  kept_at_start slots shape room spare order = record {
    free = subst AreInOrder (sym order) (stock_in_order shape);
    inode = λ none. tt;
  }

  -- the slots of a run come back as its logs say
  IsBack-run : (s : Scenario) (script : List Op) (known : Type 0) (slots : List S) (room spare : ℕ) (g : FileView S) (next : StockView S) → IsFirstForm s
      → HasLogs known s script next.board g.log
      → Leaves place_of content s.shape (new_file s.shape) (new_stock s.shape slots room spare) g next
      → places_from place_of slots ≡ stock_order s.shape → AllTell content g next
      → IsBack (logs_of s next.board g.log) (returned_of place_of content (g.units ++ (g.inode ++ (next.retired ++ next.free))))
  IsBack-run s script known slots room spare g next form logs left order told =
      let shape_same : g.shape.unit ≡ s.shape.unit = ap (λ (c : Shape). c.unit) left.file_shape in
      let units = returned_of place_of content g.units in
      let inode = returned_of place_of content g.inode in
      let retired = returned_of place_of content next.retired in
      let free = returned_of place_of content next.free in
      let held : (x : Place) → content_at (g.units ++ g.inode) place_of content x ≡ returned_at (units ++ inode) x =
      λ x. returned_same (g.units ++ g.inode) (Tell-append g.units g.inode told.units told.inode) x
      ∙ ap (λ (l : List Returned). returned_at l x) (map-append back_of g.units g.inode) in
      let stored : IsStored (returned_at (units ++ inode)) s.shape.unit (layout_after two_copies g.log) (bytes_after g.log) =
      subst (λ (n : ℕ). IsStored (returned_at (units ++ inode)) n (layout_after two_copies g.log) (bytes_after g.log)) shape_same
      (IsStored-same (content_at (g.units ++ g.inode) place_of content) (returned_at (units ++ inode)) held g.shape.unit _ _ left.keeps.stored) in
      let now : Moment = last_moment (logs_of s next.board g.log) two_copies in
      let units_at = places_same g.units ∙ left.keeps.units in
      let inode_at = places_same g.inode ∙ left.keeps.inode in
      let file : IsFileBack now (record { name = form.name; level = two_copies }) g.log units inode = record {
        units_at = units_at;
        inode_at = inode_at;
        stored = stored;
        determined = determined_back now two_copies g.log units inode units_at inode_at stored;
      } in
      let parts : returned_of place_of content (g.units ++ (g.inode ++ (next.retired ++ next.free))) ≡ units ++ (inode ++ (retired ++ free)) =
      map-append back_of g.units _ ∙ ap (λ (l : List Returned). units ++ l) (map-append back_of g.inode _ ∙ ap (λ (l : List Returned). inode ++ l) (map-append back_of next.retired next.free)) in
      record {
        files = units ++ (inode ++ []);
        retired = retired;
        free = free;
        all = parts ∙ sym (append_assoc units (inode ++ []) (retired ++ free) ∙ ap (λ (l : List Returned). units ++ l) (append_assoc inode [] (retired ++ free)));
        of_files =
            subst (λ (fs : List FileDecl). AreFilesBack fs (entries_of g.log ∷ []) (logs_of s next.board g.log) (units ++ (inode ++ []))) (sym form.files) (
              units,
              inode,
              [],
              refl,
              subst (λ (log : List NotedEntry). IsFileBack now (record { name = form.name; level = two_copies }) log units inode)
                  (sym (noted_entries-entries g.log s logs.noted)) file,
              refl,
            );
        lost = subst (λ (l : List Place). AllByRecursion (λ (x : Place). up_after s.shape next.board (length next.board) x.drive ≡ false) l) (sym (places_same next.retired))
            (lost_all (λ x. up_after s.shape next.board (length next.board) x.drive) next.retired
            (λ x up. left.lost x (ap (λ (c : Shape). up_after c next.board (length next.board) x.drive) left.stock_shape ∙ up)));
        of_logs = λ x.
            places_counted (same_place x) next.retired ∙ left.retired x
            ∙ ap (λ (c : Shape). count_by (same_place x) (retired_places (world_of c next.board two_copies) g.log)) left.stock_shape
            ∙ ap (λ (log : List NotedEntry). count_by (same_place x) (retired_places (world_of s.shape next.board two_copies) log)) (sym (noted_entries-entries g.log s logs.noted))
            ∙ ap (λ (places : List Place). count_by (same_place x) places) (sym (append-nil (retired_places (world_of s.shape next.board two_copies) (noted_entries s (entries_of g.log)))))
            ∙ ap (λ (fs : List FileDecl). count_by (same_place x) (all_retired fs (entries_of g.log ∷ []) s next.board)) (sym form.files);
        in_order = subst AreInOrder (sym (places_same next.free)) (left.ordered (kept_at_start slots s.shape room spare order)).free;
        each = λ p.
            let counted = places_counted p (g.units ++ (g.inode ++ (next.retired ++ next.free))) in
            let a = sum_by-append (λ x. one_if (p (place_from (place_of x)))) g.units (g.inode ++ (next.retired ++ next.free)) in
            let b = sum_by-append (λ x. one_if (p (place_from (place_of x)))) g.inode (next.retired ++ next.free) in
            let c = sum_by-append (λ x. one_if (p (place_from (place_of x)))) next.retired next.free in
            let kept = left.conserved p in
            let from = count_at-stock place_of slots s.shape p order in
            omega (arith, counted, a, b, c, kept, from);
      }

  -- so they do where the rack tells what comes back
  pub BringsBack-run : (s : Scenario) (script : List Op) (known : Type 0) (slots : List S) (f : FileView S) (stock : StockView S) (g : FileView S) (next : StockView S)
      (old now : Option (List Returned)) → IsFirstForm s → f ≡ new_file s.shape → stock ≡ new_stock s.shape slots stock.room stock.spare
      → HasLogs known s script next.board g.log → Leaves place_of content s.shape f stock g next
      → places_from place_of slots ≡ stock_order s.shape → (IsSome old → EachTells content)
      → PutsBack old now place_of content (g.units ++ (g.inode ++ (next.retired ++ next.free)))
      → BringsBack old now (logs_of s next.board g.log)
  BringsBack-run s script known slots f stock g next None now form is_file is_stock logs left order tells puts = tt
  BringsBack-run s script known slots f stock g next (Some before) now form is_file is_stock logs left order tells puts =
      let from : Leaves place_of content s.shape (new_file s.shape) (new_stock s.shape slots stock.room stock.spare) g next =
      subst (λ (k : StockView S). Leaves place_of content s.shape (new_file s.shape) k g next) is_stock
      (subst (λ (k : FileView S). Leaves place_of content s.shape k stock g next) is_file left) in (
        returned_of place_of content (g.units ++ (g.inode ++ (next.retired ++ next.free))),
        puts (Tell-each content (tells refl) (g.units ++ (g.inode ++ (next.retired ++ next.free)))),
        IsBack-run s script known slots stock.room stock.spare g next form logs from order (AllTell-each content (tells refl) g next),
      )
