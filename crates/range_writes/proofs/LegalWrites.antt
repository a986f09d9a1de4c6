-- A write that was made ready is a legal change, and its groups hold their part of the file.
use Rattle.std.proofs.Common.{◌≡◌, ℕ, suc, ◌+◌, ◌-◌, ◌*◌, ◌≤◌, ◌<◌, min, max, true, false, nat_le, ◌&&◌, cond, List, [], ◌∷◌, ◌++◌, length, map, take, drop, Option, None, Some, inl, inr, refl, sym, ap, subst, ◌∙◌, arith, length-append}
use Rattle.std.specs.List.{AllByRecursion, count_by}
use Rattle.std.specs.Prelude.{nat_eq}
use Rattle.std.proofs.Math.Nat.{zero-mul}
use Rattle.std.proofs.lemmas.Bool.{cases_Bool, cond-false, cond-true, false≢true}
use Rattle.std.proofs.lemmas.List.{length-drop, length-map, length-take}
use Rattle.std.proofs.lemmas.List.Sums.{sum_by-cons}
use Rattle.std.proofs.lemmas.Nat.{div_below, le-div}
use Rattle.std.proofs.lemmas.Simd.{map-map}
use Rattle.board.specs.declared.board_view.View.{View}
use Rattle.domains.specs.AtLevel.{AtLevel, InodeAt, units_on}
use Rattle.domains.specs.Drive.{AreApart, Drive, is_in, same_drive}
use Rattle.domains.specs.DriveSet.{has}
use Rattle.domains.specs.Level.{Level}
use Rattle.domains.specs.Place.{IsPlaceOf, Place}
use Rattle.domains.specs.Room.{room_of}
use Rattle.domains.specs.Shape.{is_of, Shape}
use Rattle.domains.specs.declared.group.Group.{Group}
use Rattle.domains.proofs.CountLemmas.{count_by-cons}
use Rattle.domains.proofs.DriveLemmas.{is_in-first, is_in-rest, same_drive-eq}
use Rattle.flex_io.specs.declared.raw_place.RawPlace.{RawPlace}
use Rattle.held_slots.specs.Slots.{drive_of, place_from, places_from}
use Rattle.inode_codec.specs.Inode.{data_units}
use Rattle.slot_search.specs.HandSeats.{drives_of_all}
use Rattle.file_history.specs.Bytes.{overwrite}
use Rattle.file_history.specs.Layout.{all_groups, is_taken, Layout, places_of, replaced}
use Rattle.file_history.specs.Refusals.{is_usable}
use Rattle.file_history.specs.Step.{AreAtLevel, AreNewPlaces, AreNumbered, IsNewPlace, Writes}
use Rattle.file_history.specs.World.{Moment}
use Rattle.file_history.specs.WriteRule.{affected_groups, AreChunks, chunk_count, generations_of, groups_before, new_units}
use Rattle.map_changes.specs.ChangedMaps.{AreFree, first_of}
use Rattle.map_switches.specs.Switches.{groups_of, HoldPart, IsFreshStripe, IsOfSlots, logged, new_places, numbered}
use Rattle.map_switches.proofs.NumberedGroups.{numbered-places}
use Rattle.map_switches.specs.declared.change.MapChange.{MapChange}
use Rattle.striped_groups.specs.StoredGroups.{GroupSlots, HoldRun, stored_group}
use Rattle.file_core.specs.FileSwitches.{HoldIfFresh, IsLegalIfFresh}
use Rattle.file_core.specs.FileView.{bytes_of, FileView, IsFile, layout_of, log_of, now_of}
use Rattle.write_rule.specs.NewBytes.{padded_slice}
use Rattle.write_rule.specs.Runs.{run_of}
use Rattle.write_rule.proofs.NewBytesByPlace.{overwrite_length}
use Rattle.write_plans.specs.declared.plan.WritePlan.{WritePlan}
use Rattle.placed_runs.specs.declared.terms.RunTerms.{RunTerms}
use Rattle.range_writes.specs.ReadyWrites.{IsReadyWrite, write_change}
use Rattle.range_writes.specs.StandingRuns.{HoldBytes, StandsOnSlots}
use Rattle.range_writes.proofs.HeldBytes.{run_held, stripes_fresh, widths_held}

-- each of the groups that share some units has one at least, and no more than the width
pub each_chunk : (ns : List ℕ) (count width : ℕ) → 1 ≤ width → AreChunks count width ns → AllByRecursion (λ (n : ℕ). (1 ≤ n) × (n ≤ width)) ns
each_chunk [] count width wide are = tt
each_chunk (n ∷ []) count width wide are = ((are.1, are.2), tt)
each_chunk (n ∷ m ∷ ns) count width wide are =
    let same = are.0 in
    ((omega (arith, same, wide), omega (arith, same)), each_chunk (m ∷ ns) (count - n) width wide are.2)

chunk_sum : (gs : List Group) (count width : ℕ) → AreChunks count width (map (λ (g : Group). g.n) gs) → data_units gs ≡ count
chunk_sum [] count width are = let none : data_units [] ≡ 0 = refl in omega (arith, none, are)
chunk_sum (g ∷ []) count width are =
    let all = sum_by-cons (λ (h : Group). h.n) g [] in
    let none : data_units [] ≡ 0 = refl in
    let same = are.0 in
    omega (arith, all, none, same)
chunk_sum (g ∷ h ∷ gs) count width are =
    let rest = chunk_sum (h ∷ gs) (count - g.n) width are.2 in
    let all = sum_by-cons (λ (x : Group). x.n) g (h ∷ gs) in
    let within = are.1 in
    omega (arith, rest, all, within)

chunk_bounds : (ns : List ℕ) (count width : ℕ) → 1 ≤ width → AreChunks count width ns → (count ≤ length ns * width) × (length ns * width < count + width)
chunk_bounds [] count width wide are = let none = zero-mul width in (omega (arith, are, none), omega (arith, are, wide, none))
chunk_bounds (n ∷ []) count width wide are =
    let same = are.0 in
    let some = are.1 in
    let most = are.2 in
    let one : 1 * width ≡ width = grind arith in
    (omega (arith, same, most, one), omega (arith, same, some, one))
chunk_bounds (n ∷ m ∷ ns) count width wide are =
    let rest = chunk_bounds (m ∷ ns) (count - n) width wide are.2 in
    let high = rest.0 in
    let low = rest.1 in
    let same = are.0 in
    let within = are.1 in
    let more = one_more (length (m ∷ ns)) width in
    (omega (arith, high, same, within, more), omega (arith, low, same, within, more))
  where
    one_more : (k width : ℕ) → suc k * width ≡ k * width + width
    one_more k width = let n : suc k ≡ k + 1 = omega arith in ap (λ (j : ℕ). j * width) n ∙ spread k width
      where
        spread : (k width : ℕ) → (k + 1) * width ≡ k * width + width
        spread k width = grind arith

pub chunk_length : (ns : List ℕ) (count width : ℕ) → 1 ≤ width → AreChunks count width ns → length ns ≡ chunk_count count width
chunk_length ns count width wide are =
    let bounds = chunk_bounds ns count width wide are in
    let high = bounds.0 in
    let low = bounds.1 in
    let least = le-div (length ns) (count + (width - 1)) width (omega (arith, wide)) (omega (arith, low)) in
    let more : (length ns + 1) * width ≡ length ns * width + width = grind arith in
    let most = div_below (count + (width - 1)) width (length ns + 1) (omega (arith, wide)) (omega (arith, wide, high, more)) in
    omega (arith, least, most)

-- no group is wider than its level
pub width_within : (level : Level) (room width : ℕ) → cond (nat_le (level.m + 1) room) (Some (min level.w (room - level.m))) None ≡ Some width → width ≤ level.w
width_within level room width is = elim (cases_Bool (nat_le (level.m + 1) room)) [
  | inl enough ↦ told (min level.w (room - level.m)) (sym (cond-true (nat_le (level.m + 1) room) (Some (min level.w (room - level.m))) None enough) ∙ is) (omega arith)
  | inr none ↦ absurd (nothing (sym (cond-false (nat_le (level.m + 1) room) (Some (min level.w (room - level.m))) None none) ∙ is))
]
  where
    told : (k : ℕ) → Some k ≡ Some width → k ≤ level.w → width ≤ level.w
    told k same less = let n : k ≡ width = cc in omega (arith, n, less)

    nothing : None ≡ Some width → ⊥
    nothing same = cc

numbered_widths : (gs : List Group) (next : ℕ) → map (λ (g : Group). g.n) (numbered gs next) ≡ map (λ (g : Group). g.n) gs
numbered_widths [] next = refl
numbered_widths (g ∷ gs) next = ap (λ (ns : List ℕ). g.n ∷ ns) (numbered_widths gs (next + 1))

are_numbered : (gs : List Group) (next : ℕ) (inode : Group) → inode.generation ≡ next + length gs → AreNumbered next (numbered gs next) inode
are_numbered [] next inode is = omega (arith, is)
are_numbered (g ∷ gs) next inode is = (refl, are_numbered gs (next + 1) inode (omega (arith, is)))

-- how many groups a map has in which new ones stand in the place of a run
replaced_length : (gs affected new : List Group) (old : List ℕ) (first count : ℕ) → old ≡ generations_of affected → groups_before affected gs ≡ take first gs
    → affected ≡ run_of gs first count → first + count ≤ length gs → length (replaced old new gs) ≡ length gs - length affected + length new
replaced_length gs affected new old first count old_is before run within =
    let front = ap length before in
    let taken = length-take first gs in
    let gone = length-map affected (λ (g : Group). g.generation) in
    let count_is : length affected ≡ count = ap length run ∙ run_length in
    let told : length (replaced old new gs) ≡ length (replaced (generations_of affected) new gs) = ap (λ (ns : List ℕ). length (replaced ns new gs)) old_is in
    let whole : length (replaced (generations_of affected) new gs)
    ≡ length (groups_before affected gs ++ new) + length (drop (length (groups_before affected gs) + length (generations_of affected)) gs) =
    length-append (groups_before affected gs ++ new) (drop (length (groups_before affected gs) + length (generations_of affected)) gs) in
    let back = length-append (groups_before affected gs) new in
    let left = length-drop (length (groups_before affected gs) + length (generations_of affected)) gs in
    omega (arith, front, taken, gone, count_is, told, whole, back, left, within)
  where
    run_length : length (run_of gs first count) ≡ count
    run_length =
        let taken = length-take count (drop first gs) in
        let left = length-drop first gs in
        omega (arith, taken, left, within)

module _ {S : Type 0} (place_of : S → RawPlace) where
  on_node : (node : ℕ) (slots : List S) → units_on node (places_from place_of slots) ≡ count_by (λ (d : Drive). nat_eq d.node node) (drives_of_all place_of slots)
  on_node node [] = refl
  on_node node (x ∷ xs) =
      let rest = on_node node xs in
      let left = count_by-cons (λ (s : Place). nat_eq s.drive.node node) (place_from (place_of x)) (places_from place_of xs) in
      let right = count_by-cons (λ (d : Drive). nat_eq d.node node) (drive_of place_of x) (drives_of_all place_of xs) in
      omega (arith, rest, left, right)

  all_always : {A : Type 0} (P : A → Type 0) (xs : List A) → ((x : A) → P x) → AllByRecursion P xs
  all_always P [] each = tt
  all_always P (x ∷ xs) each = (each x, all_always P xs each)

  module _ (t : RunTerms) (shape : Shape) (n next : ℕ) (g : GroupSlots S) (stands : StandsOnSlots place_of t shape n g) where
    -- the group is at the level of the terms
    at_level : 1 ≤ n → n ≤ t.level.w → AtLevel (record { generation = next; n = n; m = t.level.m; places = places_from place_of g.slots }) t.level
    at_level some narrow = record {
      some = some;
      narrow = narrow;
      corrected = refl;
      whole = length-map g.slots (λ (y : S). place_from (place_of y)) ∙ stands.whole;
      apart = subst AreApart (sym (map-map (λ (p : Place). p.drive) (λ (y : S). place_from (place_of y)) g.slots)) stands.apart;
      spread = all_always (λ (s : Place). units_on s.drive.node (places_from place_of g.slots) ≤ t.level.k) (places_from place_of g.slots)
          (λ s. let same = on_node s.drive.node g.slots in let most = stands.spread s.drive.node in omega (arith, same, most));
    }

    pub numbered_at : 1 ≤ n → n ≤ t.level.w → AtLevel (record g.group { generation = next }) t.level
    numbered_at some narrow =
        subst (λ (h : Group). AtLevel h t.level) (ap (λ (h : Group). record h { generation = next }) (sym stands.group)) (at_level some narrow)

  -- a place where a new unit may stand
  pub record IsSited (now : Moment) (l : Layout) (s : Place) : Type 0 where
    pub of : IsPlaceOf now.shape s
    pub usable : is_usable now l s.drive ≡ true

  sited : (now : Moment) (l : Layout) (slots : List S) → AllByRecursion (λ (y : S). IsPlaceOf now.shape (place_from (place_of y))) slots
      → ((d : Drive) → is_in (drives_of_all place_of slots) d ≡ true → is_usable now l d ≡ true) → AllByRecursion (IsSited now l) (places_from place_of slots)
  sited now l [] places usable = tt
  sited now l (y ∷ ys) places usable = (
    record { of = places.0; usable = usable (drive_of place_of y) (is_in-first (drive_of place_of y) (drives_of_all place_of ys)) },
    sited now l ys places.1 (λ d there. usable d (is_in-rest (drive_of place_of y) (drives_of_all place_of ys) d there)),
  )

  -- so may the places of a group's slots be
  pub group_sited : (t : RunTerms) (now : Moment) (l : Layout) (n : ℕ) (g : GroupSlots S)
      → ((d : Drive) → is_of now.shape d ≡ true → (has t.usable d && has t.view.up d) ≡ true → is_usable now l d ≡ true)
      → StandsOnSlots place_of t now.shape n g → AllByRecursion (IsSited now l) g.group.places
  group_sited t now l n g usable stands =
      subst (AllByRecursion (IsSited now l)) (sym (ap (λ (h : Group). h.places) stands.group))
      (sited now l g.slots stands.places (λ d there. usable d (of_shape g.slots stands.places d there) (stands.usable d there)))
    where
      of_shape : (slots : List S) → AllByRecursion (λ (y : S). IsPlaceOf now.shape (place_from (place_of y))) slots → (d : Drive) → is_in (drives_of_all place_of slots) d ≡ true
          → is_of now.shape d ≡ true
      of_shape [] places d there = absurd (false≢true there)
      of_shape (y ∷ ys) places d there = elim (cases_Bool (same_drive (drive_of place_of y) d)) [
        | inl here ↦ ap (is_of now.shape) (sym (same_drive-eq (drive_of place_of y) d here)) ∙ places.0.drive
        | inr other ↦ of_shape ys places.1 d (sym (cond-false (same_drive (drive_of place_of y) d) true (is_in (drives_of_all place_of ys) d) other) ∙ there)
      ]

all_append : {A : Type 0} (P : A → Type 0) (xs ys : List A) → AllByRecursion P xs → AllByRecursion P ys → AllByRecursion P (xs ++ ys)
all_append P [] ys left right = right
all_append P (x ∷ xs) ys left right = (left.0, all_append P xs ys left.1 right)

module _ {S : Type 0} (place_of : S → RawPlace) (content : S → Option (List ℕ)) (len_of : S → ℕ) (t : RunTerms) (bytes : List ℕ) where
  -- the groups are at the level, with any generations
  all_at_level : (shape : Shape) (width : ℕ) (chunks : List ℕ) (from next : ℕ) (groups : List (GroupSlots S)) → width ≤ t.level.w
      → AllByRecursion (λ (n : ℕ). (1 ≤ n) × (n ≤ width)) chunks → HoldBytes place_of content len_of t shape bytes from chunks groups
      → AreAtLevel (numbered (groups_of groups) next) t.level
  all_at_level shape width [] from next [] narrow each holds = tt
  all_at_level shape width [] from next (g ∷ gs) narrow each holds = absurd holds
  all_at_level shape width (n ∷ ns) from next [] narrow each holds = absurd holds
  all_at_level shape width (n ∷ ns) from next (g ∷ gs) narrow each holds =
      let some = each.0.0 in
      let most = each.0.1 in (
        numbered_at place_of t shape n next g holds.0.stands some (omega (arith, most, narrow)),
        all_at_level shape width ns (from + n * t.unit) (next + 1) gs narrow each.1 holds.1,
      )

  -- and stand where new units may stand
  all_sited : (now : Moment) (l : Layout) (chunks : List ℕ) (from : ℕ) (groups : List (GroupSlots S))
      → ((d : Drive) → is_of now.shape d ≡ true → (has t.usable d && has t.view.up d) ≡ true → is_usable now l d ≡ true)
      → HoldBytes place_of content len_of t now.shape bytes from chunks groups → AllByRecursion (IsSited place_of now l) (places_of (groups_of groups))
  all_sited now l [] from [] usable holds = tt
  all_sited now l [] from (g ∷ gs) usable holds = absurd holds
  all_sited now l (n ∷ ns) from [] usable holds = absurd holds
  all_sited now l (n ∷ ns) from (g ∷ gs) usable holds =
      all_append (IsSited place_of now l) g.group.places (places_of (groups_of gs))
      (group_sited place_of t now l n g usable holds.0.stands)
      (all_sited now l ns (from + n * t.unit) gs usable holds.1)

-- of places that are free and may have new units
free_sited : {S : Type 0} (place_of : S → RawPlace) (now : Moment) (l : Layout) (ss : List Place) → AllByRecursion (IsSited place_of now l) ss
    → AllByRecursion (λ (s : Place). is_taken (all_groups l) s ≡ false) ss → AllByRecursion (IsNewPlace now l) ss
free_sited place_of now l [] sited free = tt
free_sited place_of now l (s ∷ ss) sited free =
    (record { drive = sited.0.of.drive; slot = sited.0.of.slot; usable = sited.0.usable; free = free.0 }, free_sited place_of now l ss sited.1 free.1)

module _ {S : Type 0} (place_of : S → RawPlace) (content : S → Option (List ℕ)) (len_of : S → ℕ) (x : FileView S) (view : View) (t : RunTerms) (plan : WritePlan) (offset : ℕ)
    (payload bytes : List ℕ) (groups : List (GroupSlots S)) (inode : GroupSlots S) (at units : ℕ) (level : Level) (is : IsFile place_of content len_of x)
    (ready : IsReadyWrite place_of content len_of x view t plan offset payload bytes groups inode) where
  abbrev l : Layout
  l = layout_of x

  abbrev now : Moment
  now = now_of x view

  abbrev change : MapChange S
  change = write_change plan.old offset payload at units level groups inode

  -- the bytes are those of the run in the file after the write
  abbrev AreTheFiles : Type 0
  AreTheFiles = padded_slice bytes 0 (plan.run.new_units * x.shape.unit)
      ≡ padded_slice (overwrite (bytes_of x) offset payload) (plan.run.start * x.shape.unit) (plan.run.new_units * x.shape.unit)

  width_narrow : plan.width ≤ t.level.w
  width_narrow =
      let narrow = width_within l.requested (room_of l.requested x.shape (is_usable now l)) plan.width ready.plan_is.may.wide in
      let same : t.level.w ≡ l.requested.w = ap (λ (v : Level). v.w) ready.terms.level in
      omega (arith, narrow, same)

  widths : map (λ (g : Group). g.n) (logged l change).new ≡ plan.chunks
  widths = numbered_widths (groups_of groups) l.next ∙ widths_held place_of content len_of t x.shape bytes plan.chunks 0 groups ready.groups_hold

  few_groups : length (replaced plan.old (logged l change).new l.groups) ≤ 256
  few_groups =
      let run = ready.plan_is.run.affected in
      let whole = replaced_length l.groups (affected_groups x.shape.unit l offset (length payload) plan.width) (logged l change).new plan.old plan.run.first plan.run.count ready.plan_is.old run.before run.run run.within in
      let many = chunk_length plan.chunks (new_units x.shape.unit l offset (length payload) plan.width) plan.width ready.plan_is.wide ready.plan_is.chunks in
      let same : length (logged l change).new ≡ length plan.chunks = sym (length-map (logged l change).new (λ (g : Group). g.n)) ∙ ap length widths in
      let most = ready.plan_is.may.groups in
      omega (arith, whole, many, same, most)

  inode_at : InodeAt (logged l change).inode l.requested
  inode_at =
      let wide = ready.plan_is.wide in
      let narrow = width_narrow in record {
        one = ap (λ (g : Group). g.n) ready.inode_stands.group;
        at_level = subst (AtLevel (logged l change).inode) ready.terms.level
            (numbered_at place_of t x.shape 1 (l.next + length (groups_of groups)) inode ready.inode_stands (omega arith) (omega (arith, wide, narrow)));
      }

  -- if its places are free, the write is legal
  pub writes : AreFree l (new_places change) → Writes now (log_of x) l offset (max l.size (offset + length payload)) (logged l change) payload
  writes free = record {
    present = ready.plan_is.present;
    width = plan.width;
    may = ready.plan_is.may;
    old = ready.plan_is.old;
    chunks = subst (AreChunks (new_units x.shape.unit l offset (length payload) plan.width) plan.width) (sym widths) ready.plan_is.chunks;
    level = subst (AreAtLevel (logged l change).new) ready.terms.level
        (all_at_level place_of content len_of t bytes x.shape plan.width plan.chunks 0 l.next groups width_narrow
        (each_chunk plan.chunks (new_units x.shape.unit l offset (length payload) plan.width) plan.width ready.plan_is.wide ready.plan_is.chunks) ready.groups_hold);
    inode = inode_at;
    numbers = are_numbered (groups_of groups) l.next (logged l change).inode refl;
    places = subst (AreNewPlaces now l) (ap (λ (ss : List Place). ss ++ inode.group.places) (sym (numbered-places (groups_of groups) l.next)))
        (record {
          each = free_sited place_of now l (new_places change)
              (all_append (IsSited place_of now l) (places_of (groups_of groups)) inode.group.places
              (all_sited place_of content len_of t bytes now l plan.chunks 0 groups ready.terms.usable ready.groups_hold)
              (group_sited place_of t now l 1 inode ready.terms.usable ready.inode_stands))
              free.free;
          distinct = free.distinct;
        });
    groups = few_groups;
    new_size =
        let size = is.slots.size in
        let long = overwrite_length (bytes_of x) offset payload in
        omega (arith, size, long);
  }

  pub legal_if_fresh : IsLegalIfFresh x view change
  legal_if_fresh fresh free = (refl, ready.some, writes free)

  pub of_slots : IsOfSlots place_of len_of x.shape.unit change
  of_slots = record {
    groups = subst (λ (u : ℕ). AllByRecursion (IsFreshStripe place_of len_of u) groups) ready.terms.unit (stripes_fresh place_of content len_of t x.shape bytes plan.chunks 0 groups ready.groups_hold);
    inode = sym (ap (λ (g : Group). g.places) ready.inode_stands.group);
  }

  -- if the new groups hold the bytes that the run has after the write, they hold their part of the file
  held_part : AreTheFiles → HoldPart place_of content len_of l x.shape.unit (bytes_of x) change
  held_part written =
      let u = ready.terms.unit in
      let run = ready.plan_is.run in
      let sum : data_units (groups_of groups) ≡ plan.run.new_units =
      chunk_sum (groups_of groups) (new_units x.shape.unit l offset (length payload) plan.width) plan.width
      (subst (AreChunks (new_units x.shape.unit l offset (length payload) plan.width) plan.width)
      (sym (widths_held place_of content len_of t x.shape bytes plan.chunks 0 groups ready.groups_hold)) ready.plan_is.chunks) ∙ sym run.new_units in
      let first : first_of plan.old l.groups ≡ plan.run.first =
      ap (λ (ns : List ℕ). first_of ns l.groups) ready.plan_is.old ∙ ap length run.affected.before ∙ taken_length l.groups plan.run.first (let within = run.affected.within in omega (arith, within)) in
      let start : data_units (take (first_of plan.old l.groups) l.groups) ≡ plan.run.start = ap (λ (k : ℕ). data_units (take k l.groups)) first ∙ sym run.start in
      let held = run_held place_of content len_of t x.shape bytes plan.chunks 0 groups ready.groups_hold in
      subst (λ (k : ℕ). HoldRun (map (stored_group place_of content len_of) groups)
      (padded_slice (overwrite (bytes_of x) offset payload) (k * x.shape.unit) (data_units (groups_of groups) * x.shape.unit)) x.shape.unit) (sym start)
      (subst (λ (k : ℕ). HoldRun (map (stored_group place_of content len_of) groups)
      (padded_slice (overwrite (bytes_of x) offset payload) (plan.run.start * x.shape.unit) (k * x.shape.unit)) x.shape.unit) (sym sum)
      (subst (λ (bs : List ℕ). HoldRun (map (stored_group place_of content len_of) groups) bs x.shape.unit) written
      (subst (λ (k : ℕ). HoldRun (map (stored_group place_of content len_of) groups) (padded_slice bytes 0 (k * x.shape.unit)) x.shape.unit) sum
      (subst (λ (k : ℕ). HoldRun (map (stored_group place_of content len_of) groups) (padded_slice bytes 0 (data_units (groups_of groups) * k)) k) u held))))
    where
      taken_length : (gs : List Group) (k : ℕ) → k ≤ length gs → length (take k gs) ≡ k
      taken_length gs k within = let taken = length-take k gs in omega (arith, taken, within)

  pub hold_if_fresh : AreTheFiles → HoldIfFresh place_of content len_of x change
  hold_if_fresh written fresh = held_part written
