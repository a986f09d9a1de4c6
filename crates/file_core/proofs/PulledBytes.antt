-- What the units at hand are, where all slots tell.
use Rattle.std.proofs.Common.{◌≡◌, ℕ, ◌+◌, ◌*◌, ◌<◌, Bool, true, false, ◌||◌, if◌then◌else◌, All, List, [], ◌∷◌, ◌++◌, length, map, get_or, take, drop, replicate, Option, Some, None, IsSome, zero, suc, refl, sym, ap, subst, ◌∙◌, arith, append_assoc, append-nil, length-append}
use Rattle.std.specs.List.{AllByRecursion, flat_map, list_any}
use Rattle.std.proofs.lemmas.Bool.{false≢true}
use Rattle.std.proofs.lemmas.List.{map-append}
use Rattle.std.proofs.lemmas.List.Elements.{All-push}
use Rattle.std.proofs.Math.Seq.{get_or-append_seam, take-append_seam, drop-append_seam}
use Rattle.flex_io.specs.Slots.{Holds}
use Rattle.flex_io.specs.declared.raw_place.RawPlace.{RawPlace}
use Rattle.board.specs.declared.board_view.View.{View}
use Rattle.domains.specs.Shape.{Shape}
use Rattle.domains.specs.declared.group.Group.{Group}
use Rattle.galois.specs.Codeword.{unit_at}
use Rattle.inode_codec.specs.Inode.{inode_bytes}
use Rattle.rs_codes.specs.Codes.{AreUnitsOf}
use Rattle.rs_codes.specs.Units.{HeldUnits}
use Rattle.file_history.specs.Bytes.{slice_of}
use Rattle.file_history.specs.Layout.{Layout, Unit_, group_list}
use Rattle.file_history.specs.Live.{Part}
use Rattle.file_history.specs.Stored.{inode_of}
use Rattle.pulled_groups.specs.declared.pull_groups.PulledGroup.{PulledGroup}
use Rattle.striped_groups.specs.StoredGroups.{AllTell, Content, GroupSlots, StoredGroup, HoldEach, HoldRun, HoldsUnits, stored_group, list_of}
use Rattle.file_core.specs.FileInvariant.{KeepsSlots}
use Rattle.pulled_groups.specs.Pulls.{AreAllPulled, ArePulled, AreRead, IsPulled, IsPulledIf, IsRead}
use Rattle.file_heads.specs.Parts.{first_live, is_asked, is_last, live_at, needs}
use Rattle.pulled_groups.specs.PullAnswers.{ShowsGroup, ShowsInode, asks_inode}
use Rattle.file_heads.specs.PullRefusals.{group_of}
use Rattle.file_core.proofs.DecodableGroups.{All_push, none_begun}

All_take : {A : Type 0} (P : A → Type 0) (n : ℕ) (xs : List A) → AllByRecursion P xs → AllByRecursion P (take n xs)
All_take P zero xs all = tt
All_take P (suc n) [] all = tt
All_take P (suc n) (x ∷ xs) all = (all.0, All_take P n xs all.1)

take_count : {A : Type 0} (n m : ℕ) (xs : List A) → length xs ≡ n + m → length (take n xs) ≡ n
take_count zero m xs is = refl
take_count (suc n) m [] is = absurd (omega (arith, is))
take_count (suc n) m (x ∷ xs) is = let rest = take_count n m xs (omega (arith, is)) in omega (arith, rest)

nothing : (n : ℕ) → 0 * n ≡ 0
nothing n = omega arith

joined_length : (unit : ℕ) (us : List (List ℕ)) → AllByRecursion (λ (u : List ℕ). length u ≡ unit) us → length (flat_map (λ (u : List ℕ). u) us) ≡ length us * unit
joined_length unit [] all = sym (nothing unit)
joined_length unit (u ∷ us) all =
    let rest = joined_length unit us all.1 in
    let here = all.0 in
    let both = length-append u (flat_map (λ (u : List ℕ). u) us) in omega (arith, both, here, rest)

seam : {A : Type 0} (done : List A) (x : A) (left : List A) (i : ℕ) (d : A) → length done ≡ i → get_or (done ++ x ∷ left) i d ≡ x
seam done x left i d count = ap (λ (n : ℕ). get_or (done ++ x ∷ left) n d) (sym count) ∙ get_or-append_seam done x left d

told_same : (o : Content) (u w : List ℕ) → IsSome o → Holds o u → Holds o w → u ≡ w
told_same None u w told mine its = absurd (false≢true told)
told_same (Some t) u w told mine its = sym mine ∙ its

-- the units held are those of this word at their positions
pub record IsOf (word : List (List ℕ)) (held : HeldUnits) : Type 0 where
  pub units : held.units ≡ map (unit_at word) held.positions
  pub within : All (λ (p : ℕ). p < length word) held.positions

module _ {S : Type 0} (place_of : S → RawPlace) (content : S → Option (List ℕ)) (len_of reads : S → ℕ) (tell : AllTell content) where
  read_one : (word : List (List ℕ)) (w : List ℕ) (position : ℕ) (x y : S) (was now : HeldUnits) → Holds (content x) w → unit_at word position ≡ w
      → position < length word → IsRead place_of content len_of reads true position x y was now → IsOf word was → IsOf word now
  read_one word w position x y was now holds at within read is =
      subst (IsOf word) (sym read.3) (record {
        units = ap (λ (us : List (List ℕ)). us ++ read.1 ∷ []) is.units
            ∙ ap (λ (u : List ℕ). map (unit_at word) was.positions ++ u ∷ []) (told_same (content x) read.1 w (tell x) read.2 holds ∙ sym at)
            ∙ sym (map-append (unit_at word) was.positions (position ∷ []));
        within = All-push (λ (p : ℕ). p < length word) was.positions position is.within within;
      })

  are_read : (flags : List Bool) (xs ys : List S) (before ws : List (List ℕ)) (position : ℕ) (was now : HeldUnits) → HoldEach (map content xs) ws
      → length before ≡ position → AreRead place_of content len_of reads flags xs ys position was now → IsOf (before ++ ws) was → IsOf (before ++ ws) now
  are_read [] [] [] before ws position was now hold count read is = subst (IsOf (before ++ ws)) (sym read) is
  are_read [] [] (y ∷ ys) before ws position was now hold count read is = absurd read
  are_read [] (x ∷ xs) ys before ws position was now hold count read is = absurd read
  are_read (f ∷ fs) [] ys before ws position was now hold count read is = absurd read
  are_read (f ∷ fs) (x ∷ xs) [] before ws position was now hold count read is = absurd read
  are_read (f ∷ fs) (x ∷ xs) (y ∷ ys) before [] position was now hold count read is = absurd hold
  are_read (true ∷ fs) (x ∷ xs) (y ∷ ys) before (w ∷ ws) position was now hold count read is =
      let long = length-append before (w ∷ ws) in
      let one = read_one (before ++ w ∷ ws) w position x y was read.0 hold.0 (seam before w ws position [] count) (omega (arith, long, count)) read.1 is in
      let longer = length-append before (w ∷ []) in
      subst (λ (word : List (List ℕ)). IsOf word now) (append_assoc before (w ∷ []) ws)
      (are_read fs xs ys (before ++ w ∷ []) ws (position + 1) read.0 now hold.1 (omega (arith, longer, count)) read.2
      (subst (λ (word : List (List ℕ)). IsOf word read.0) (sym (append_assoc before (w ∷ []) ws)) one))
  are_read (false ∷ fs) (x ∷ xs) (y ∷ ys) before (w ∷ ws) position was now hold count read is =
      let longer = length-append before (w ∷ []) in
      subst (λ (word : List (List ℕ)). IsOf word now) (append_assoc before (w ∷ []) ws)
      (are_read fs xs ys (before ++ w ∷ []) ws (position + 1) read.0 now hold.1 (omega (arith, longer, count)) read.2
      (subst (λ (word : List (List ℕ)). IsOf word read.0) (sym (append_assoc before (w ∷ []) ws)) (subst (IsOf (before ++ w ∷ ws)) (sym read.1.1) is)))

  shows_group : (shape : Shape) (view : View) (dead : List Unit_) (bytes front : List ℕ) (zeros start unit : ℕ) (old new : GroupSlots S) (p : PulledGroup)
      → HoldsUnits unit old.group.n old.group.m front (map content old.slots) → front ≡ slice_of (bytes ++ replicate zeros 0) (start * unit) (old.group.n * unit)
      → IsPulled place_of content len_of reads shape view dead start unit old new p → ShowsGroup unit bytes p
  shows_group shape view dead bytes front zeros start unit old new p holds slice pulled =
      let is = are_read (first_live old.group.places old.group.n 0 (live_at shape view dead old.group.generation)) old.slots new.slots [] holds.units 0
      (record { unit_length = unit; positions = []; units = [] }) p.have holds.held refl pulled.read (record { units = refl; within = λ k d below. absurd (omega (arith, below)) }) in record {
        word = holds.units;
        units = subst (λ (g : Group). AreUnitsOf g.n g.m holds.units p.have) (sym pulled.group) (record {
          word_is = holds.codeword;
          positions = subst (λ (n : ℕ). All (λ (q : ℕ). q < n) p.have.positions) holds.codeword.count is.within;
          units = is.units;
        });
        lengths = holds.lengths;
        zeros = zeros;
        joined = subst (λ (x : Group × ℕ). flat_map (λ (u : List ℕ). u) (take x.0.n holds.units) ≡ slice_of (bytes ++ replicate zeros 0) (x.1 * unit) (x.0.n * unit))
            (λ i. (sym pulled.group i, sym pulled.start_is i)) (holds.joined ∙ slice);
      }

  front_is : (before front rest whole : List ℕ) (first count : ℕ) → whole ≡ before ++ (front ++ rest) → length before ≡ first → length front ≡ count
      → front ≡ slice_of whole first count
  front_is before front rest whole first count is starts long =
      sym (ap (λ (w : List ℕ). slice_of w first count) is
      ∙ ap (λ (n : ℕ). take count (drop n (before ++ (front ++ rest)))) (sym starts)
      ∙ ap (take count) (drop-append_seam before (front ++ rest))
      ∙ ap (λ (n : ℕ). take n (front ++ rest)) (sym long)
      ∙ take-append_seam front rest)

  one_more : (b : Bool) (shape : Shape) (view : View) (dead : List Unit_) (bytes : List ℕ) (start : ℕ) (x y : GroupSlots S) (was mid : List PulledGroup)
      → ((p : PulledGroup) → IsPulled place_of content len_of reads shape view dead start shape.unit x y p → ShowsGroup shape.unit bytes p)
      → IsPulledIf place_of content len_of reads b shape view dead start x y was mid
      → AllByRecursion (ShowsGroup shape.unit bytes) was → AllByRecursion (ShowsGroup shape.unit bytes) mid
  one_more true shape view dead bytes start x y was mid shows pulled all =
      subst (AllByRecursion (ShowsGroup shape.unit bytes)) (sym pulled.2) (All_push (ShowsGroup shape.unit bytes) was pulled.0 all (shows pulled.0 pulled.1))
  one_more false shape view dead bytes start x y was mid shows pulled all = subst (AllByRecursion (ShowsGroup shape.unit bytes)) (sym pulled.1) all

  shows_run : (shape : Shape) (view : View) (dead : List Unit_) (size : ℕ) (part : Part) (bytes : List ℕ) (zeros : ℕ)
      (xs ys : List (GroupSlots S)) (start : ℕ) (before run : List ℕ) (was done : List PulledGroup)
      → HoldRun (map (stored_group place_of content len_of) xs) run shape.unit → bytes ++ replicate zeros 0 ≡ before ++ run → length before ≡ start * shape.unit
      → ArePulled place_of content len_of reads xs ys start shape view dead size part was done
      → AllByRecursion (ShowsGroup shape.unit bytes) was → AllByRecursion (ShowsGroup shape.unit bytes) done
  shows_run shape view dead size part bytes zeros [] [] start before run was done holds whole starts pulled all =
      subst (AllByRecursion (ShowsGroup shape.unit bytes)) (sym pulled) all
  shows_run shape view dead size part bytes zeros [] (y ∷ ys) start before run was done holds whole starts pulled all = absurd pulled
  shows_run shape view dead size part bytes zeros (x ∷ xs) [] start before run was done holds whole starts pulled all = absurd pulled
  shows_run shape view dead size part bytes zeros (x ∷ xs) (y ∷ ys) start before run was done holds whole starts pulled all =
      let front = holds.0 in
      let rest = holds.1 in
      let units = holds.3 in
      let word = units.units in
      let n = x.group.n in
      let at : bytes ++ replicate zeros 0 ≡ before ++ (front ++ rest) = whole ∙ ap (λ (r : List ℕ). before ++ r) holds.2 in
      let long : length front ≡ n * shape.unit =
      ap (λ (u : List ℕ). length u) (sym units.joined) ∙ joined_length shape.unit (take n word) (All_take (λ (u : List ℕ). length u ≡ shape.unit) n word units.lengths)
      ∙ ap (λ (k : ℕ). k * shape.unit) (take_count n x.group.m word units.codeword.count) in
      let both = length-append before front in
      shows_run shape view dead size part bytes zeros xs ys (start + n) (before ++ front) rest pulled.0 done holds.4
      (at ∙ sym (append_assoc before front rest)) (next start n shape.unit (length before) (length front) (length (before ++ front)) both starts long) pulled.2
      (one_more (needs shape.unit size part start x.group (is_last xs)) shape view dead bytes start x y was pulled.0
      (λ p is. shows_group shape view dead bytes front zeros start shape.unit x y p units (front_is before front rest _ (start * shape.unit) (n * shape.unit) at starts long) is)
      pulled.1 all)
    where
      next : (start n unit a b c : ℕ) → c ≡ a + b → a ≡ start * unit → b ≡ n * unit → c ≡ (start + n) * unit
      next start n unit a b c sum first second = sum ∙ ap (λ (x : ℕ). x + b) first ∙ ap (λ (x : ℕ). start * unit + x) second ∙ sym (mul-right start n unit)
        where
          mul-right : (start n unit : ℕ) → (start + n) * unit ≡ start * unit + n * unit
          mul-right start n unit = search arith

  texts : (text : List ℕ) (flags : List Bool) (xs ys : List S) (position : ℕ) (was now : HeldUnits) → AllByRecursion (λ (c : Content). Holds c text) (map content xs)
      → AreRead place_of content len_of reads flags xs ys position was now
      → AllByRecursion (λ (u : List ℕ). u ≡ text) was.units → AllByRecursion (λ (u : List ℕ). u ≡ text) now.units
  texts text [] [] [] position was now hold read all = subst (λ (h : HeldUnits). AllByRecursion (λ (u : List ℕ). u ≡ text) h.units) (sym read) all
  texts text [] [] (y ∷ ys) position was now hold read all = absurd read
  texts text [] (x ∷ xs) ys position was now hold read all = absurd read
  texts text (f ∷ fs) [] ys position was now hold read all = absurd read
  texts text (f ∷ fs) (x ∷ xs) [] position was now hold read all = absurd read
  texts text (true ∷ fs) (x ∷ xs) (y ∷ ys) position was now hold read all =
      texts text fs xs ys (position + 1) read.0 now hold.1 read.2
      (subst (λ (h : HeldUnits). AllByRecursion (λ (u : List ℕ). u ≡ text) h.units) (sym read.1.3)
      (All_push (λ (u : List ℕ). u ≡ text) was.units read.1.1 all (told_same (content x) read.1.1 text (tell x) read.1.2 hold.0)))
  texts text (false ∷ fs) (x ∷ xs) (y ∷ ys) position was now hold read all =
      texts text fs xs ys (position + 1) read.0 now hold.1 read.2 (subst (λ (h : HeldUnits). AllByRecursion (λ (u : List ℕ). u ≡ text) h.units) (sym read.1.1) all)

  more_at_hand : (shape : Shape) (view : View) (dead : List Unit_) (size : ℕ) (part : Part) (xs ys : List (GroupSlots S)) (start : ℕ) (was done : List PulledGroup)
      → ArePulled place_of content len_of reads xs ys start shape view dead size part was done → (more : List PulledGroup) × (done ≡ was ++ more)
  more_at_hand shape view dead size part [] [] start was done pulled = ([], pulled ∙ sym (append-nil was))
  more_at_hand shape view dead size part [] (y ∷ ys) start was done pulled = absurd pulled
  more_at_hand shape view dead size part (x ∷ xs) [] start was done pulled = absurd pulled
  more_at_hand shape view dead size part (x ∷ xs) (y ∷ ys) start was done pulled =
      let rest = more_at_hand shape view dead size part xs ys (start + x.group.n) pulled.0 done pulled.2 in
      let here = one (needs shape.unit size part start x.group (is_last xs)) pulled.1 in
      (here.0 ++ rest.0, rest.1 ∙ ap (λ (l : List PulledGroup). l ++ rest.0) here.1 ∙ append_assoc was here.0 rest.0)
    where
      one : (b : Bool) → IsPulledIf place_of content len_of reads b shape view dead start x y was pulled.0 → (more : List PulledGroup) × (pulled.0 ≡ was ++ more)
      one true is = (is.0 ∷ [], is.2)
      one false is = ([], is.1 ∙ sym (append-nil was))

  -- the data at hand
  pub shows_data : (shape : Shape) (view : View) (l : Layout) (part : Part) (bytes : List ℕ) (xs ys : List (GroupSlots S)) (root root' : Option (GroupSlots S)) (inode : List StoredGroup)
      (groups : List PulledGroup) → KeepsSlots shape l bytes (map (stored_group place_of content len_of) xs) inode → l.inode ≡ group_of root
      → AreAllPulled place_of content len_of reads shape view l.dead l.size part root root' xs ys groups → asks_inode l part ≡ false
      → AllByRecursion (ShowsGroup shape.unit bytes) groups
  shows_data shape view l part bytes xs ys root root' inode groups kept is pulled asks =
      shows_run shape view l.dead l.size part bytes kept.zeros xs ys 0 [] (bytes ++ replicate kept.zeros 0) pulled.begun groups kept.run refl (sym (nothing shape.unit)) pulled.map
      (subst (AllByRecursion (ShowsGroup shape.unit bytes)) (sym (none_begun place_of content len_of reads shape view l.dead part root root' pulled.begun pulled.root (sym (ap (λ (o : Option Group). list_any (is_asked part) (group_list o)) is) ∙ asks))) tt)

  -- the inode at hand
  pub shows_inode : (shape : Shape) (view : View) (l : Layout) (part : Part) (bytes : List ℕ) (xs ys : List (GroupSlots S)) (root root' : Option (GroupSlots S))
      (stored : List StoredGroup) (groups : List PulledGroup) → KeepsSlots shape l bytes stored (map (stored_group place_of content len_of) (list_of root)) → l.inode ≡ group_of root
      → AreAllPulled place_of content len_of reads shape view l.dead l.size part root root' xs ys groups → asks_inode l part ≡ true
      → ShowsInode shape.unit l groups
  shows_inode shape view l part bytes xs ys None root' stored groups kept is pulled asks = absurd pulled.root
  shows_inode shape view l part bytes xs ys (Some old) None stored groups kept is pulled asks = absurd pulled.root
  shows_inode shape view l part bytes xs ys (Some old) (Some new) stored groups kept is pulled asks =
      let root = pulled.root in
      let more = more_at_hand shape view l.dead l.size part xs ys 0 pulled.begun groups pulled.map in
      let asked = sym (ap (λ (o : Option Group). list_any (is_asked part) (group_list o)) is) ∙ asks in record {
        first = root.0;
        rest = more.0;
        begins = more.1 ∙ ap (λ (b : List PulledGroup). b ++ more.0) (root.2 ∙ one_group (is_asked part old.group) root.0 asked);
        inode = is ∙ ap (λ (g : Group). Some g) (sym root.1.group);
        each = texts (inode_bytes (inode_of shape.unit l)) _ old.slots new.slots 0 _ root.0.have kept.spelled.0.held root.1.read tt;
      }
    where
      one_group : (b : Bool) (p : PulledGroup) → (b || false) ≡ true → (if b then p ∷ [] else []) ≡ p ∷ []
      one_group true p h = refl
      one_group false p h = absurd (false≢true h)
