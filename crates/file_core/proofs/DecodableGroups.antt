-- The groups at hand can be decoded, whatever their slots hold.
use Rattle.std.proofs.Common.{◌≡◌, ℕ, ◌+◌, ◌-◌, ◌<◌, ◌≤◌, nat_lt, Bool, true, false, ◌&&◌, ◌||◌, if◌then◌else◌, All, List, [], ◌∷◌, ◌++◌, length, map, Option, Some, None, inl, inr, refl, sym, ap, subst, ◌∙◌, arith, length-append, le-ltb, lt-ltb}
use Rattle.std.specs.List.{AllByRecursion, list_any}
use Rattle.std.proofs.lemmas.Bool.{cases_lt, true≢false}
use Rattle.std.proofs.lemmas.List.Elements.{All-push}
use Rattle.flex_io.specs.declared.raw_place.RawPlace.{RawPlace}
use Rattle.board.specs.declared.board_view.View.{View}
use Rattle.domains.specs.Place.{Place}
use Rattle.domains.specs.Shape.{Shape}
use Rattle.domains.specs.declared.group.Group.{Group}
use Rattle.domains.specs.declared.group.Lost.{Lost}
use Rattle.inode_codec.specs.Inode.{IsInodeGroup}
use Rattle.rs_codes.specs.Codes.{IsCodeSize}
use Rattle.rs_codes.specs.Units.{HeldUnits}
use Rattle.file_history.specs.Layout.{Layout, Unit_, group_list}
use Rattle.file_history.specs.Live.{Part}
use Rattle.file_history.specs.Stored.{inode_of}
use Rattle.file_heads.specs.declared.part.PullRefusal.{PullRefusal}
use Rattle.file_heads.specs.declared.part.PullRefusal.TheVariants as refusal
use Rattle.pulled_groups.specs.declared.pull_groups.PulledGroup.{PulledGroup}
use Rattle.striped_groups.specs.StoredGroups.{GroupSlots, SpellIn, StoredGroup, list_of, stored_group}
use Rattle.file_core.specs.FileInvariant.{KeepsSlots}
use Rattle.pulled_groups.specs.Pulls.{AreAllPulled, ArePulled, AreRead, IsPulled, IsPulledIf, IsRead, IsRootPulled}
use Rattle.file_heads.specs.Parts.{count_live, first_live, first_of, is_asked, is_last, live_at, lost_from, lost_of, needs}
use Rattle.pulled_groups.specs.PullAnswers.{CanDecode, asks_inode}
use Rattle.file_heads.specs.PullRefusals.{first_cause, group_of, refusal_in}
use Rattle.file_core.proofs.GroupLookups.{groups_of}
use Rattle.file_core.proofs.PulledSlots.{root_group}

code_size : (g : Group) → IsInodeGroup g → IsCodeSize g.n g.m
code_size g is =
    let some = is.some_units in
    let most = is.units in
    let more = is.more in record {
      some_data = some;
      most_data = most;
      some_correction = is.some_more;
      most_correction = more;
      most = elim (cases_lt 1 g.n) [
        | inl striped ↦ let few = is.striped striped in omega (arith, most, few)
        | inr mirror ↦ omega (arith, mirror, more)
      ];
    }

-- `need` units came to those that were held, at positions below this bound
record AreMore (need bound : ℕ) (was now : HeldUnits) : Type 0 where
  pub count : length now.positions ≡ length was.positions + need
  pub below : All (λ (p : ℕ). p < bound) now.positions
  pub same : now.unit_length ≡ was.unit_length

pub All_push : {A : Type 0} (P : A → Type 0) (xs : List A) (x : A) → AllByRecursion P xs → P x → AllByRecursion P (xs ++ x ∷ [])
All_push P [] x all here = (here, tt)
All_push P (y ∷ ys) x all here = (all.0, All_push P ys x all.1 here)

some_needed : (n : ℕ) → nat_lt 0 n ≡ true → 1 ≤ n
some_needed n is = elim (cases_lt 0 n) [
  | inl some ↦ some
  | inr none ↦ absurd (true≢false (sym is ∙ le-ltb 0 n none))
]

none_needed : (n : ℕ) → nat_lt 0 n ≡ false → n ≤ 0
none_needed n is = elim (cases_lt 0 n) [
  | inl some ↦ absurd (true≢false (sym (lt-ltb 0 n some) ∙ is))
  | inr none ↦ none
]

module _ {S : Type 0} (place_of : S → RawPlace) (content : S → Option (List ℕ)) (len_of reads : S → ℕ) where
  read_one : (need position bound : ℕ) (x y : S) (was mid now : HeldUnits) → 1 ≤ need → position < bound → All (λ (p : ℕ). p < bound) was.positions
      → IsRead place_of content len_of reads true position x y was mid
      → (All (λ (p : ℕ). p < bound) mid.positions → AreMore (need - 1) bound mid now) → AreMore need bound was now
  read_one need position bound x y was mid now some within below read rest =
      let longer : length mid.positions ≡ length was.positions + 1 =
      ap (λ (h : HeldUnits). length h.positions) read.3 ∙ length-append was.positions (position ∷ []) in
      let more = rest (subst (λ (h : HeldUnits). All (λ (p : ℕ). p < bound) h.positions) (sym read.3) (All-push (λ (p : ℕ). p < bound) was.positions position below within)) in
      let count = more.count in record {
        count = omega (arith, count, longer, some);
        below = more.below;
        same = more.same ∙ ap (λ (h : HeldUnits). h.unit_length) read.3;
      }

  -- of places where enough units are live, as many are read as are needed
  are_more : (places : List Place) (need position bound : ℕ) (live : ℕ → Place → Bool) (xs ys : List S) (was now : HeldUnits)
      → need ≤ count_live places position live → position + length places ≤ bound → All (λ (p : ℕ). p < bound) was.positions
      → AreRead place_of content len_of reads (first_live places need position live) xs ys position was now → AreMore need bound was now
  are_more [] need position bound live [] [] was now enough within below read =
      subst (AreMore need bound was) (sym read) (record { count = omega (arith, enough); below = below; same = refl })
  are_more [] need position bound live [] (y ∷ ys) was now enough within below read = absurd read
  are_more [] need position bound live (x ∷ xs) ys was now enough within below read = absurd read
  are_more (s ∷ ss) need position bound live [] ys was now enough within below read = absurd read
  are_more (s ∷ ss) need position bound live (x ∷ xs) [] was now enough within below read = absurd read
  are_more (s ∷ ss) need position bound live (x ∷ xs) (y ∷ ys) was now enough within below read =
      at (nat_lt 0 need) (live position s) refl enough read
      (λ left mid enough below read. are_more ss left (position + 1) bound live xs ys mid now enough (omega (arith, within)) below read)
    where
      Rest : Type 0
      Rest = (left : ℕ) (mid : HeldUnits) → left ≤ count_live ss (position + 1) live → All (λ (p : ℕ). p < bound) mid.positions
          → AreRead place_of content len_of reads (first_live ss left (position + 1) live) xs ys (position + 1) mid now → AreMore left bound mid now

      at : (some here : Bool) → nat_lt 0 need ≡ some → need ≤ (if here then 1 else 0) + count_live ss (position + 1) live
          → (mid : HeldUnits) × IsRead place_of content len_of reads (some && here) position x y was mid
          × AreRead place_of content len_of reads (first_live ss (if some && here then need - 1 else need) (position + 1) live) xs ys (position + 1) mid now
          → Rest → AreMore need bound was now
      at false here is enough read rest =
          let none = none_needed need is in
          subst (λ (h : HeldUnits). AreMore need bound h now) read.1.1
          (rest need read.0 (omega (arith, none)) (subst (λ (h : HeldUnits). All (λ (p : ℕ). p < bound) h.positions) (sym read.1.1) below) read.2)
      at true false is enough read rest =
          subst (λ (h : HeldUnits). AreMore need bound h now) read.1.1
          (rest need read.0 (omega (arith, enough)) (subst (λ (h : HeldUnits). All (λ (p : ℕ). p < bound) h.positions) (sym read.1.1) below) read.2)
      at true true is enough read rest =
          read_one need position bound x y was read.0 now (some_needed need is) (omega (arith, within)) below read.1
          (λ here. rest (need - 1) read.0 (omega (arith, enough)) here read.2)

  abbrev the_loss : Shape → View → List Unit_ → Group → Lost
  the_loss shape view dead g = record { generation = g.generation; have = count_live g.places 0 (live_at shape view dead g.generation); need = g.n }

  enough_live : (shape : Shape) (view : View) (dead : List Unit_) (g : Group) → lost_of shape view dead g ≡ None
      → g.n ≤ count_live g.places 0 (live_at shape view dead g.generation)
  enough_live shape view dead g none =
      at (nat_lt (count_live g.places 0 (live_at shape view dead g.generation)) g.n) refl none
    where
      at : (b : Bool) → nat_lt (count_live g.places 0 (live_at shape view dead g.generation)) g.n ≡ b
          → (if b then Some (the_loss shape view dead g) else None) ≡ None → g.n ≤ count_live g.places 0 (live_at shape view dead g.generation)
      at true is none = absurd (no_some none)
        where
          no_some : Some (the_loss shape view dead g) ≡ None → ⊥
          no_some h = cc
      at false is none = elim (cases_lt (count_live g.places 0 (live_at shape view dead g.generation)) g.n) [
        | inl short ↦ absurd (true≢false (sym (lt-ltb (count_live g.places 0 (live_at shape view dead g.generation)) g.n short) ∙ is))
        | inr enough ↦ enough
      ]

  can_decode : (shape : Shape) (view : View) (dead : List Unit_) (start unit : ℕ) (old new : GroupSlots S) (p : PulledGroup) → IsInodeGroup old.group
      → lost_of shape view dead old.group ≡ None → IsPulled place_of content len_of reads shape view dead start unit old new p → CanDecode unit p
  can_decode shape view dead start unit old new p is live pulled =
      let whole = is.whole in
      let more = are_more old.group.places old.group.n 0 (old.group.n + old.group.m) (live_at shape view dead old.group.generation) old.slots new.slots
      (record { unit_length = unit; positions = []; units = [] }) p.have (enough_live shape view dead old.group live) (omega (arith, whole))
      (λ k d below. absurd (omega (arith, below))) pulled.read in
      let count = more.count in
      let as_many : length p.have.positions ≡ old.group.n = omega (arith, count) in
      let size = code_size old.group is in record {
        size = subst (λ (g : Group). IsCodeSize g.n g.m) (sym pulled.group) size;
        enough = subst (λ (g : Group). length p.have.positions ≡ g.n) (sym pulled.group) as_many;
        positions = subst (λ (g : Group). All (λ (q : ℕ). q < g.n + g.m) p.have.positions) (sym pulled.group) more.below;
        unit_is = more.same;
      }

  can_all : (b : Bool) (shape : Shape) (view : View) (dead : List Unit_) (start : ℕ) (x y : GroupSlots S) (was mid : List PulledGroup) → IsInodeGroup x.group
      → (if b then lost_of shape view dead x.group else None) ≡ None → IsPulledIf place_of content len_of reads b shape view dead start x y was mid
      → AllByRecursion (CanDecode shape.unit) was → AllByRecursion (CanDecode shape.unit) mid
  can_all true shape view dead start x y was mid is live pulled all =
      subst (AllByRecursion (CanDecode shape.unit)) (sym pulled.2)
      (All_push (CanDecode shape.unit) was pulled.0 all (can_decode shape view dead start shape.unit x y pulled.0 is live pulled.1))
  can_all false shape view dead start x y was mid is live pulled all = subst (AllByRecursion (CanDecode shape.unit)) (sym pulled.1) all

  no_loss : (here later : Option Lost) → first_of here later ≡ None → (here ≡ None) × (later ≡ None)
  no_loss None later none = (refl, none)
  no_loss (Some lost) later none = absurd (no_some none)
    where
      no_some : Some lost ≡ None → ⊥
      no_some h = cc

  can_run : (shape : Shape) (view : View) (dead : List Unit_) (size : ℕ) (part : Part) (xs ys : List (GroupSlots S)) (start : ℕ) (was done : List PulledGroup)
      → AllByRecursion IsInodeGroup (map (λ (g : GroupSlots S). g.group) xs)
      → lost_from (map (λ (g : GroupSlots S). g.group) xs) start shape view dead size part ≡ None
      → ArePulled place_of content len_of reads xs ys start shape view dead size part was done
      → AllByRecursion (CanDecode shape.unit) was → AllByRecursion (CanDecode shape.unit) done
  can_run shape view dead size part [] [] start was done are live pulled all = subst (AllByRecursion (CanDecode shape.unit)) (sym pulled) all
  can_run shape view dead size part [] (y ∷ ys) start was done are live pulled all = absurd pulled
  can_run shape view dead size part (x ∷ xs) [] start was done are live pulled all = absurd pulled
  can_run shape view dead size part (x ∷ xs) (y ∷ ys) start was done are live pulled all =
      let none = no_loss _ _ live in
      can_run shape view dead size part xs ys (start + x.group.n) pulled.0 done are.1 none.1 pulled.2
      (can_all (needs shape.unit size part start x.group (is_last xs)) shape view dead start x y was pulled.0 are.0
      (subst (λ (b : Bool). (if needs shape.unit size part start x.group b then lost_of shape view dead x.group else None) ≡ None) (same_last xs) none.0) pulled.1 all)
    where
      same_last : (xs : List (GroupSlots S)) → is_last (map (λ (g : GroupSlots S). g.group) xs) ≡ is_last xs
      same_last [] = refl
      same_last (x ∷ xs) = refl

  -- where the part does not ask for the inode's group, that is not at hand
  pub none_begun : (shape : Shape) (view : View) (dead : List Unit_) (part : Part) (root root' : Option (GroupSlots S)) (begun : List PulledGroup)
      → IsRootPulled place_of content len_of reads root root' shape view dead part begun
      → list_any (is_asked part) (group_list (group_of root)) ≡ false → begun ≡ []
  none_begun shape view dead part None root' begun is asks = absurd is
  none_begun shape view dead part (Some old) None begun is asks = absurd is
  none_begun shape view dead part (Some old) (Some new) begun is asks = is.2 ∙ no_group (is_asked part old.group) is.0 asks
    where
      no_group : (b : Bool) (p : PulledGroup) → (b || false) ≡ false → (if b then p ∷ [] else []) ≡ []
      no_group true p h = absurd (true≢false h)
      no_group false p h = refl

  -- each group of the map at hand can be decoded
  pub decodes_data : (shape : Shape) (view : View) (l : Layout) (part : Part) (bytes : List ℕ) (xs ys : List (GroupSlots S)) (root root' : Option (GroupSlots S)) (groups : List PulledGroup)
      → KeepsSlots shape l bytes (map (stored_group place_of content len_of) xs) (map (stored_group place_of content len_of) (list_of root))
      → refusal_in (group_of root) l.groups shape view l.dead l.size part ≡ None
      → AreAllPulled place_of content len_of reads shape view l.dead l.size part root root' xs ys groups → asks_inode l part ≡ false
      → AllByRecursion (CanDecode shape.unit) groups
  decodes_data shape view l part bytes xs ys root root' groups kept live pulled asks =
      let mapped = groups_of place_of content len_of shape l bytes xs _ kept in
      let is = root_group place_of content len_of shape l bytes _ root kept in
      can_run shape view l.dead l.size part xs ys 0 pulled.begun groups
      (subst (AllByRecursion IsInodeGroup) (sym mapped) (spelled root kept.spelled pulled.root))
      (subst (λ (gs : List Group). lost_from gs 0 shape view l.dead l.size part ≡ None) (sym mapped) (none_lost (group_of root) live)) pulled.map
      (subst (AllByRecursion (CanDecode shape.unit))
      (sym (none_begun shape view l.dead part root root' pulled.begun pulled.root (sym (ap (λ (o : Option Group). list_any (is_asked part) (group_list o)) is) ∙ asks))) tt)
    where
      spelled : (o : Option (GroupSlots S)) → AllByRecursion (λ (g : StoredGroup). SpellIn (inode_of shape.unit l) g.contents) (map (stored_group place_of content len_of) (list_of o))
          → IsRootPulled place_of content len_of reads o root' shape view l.dead part pulled.begun → AllByRecursion IsInodeGroup l.groups
      spelled None all is = absurd is
      spelled (Some g) all is = all.0.valid.groups

      no_refusal : (r : PullRefusal) → Some r ≡ None → ⊥
      no_refusal r h = cc

      no_cause : (unknown : Option ℕ) (lost : Option Lost) → first_cause unknown lost ≡ None → lost ≡ None
      no_cause None None none = refl
      no_cause None (Some lost) none = absurd (no_refusal (refusal.Lost lost) none)
      no_cause (Some generation) lost none = absurd (no_refusal (refusal.Unknown generation) none)

      none_lost : (o : Option Group) → refusal_in o l.groups shape view l.dead l.size part ≡ None → lost_from l.groups 0 shape view l.dead l.size part ≡ None
      none_lost None none = absurd (no_refusal refusal.Absent none)
      none_lost (Some g) none = (no_loss _ _ (no_cause _ _ none)).1
