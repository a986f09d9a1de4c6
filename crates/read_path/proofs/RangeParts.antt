-- What the groups that were pulled for a range hold of it.
use Rattle.std.proofs.Common.{◌≡◌, ℕ, ◌+◌, ◌-◌, ◌*◌, ◌/◌, ◌<◌, ◌≤◌, min, max, nat_lt, Bool, true, false, ◌&&◌, List, [], ◌∷◌, ◌++◌, length, map, take, drop, Option, Some, None, inl, inr, refl, sym, ap, ◌∙◌, arith, rules, append_assoc, append-nil, lt-ltb, zero-mul}
use Rattle.std.specs.List.{AllByRecursion}
use Rattle.std.proofs.Math.Nat.{lt-div-mul-add}
use Rattle.std.proofs.lemmas.Bool.{cases_lt, true≢false}
use Rattle.std.proofs.lemmas.Grind.{flat_map-append}
use Rattle.std.proofs.lemmas.List.{places, same_lists}
use Rattle.std.proofs.lemmas.List.Sums.{sum_by-cons}
use Rattle.flex_io.specs.declared.raw_place.RawPlace.{RawPlace}
use Rattle.board.specs.declared.board_view.View.{View}
use Rattle.domains.specs.Shape.{Shape}
use Rattle.domains.specs.declared.group.Group.{Group}
use Rattle.inode_codec.specs.Inode.{IsInode, data_units}
use Rattle.file_history.specs.Bytes.{slice_of}
use Rattle.file_history.specs.Layout.{Layout, Unit_}
use Rattle.file_history.specs.Live.{holds_byte, range}
use Rattle.file_history.specs.Stored.{inode_of}
use Rattle.file_core.specs.FileView.{FileView, IsFile, bytes_of, layout_of}
use Rattle.pulled_groups.specs.Pulls.{AreAllPulled, ArePulled, IsPulledIf, IsRootPulled}
use Rattle.striped_groups.specs.StoredGroups.{GroupSlots, SpellIn, StoredGroup, list_of, stored_group}
use Rattle.pulled_groups.specs.declared.pull_groups.PulledGroup.{PulledGroup}
use Rattle.file_core.proofs.GroupLookups.{groups_of}
use Rattle.read_path.specs.Segments.{part_of_group, part_of_units, parts_of, segment}
use Rattle.read_path.proofs.SegmentLemmas.{nothing}
use Rattle.read_path.proofs.UnitParts.{parts_join}

-- a group that holds no byte of the range has no part in it
no_part : (unit size offset len start n : ℕ) (bytes : List ℕ) → holds_byte unit size offset len start n ≡ false
    → part_of_units unit offset (min (offset + len) size) bytes start (start + n) ≡ []
no_part unit size offset len start n bytes is =
    nothing bytes (max offset (start * unit)) (min (min (offset + len) size) ((start + n) * unit))
    (ends (min (offset + len) size) (start * unit) ((start + n) * unit) is)
  where
    ends : (stop low high : ℕ) → nat_lt offset stop && (nat_lt low stop && nat_lt offset high) ≡ false → min stop high ≤ max offset low
    ends stop low high is = elim (cases_lt offset stop) [
      | inr past ↦ omega (arith, past)
      | inl some ↦ elim (cases_lt low stop) [
        | inr after ↦ omega (arith, after)
        | inl begins ↦ elim (cases_lt offset high) [
          | inr before ↦ omega (arith, before)
          | inl within ↦ absurd (true≢false (sym (λ i. lt-ltb offset stop some i && (lt-ltb low stop begins i && lt-ltb offset high within i)) ∙ is))
        ]
      ]
    ]

-- a range ends where the file ends
cut_slice : (bytes : List ℕ) (offset len : ℕ) → take (min (offset + len) (length bytes) - offset) (drop offset bytes) ≡ slice_of bytes offset len
cut_slice bytes offset len = same_lists _ _ (search (rules, places)) (λ k d h. grind (arith, places))

module _ {S : Type 0} (place_of : S → RawPlace) (content : S → Option (List ℕ)) (len_of reads : S → ℕ) where
  abbrev groups_in : List (GroupSlots S) → List Group
  groups_in xs = map (λ (g : GroupSlots S). g.group) xs

  one_part : (b : Bool) (shape : Shape) (view : View) (dead : List Unit_) (size offset len start : ℕ) (bytes : List ℕ) (x y : GroupSlots S) (was mid : List PulledGroup)
      → holds_byte shape.unit size offset len start x.group.n ≡ b → IsPulledIf place_of content len_of reads b shape view dead start x y was mid
      → parts_of shape.unit offset (min (offset + len) size) bytes mid
      ≡ parts_of shape.unit offset (min (offset + len) size) bytes was ++ part_of_units shape.unit offset (min (offset + len) size) bytes start (start + x.group.n)
  one_part true shape view dead size offset len start bytes x y was mid is pulled =
      let stop = min (offset + len) size in
      let part = part_of_group shape.unit offset stop bytes in
      ap (parts_of shape.unit offset stop bytes) pulled.2 ∙ flat_map-append part was (pulled.0 ∷ [])
      ∙ ap (λ (l : List ℕ). parts_of shape.unit offset stop bytes was ++ l)
      (append-nil (part pulled.0) ∙ (λ i. part_of_units shape.unit offset stop bytes (pulled.1.start_is i) (pulled.1.start_is i + (pulled.1.group i).n)))
  one_part false shape view dead size offset len start bytes x y was mid is pulled =
      let stop = min (offset + len) size in
      ap (parts_of shape.unit offset stop bytes) pulled.1 ∙ sym (append-nil (parts_of shape.unit offset stop bytes was))
      ∙ ap (λ (l : List ℕ). parts_of shape.unit offset stop bytes was ++ l) (sym (no_part shape.unit size offset len start x.group.n bytes is))

  -- the groups pulled hold what all groups hold of the range
  run_parts : (shape : Shape) (view : View) (dead : List Unit_) (size offset len : ℕ) (bytes : List ℕ) (xs ys : List (GroupSlots S)) (start : ℕ) (was done : List PulledGroup)
      → ArePulled place_of content len_of reads xs ys start shape view dead size (range offset len) was done
      → parts_of shape.unit offset (min (offset + len) size) bytes done
      ≡ parts_of shape.unit offset (min (offset + len) size) bytes was ++ part_of_units shape.unit offset (min (offset + len) size) bytes start (start + data_units (groups_in xs))
  run_parts shape view dead size offset len bytes [] [] start was done pulled =
      let stop = min (offset + len) size in
      let same : (start + data_units []) * shape.unit ≡ start * shape.unit = ap (λ (n : ℕ). n * shape.unit) (let s : start + 0 ≡ start = omega arith in s) in
      ap (parts_of shape.unit offset stop bytes) pulled ∙ sym (append-nil (parts_of shape.unit offset stop bytes was))
      ∙ ap (λ (l : List ℕ). parts_of shape.unit offset stop bytes was ++ l)
      (sym (nothing bytes (max offset (start * shape.unit)) (min stop ((start + data_units []) * shape.unit)) (omega (arith, same))))
  run_parts shape view dead size offset len bytes [] (y ∷ ys) start was done pulled = absurd pulled
  run_parts shape view dead size offset len bytes (x ∷ xs) [] start was done pulled = absurd pulled
  run_parts shape view dead size offset len bytes (x ∷ xs) (y ∷ ys) start was done pulled =
      let stop = min (offset + len) size in
      let n = x.group.n in
      run_parts shape view dead size offset len bytes xs ys (start + n) pulled.0 done pulled.2
      ∙ ap (λ (l : List ℕ). l ++ part_of_units shape.unit offset stop bytes (start + n) (start + n + data_units (groups_in xs)))
      (one_part (holds_byte shape.unit size offset len start n) shape view dead size offset len start bytes x y was pulled.0 refl pulled.1)
      ∙ append_assoc (parts_of shape.unit offset stop bytes was) _ _
      ∙ ap (λ (l : List ℕ). parts_of shape.unit offset stop bytes was ++ l)
      (parts_join shape.unit offset stop bytes start n (data_units (groups_in xs))
      ∙ ap (λ (k : ℕ). part_of_units shape.unit offset stop bytes start (start + k)) (sym (sum_by-cons (λ (g : Group). g.n) x.group (groups_in xs))))

  -- a range asks for no inode
  none_begun : (shape : Shape) (view : View) (dead : List Unit_) (offset len : ℕ) (root root' : Option (GroupSlots S)) (begun : List PulledGroup)
      → IsRootPulled place_of content len_of reads root root' shape view dead (range offset len) begun → begun ≡ []
  none_begun shape view dead offset len None root' begun is = absurd is
  none_begun shape view dead offset len (Some old) None begun is = absurd is
  none_begun shape view dead offset len (Some old) (Some new) begun is = is.2

  inode_spelled : (shape : Shape) (view : View) (dead : List Unit_) (offset len : ℕ) (l : Layout) (root root' : Option (GroupSlots S)) (begun : List PulledGroup)
      → IsRootPulled place_of content len_of reads root root' shape view dead (range offset len) begun
      → AllByRecursion (λ (g : StoredGroup). SpellIn (inode_of shape.unit l) g.contents) (map (stored_group place_of content len_of) (list_of root)) → IsInode (inode_of shape.unit l)
  inode_spelled shape view dead offset len l None root' begun is all = absurd is
  inode_spelled shape view dead offset len l (Some g) root' begun is all = all.0.valid

  units_hold : (unit size units : ℕ) → 1 ≤ unit → units ≡ (size + (unit - 1)) / unit → size ≤ units * unit
  units_hold unit size units some is =
      let more : size + (unit - 1) < (size + (unit - 1)) / unit * unit + unit = lt-div-mul-add some in
      let same : units * unit ≡ (size + (unit - 1)) / unit * unit = ap (λ (n : ℕ). n * unit) is in omega (arith, more, same, some)

  -- what the groups pulled for a range hold of it is the slice of the file's bytes
  pub range_shown : (x : FileView S) (view : View) (offset len : ℕ) (root : Option (GroupSlots S)) (ys : List (GroupSlots S)) (groups : List PulledGroup)
      → IsFile place_of content len_of x
      → AreAllPulled place_of content len_of reads x.shape view (layout_of x).dead (layout_of x).size (range offset len) x.inode root x.groups ys groups
      → parts_of x.shape.unit offset (min (offset + len) (layout_of x).size) (bytes_of x) groups ≡ slice_of (bytes_of x) offset len
  range_shown x view offset len root ys groups is pulled =
      let l = layout_of x in
      let unit = x.shape.unit in
      let bytes = bytes_of x in
      let stop = min (offset + len) l.size in
      let kept = is.slots in
      let inode = inode_spelled x.shape view l.dead offset len l x.inode root pulled.begun pulled.root kept.spelled in
      let units = data_units (groups_in x.groups) in
      let least = inode.least_unit in
      let mapped = groups_of place_of content len_of x.shape l bytes x.groups _ kept in
      let holds = units_hold unit l.size units (omega (arith, least)) (ap data_units mapped ∙ inode.sum) in
      let begins : max offset (0 * unit) ≡ offset = let zero = zero-mul unit in omega (arith, zero) in
      let whole : (0 + units) * unit ≡ units * unit = ap (λ (n : ℕ). n * unit) (let s : 0 + units ≡ units = omega arith in s) in
      let ends : min stop ((0 + units) * unit) ≡ stop = omega (arith, holds, whole) in
      run_parts x.shape view l.dead l.size offset len bytes x.groups ys 0 pulled.begun groups pulled.map
      ∙ ap (λ (b : List PulledGroup). parts_of unit offset stop bytes b ++ part_of_units unit offset stop bytes 0 (0 + units))
      (none_begun x.shape view l.dead offset len x.inode root pulled.begun pulled.root)
      ∙ (λ i. segment bytes (begins i) (ends i))
      ∙ ap (λ (n : ℕ). segment bytes offset (min (offset + len) n)) kept.size
      ∙ cut_slice bytes offset len
