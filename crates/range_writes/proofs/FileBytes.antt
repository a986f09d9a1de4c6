-- The bytes of a file are bytes, since its groups hold codewords of them.
use Rattle.std.proofs.Common.{◌≡◌, ℕ, zero, suc, ◌+◌, ◌-◌, ◌*◌, ◌≤◌, ◌<◌, inl, inr, List, [], ◌∷◌, ◌++◌, All, length, map, take, get_or, replicate, Option, refl, sym, ap, subst, ◌∙◌, arith}
use Rattle.std.specs.List.{AllByRecursion, flat_map}
use Rattle.std.proofs.lemmas.Bool.{cases_lt}
use Rattle.std.proofs.lemmas.List.{get_or_append_left, get_or-append_right, get_or_past, get_or-take, length-map, length-take}
use Rattle.flex_io.specs.declared.raw_place.RawPlace.{RawPlace}
use Rattle.galois.specs.Codeword.{IsCodeword, unit_at}
use Rattle.galois.specs.Field.{IsByte}
use Rattle.galois.proofs.PolynomialValues.{value-byte}
use Rattle.held_slots.specs.Slots.{place_from}
use Rattle.striped_groups.specs.StoredGroups.{Content, GroupSlots, HoldEach, HoldRun, HoldsUnits, StandsThere, StoredGroup, stored_group}
use Rattle.file_core.specs.FileView.{FileView, IsFile, bytes_of}
use Rattle.write_rule.specs.NewBytes.{padded_slice}
use Rattle.write_rule.proofs.NewBytesByPlace.{at, overwrite_before, overwrite_behind, overwrite_within, padded_at, slice_at, slice_length}
use Rattle.file_history.specs.Bytes.{overwrite}

-- each element is a byte
abbrev pub AreBytes : List ℕ → Type 0
AreBytes xs = (i : ℕ) → IsByte (at xs i)

pub each_byte : (xs : List ℕ) → All IsByte xs → AreBytes xs
each_byte xs all i = elim (cases_lt i (length xs)) [
  | inl within ↦ all i 0 within
  | inr past ↦ subst IsByte (sym (get_or_past xs i 0 (omega (arith, past)))) (omega arith)
]

none_are : AreBytes []
none_are i = omega arith

pub bytes_append : (xs ys : List ℕ) → AreBytes xs → AreBytes ys → AreBytes (xs ++ ys)
bytes_append xs ys left right i = elim (cases_lt i (length xs)) [
  | inl early ↦ subst IsByte (sym (get_or_append_left xs ys 0 i early)) (left i)
  | inr late ↦ subst IsByte (sym (get_or-append_right xs ys (length xs) i 0 refl late)) (right (i - length xs))
]

flat_bytes : (us : List (List ℕ)) → AllByRecursion AreBytes us → AreBytes (flat_map (λ (u : List ℕ). u) us)
flat_bytes [] each = none_are
flat_bytes (u ∷ us) each = bytes_append u (flat_map (λ (v : List ℕ). v) us) each.0 (flat_bytes us each.1)

-- all bytes of a slice are bytes
pub slice_bytes : (xs : List ℕ) (start len : ℕ) → AreBytes xs → AreBytes (padded_slice xs start len)
slice_bytes xs start len are i = elim (cases_lt i len) [
  | inl within ↦ subst IsByte (sym (slice_at xs start len i within)) (are (start + i))
  | inr past ↦ subst IsByte (sym (get_or_past (padded_slice xs start len) i 0 (let long = slice_length xs start len in omega (arith, past, long)))) (omega arith)
]

-- and so are those of a file after a write
pub overwrite_bytes : (old : List ℕ) (offset : ℕ) (bytes : List ℕ) → AreBytes old → AreBytes bytes → AreBytes (overwrite old offset bytes)
overwrite_bytes old offset bytes olds news i = elim (cases_lt i offset) [
  | inl before ↦ subst IsByte (sym (overwrite_before old offset bytes i before)) (olds i)
  | inr from ↦ elim (cases_lt i (offset + length bytes)) [
    | inl within ↦ subst IsByte (sym (overwrite_within old offset bytes i (omega (arith, from)) within)) (news (i - offset))
    | inr behind ↦ subst IsByte (sym (overwrite_behind old offset bytes i (omega (arith, behind)))) (olds i)
  ]
]

-- a codeword's units are of bytes
unit_bytes : (n m : ℕ) (units : List (List ℕ)) → IsCodeword n m units → n + m ≤ 256 → (i : ℕ) → i < length units → AreBytes (unit_at units i)
unit_bytes n m units word few i within k = elim (cases_lt k (length (unit_at units 0))) [
  | inl inside ↦
      let column = word.columns k inside in
      let many = word.count in
      subst IsByte (sym (column.1.takes i within)) (value-byte column.0 i column.1.bytes (omega (arith, within, many, few)))
  | inr past ↦ subst IsByte (sym (get_or_past (unit_at units i) k 0 (let long = word.equal i [] within in omega (arith, past, long)))) (omega arith)
]

each_unit : (us : List (List ℕ)) → ((i : ℕ) → i < length us → AreBytes (unit_at us i)) → AllByRecursion AreBytes us
each_unit [] each = tt
each_unit (u ∷ us) each = (each 0 (omega arith), each_unit us (λ i below. each (suc i) (omega (arith, below))))

held_length : (xs : List Content) (us : List (List ℕ)) → HoldEach xs us → length xs ≡ length us
held_length [] [] holds = refl
held_length [] (u ∷ us) holds = absurd holds
held_length (x ∷ xs) [] holds = absurd holds
held_length (x ∷ xs) (u ∷ us) holds = ap suc (held_length xs us holds.1)

-- the data that slots hold
units_bytes : (unit n m : ℕ) (bytes : List ℕ) (contents : List Content) → n + m ≤ 256 → HoldsUnits unit n m bytes contents → AreBytes bytes
units_bytes unit n m bytes contents few holds =
    subst AreBytes holds.joined (flat_bytes (take n holds.units) (each_unit (take n holds.units)
    (λ i below.
    let taken = length-take n holds.units in
    let many = holds.codeword.count in
    subst AreBytes (sym (get_or-take n holds.units i [] (omega (arith, below, taken, many))))
    (unit_bytes n m holds.units holds.codeword few i (omega (arith, below, taken))))))

module _ {S : Type 0} (place_of : S → RawPlace) (content : S → Option (List ℕ)) (len_of : S → ℕ) where
  -- the bytes that groups hold
  run_bytes : (gs : List (GroupSlots S)) (bytes : List ℕ) (unit : ℕ) → AllByRecursion StandsThere (map (stored_group place_of content len_of) gs)
      → HoldRun (map (stored_group place_of content len_of) gs) bytes unit → AreBytes bytes
  run_bytes [] bytes unit stands holds = subst AreBytes (sym holds) none_are
  run_bytes (g ∷ gs) bytes unit stands holds =
      let front = holds.0 in
      let rest = holds.1 in
      let units = holds.3 in
      let held = held_length (map content g.slots) units.units units.held in
      let many = units.codeword.count in
      let slots = length-map g.slots content in
      let places = length-map g.slots (λ (y : S). place_from (place_of y)) in
      let few = stands.0.few in
      subst AreBytes (sym holds.2)
      (bytes_append front rest (units_bytes unit g.group.n g.group.m front (map content g.slots) (omega (arith, held, many, slots, places, few)) units)
      (run_bytes gs rest unit stands.1 holds.4))

  -- the bytes of a file
  pub file_bytes : (x : FileView S) → IsFile place_of content len_of x → AreBytes (bytes_of x)
  file_bytes x is i =
      subst IsByte (padded_at (bytes_of x) is.slots.zeros i)
      (run_bytes x.groups (bytes_of x ++ replicate is.slots.zeros 0) x.shape.unit is.slots.stands is.slots.run i)
