-- A file whose slots hold it at places of their own is stored at these places.
use Rattle.std.proofs.Common.{◌≡◌, ℕ, zero, suc, ◌+◌, ◌-◌, ◌*◌, ◌/◌, ◌<◌, ◌≤◌, true, false, cond, List, [], ◌∷◌, ◌++◌, length, replicate, map, All, Option, IfSome, get_or, refl, sym, ap, subst, ◌∙◌, arith, append-nil, length-append, Fits, w8, lit≤}
use Rattle.std.proofs.Math.Nat.{div-eq_of_lt}
use Rattle.std.proofs.lemmas.Nat.{div-mul-add}
use Rattle.std.proofs.lemmas.List.{length-replicate}
use Rattle.std.proofs.lemmas.List.Elements.{All-append, All-replicate, All-from_get_or}
use Rattle.flex_io.specs.Slots.{Holds}
use Rattle.flex_io.specs.declared.raw_place.RawPlace.{RawPlace}
use Rattle.domains.specs.Place.{Place, IsPlace, same_place, is_place_of}
use Rattle.domains.specs.Shape.{Shape, IsShape}
use Rattle.domains.specs.declared.by.By.{By}
use Rattle.galois.specs.Field.{IsByte}
use Rattle.galois.specs.Codeword.{unit_at}
use Rattle.galois.proofs.Mirrors.{mirror_codeword}
use Rattle.inode_codec.specs.Inode.{IsInodeGroup, units_for}
use Rattle.file_history.specs.Bytes.{bytes_after}
use Rattle.file_history.specs.Layout.{Layout, group_list, places_of}
use Rattle.file_history.specs.Stored.{IsStored}
use Rattle.domains.specs.Counts.{one_if}
use Rattle.held_slots.specs.Slots.{place_from, count_at}
use Rattle.plain_file.specs.Slots.{content_at}
use Rattle.plain_file.specs.Mirrors.{slots_of, mirror_of, IsMirror}
use Rattle.plain_file.specs.Plain.{StockView, OneEach, KeepsStored}
use Rattle.plain_file.specs.FileParts.{units_of, inode_slots, file_view, layout_of, inode_text, HoldsFile, KeepsFile, Played, Moves}
use Rattle.file_history.specs.declared.entry.NotedEntry.{NotedEntry}
use Rattle.plain_file.specs.declared.op.PlainOp.{PlainOp}
use Rattle.plain_file.specs.declared.pair.Pair.{Pair}
use Rattle.plain_file.specs.declared.file_slots.FileSlots.{FileSlots}
use Rattle.plain_file.specs.declared.file_slots.FileSlots.TheVariants.{Absent, Empty, Written}
use Rattle.domains.proofs.DriveLemmas.{same_place-eq, same_place-self}
use Rattle.domains.proofs.ShapeLemmas.{IsPlace-of, is_place_of-is}
use Rattle.plain_file.proofs.ReleasedSlots.{at_itself}
use Rattle.plain_file.proofs.FileTurns.{mirror_level}

-- a list each of whose entries is a byte
pub bytes_by_entry : (bytes : List ℕ) → ((k : ℕ) → Fits w8 (get_or bytes k 0)) → All IsByte bytes
bytes_by_entry bytes each = All-from_get_or IsByte bytes 0 (λ k within. let fits : Fits w8 (get_or bytes k 0) = each k in omega arith)

-- two places of which one is not hit by the other differ both ways
differ : (a s : Place) → one_if (same_place s a) ≡ 0 → same_place a s ≡ false
differ a s none =
    elim (same_place a s) as (λ x. same_place a s ≡ x → x ≡ false) [
      | true ↦ λ same.
          let hit : one_if (same_place s a) ≡ 1 = ap (λ (t : Place). one_if (same_place s t)) (same_place-eq a s same) ∙ at_itself s in
          absurd (omega (arith, hit, none))
      | false ↦ λ same. refl
    ] refl

-- a file of at most a unit has one
pub units_for_one : (unit size : ℕ) → 1 ≤ size → size ≤ unit → units_for unit size ≡ 1
units_for_one unit size some fits =
    let same : size + (unit - 1) ≡ 1 * unit + (size - 1) = omega arith in
    ap (λ n. n / unit) same ∙ div-mul-add 1 unit (size - 1) (omega arith)

units_for_none : (unit : ℕ) → 8 ≤ unit → units_for unit 0 ≡ 0
units_for_none unit wide = div-eq_of_lt (omega arith)

-- a place of a cluster is within the limits of the format
place_within : (shape : Shape) (s : Place) → IsShape shape → is_place_of shape s ≡ true → IsPlace s
place_within shape s is place = IsPlace-of shape s is (is_place_of-is shape s place)

-- two copies of the bytes are a codeword
copies_word : (bytes : List ℕ) → All IsByte bytes → Rattle.galois.specs.Codeword.IsCodeword 1 1 (bytes ∷ bytes ∷ [])
copies_word bytes all = mirror_codeword 1 (bytes ∷ bytes ∷ []) refl all same
  where
    same : (i : ℕ) → i < 2 → unit_at (bytes ∷ bytes ∷ []) i ≡ bytes
    same zero within = refl
    same (suc zero) within = refl
    same (suc (suc i)) within = absurd (omega (arith, within))

module _ {S : Type 0} (place_of : S → RawPlace) (content : S → Option (List ℕ)) where
  -- how many of the slots stand at the place of this one
  abbrev at : S → S → ℕ
  at y x = one_if (same_place (place_from (place_of y)) (place_from (place_of x)))

  -- what the first slot that stands there holds
  found : (x : S) (xs : List S) (text : List ℕ) → Holds (content x) text
      → IfSome (content_at (x ∷ xs) place_of content (place_from (place_of x))) (λ c. c ≡ text)
  found x xs text holds =
      subst (λ (o : Option (List ℕ)). IfSome o (λ c. c ≡ text))
      (sym (ap (λ b. cond b (content x) (content_at xs place_of content (place_from (place_of x)))) (same_place-self (place_from (place_of x)))))
      holds

  -- what a slot holds that stands behind another
  behind : (y x : S) (xs : List S) (text : List ℕ) → at x y ≡ 0
      → IfSome (content_at xs place_of content (place_from (place_of x))) (λ c. c ≡ text)
      → IfSome (content_at (y ∷ xs) place_of content (place_from (place_of x))) (λ c. c ≡ text)
  behind y x xs text none holds =
      subst (λ (o : Option (List ℕ)). IfSome o (λ c. c ≡ text))
      (sym (ap (λ b. cond b (content y) (content_at xs place_of content (place_from (place_of x)))) (differ (place_from (place_of y)) (place_from (place_of x)) none)))
      holds

  -- a mirror is a group of the format
  mirror_group : (shape : Shape) (generation : ℕ) (pair : Pair S) → IsShape shape → generation ≤ 2 → IsMirror place_of shape pair
      → IsInodeGroup (mirror_of place_of generation pair)
  mirror_group shape generation pair is low mirror = record {
    generation = omega arith;
    some_units = omega arith;
    units = omega arith;
    some_more = omega arith;
    more = omega arith;
    striped = λ h. absurd (omega (arith, h));
    whole = refl;
    places = (place_within shape _ is mirror.first, (place_within shape _ is mirror.second, tt));
    apart = (mirror_level place_of content shape generation pair mirror).apart;
  }

  -- no two of the file's slots stand at one place
  abbrev pub StandApart : FileSlots S → Type 0
  StandApart standing =
      (s : Place) → count_at place_of (same_place s) (units_of standing) + count_at place_of (same_place s) (inode_slots standing) ≤ 1

  stored_absent : (shape : Shape) (bytes : List ℕ) → bytes ≡ []
      → IsStored (content_at [] place_of content) shape.unit (layout_of place_of Absent) bytes
  stored_absent shape bytes none = record {
    inode = tt;
    size = ap length (sym none);
    zeros = 0;
    groups = append-nil bytes ∙ none;
  }

  stored_empty : (shape : Shape) (inode : Pair S) (bytes : List ℕ) → IsShape shape → HoldsFile place_of content shape (Empty inode) bytes
      → StandApart (Empty inode)
      → IsStored (content_at (slots_of inode) place_of content) shape.unit (layout_of place_of (Empty inode)) bytes
  stored_empty shape inode bytes is holds apart =
      let once = apart (place_from (place_of inode.second)) in
      let self = at_itself (place_from (place_of inode.second)) in
      let text : List ℕ = inode_text place_of content shape (Empty inode) in
      record {
        inode = (
          record {
            valid = record {
              level = (9, omega arith, refl);
              least_unit = is.least_unit;
              most_unit = is.most_unit;
              size = lit≤ tt;
              count = lit≤ tt;
              groups = tt;
              generations = tt;
              sum = sym (units_for_none shape.unit is.least_unit);
            };
            places = (
              found inode.first (inode.second ∷ []) text holds.2.first,
              (
                behind inode.first inode.second (inode.second ∷ []) text (omega (arith, once, self))
                    (found inode.second [] text holds.2.second),
                tt,
              ),
            );
          },
          tt,
        );
        size = ap length (sym holds.0);
        zeros = 0;
        groups = append-nil bytes ∙ holds.0;
      }

  stored_written : (shape : Shape) (size : ℕ) (units inode : Pair S) (bytes : List ℕ) → IsShape shape
      → HoldsFile place_of content shape (Written size units inode) bytes → All IsByte bytes → StandApart (Written size units inode)
      → IsStored (content_at (slots_of units ++ slots_of inode) place_of content) shape.unit (layout_of place_of (Written size units inode)) bytes
  stored_written shape size units inode bytes is holds all apart =
      let padded : List ℕ = bytes ++ replicate (shape.unit - size) 0 in
      let text : List ℕ = inode_text place_of content shape (Written size units inode) in
      let wide : length padded ≡ shape.unit =
      let parts = length-append bytes (replicate (shape.unit - size) 0) in
      let zeros = length-replicate {A = ℕ} (shape.unit - size) 0 in
      omega (arith, parts, zeros, holds.0, holds.2) in
      let padded_bytes : All IsByte padded = All-append IsByte bytes (replicate (shape.unit - size) 0) all (All-replicate IsByte (shape.unit - size) 0 (omega arith)) in
      let at_b = apart (place_from (place_of units.second)) in
      let at_c = apart (place_from (place_of inode.first)) in
      let at_d = apart (place_from (place_of inode.second)) in
      let b = at_itself (place_from (place_of units.second)) in
      let c = at_itself (place_from (place_of inode.first)) in
      let d = at_itself (place_from (place_of inode.second)) in
      let i = inode.first in
      let j = inode.second in
      record {
        inode = (
          record {
            valid = record {
              level = (9, omega arith, refl);
              least_unit = is.least_unit;
              most_unit = is.most_unit;
              size = omega (arith, holds.2, is.most_unit);
              count = lit≤ tt;
              groups = (mirror_group shape 1 units is (omega arith) holds.3, tt);
              generations = (tt, tt);
              sum = sym (units_for_one shape.unit size holds.1 holds.2);
            };
            places = (
              behind units.first i (units.second ∷ i ∷ j ∷ []) text (omega (arith, at_c, c))
                  (behind units.second i (i ∷ j ∷ []) text (omega (arith, at_c, c)) (found i (j ∷ []) text holds.6.first)),
              (
                behind units.first j (units.second ∷ i ∷ j ∷ []) text (omega (arith, at_d, d))
                    (behind units.second j (i ∷ j ∷ []) text (omega (arith, at_d, d))
                    (behind i j (j ∷ []) text (omega (arith, at_d, d)) (found j [] text holds.6.second))),
                tt,
              ),
            );
          },
          tt,
        );
        size = sym holds.0;
        zeros = shape.unit - size;
        groups = (
          padded,
          [],
          sym (append-nil padded),
          record {
            units = padded ∷ padded ∷ [];
            codeword = copies_word padded padded_bytes;
            lengths = (wide, (wide, tt));
            joined = append-nil padded;
            places = (
              found units.first (units.second ∷ i ∷ j ∷ []) padded holds.5.first,
              (
                behind units.first units.second (units.second ∷ i ∷ j ∷ []) padded (omega (arith, at_b, b))
                    (found units.second (i ∷ j ∷ []) padded holds.5.second),
                tt,
              ),
            );
          },
          refl,
        );
      }

  stored : (shape : Shape) (standing : FileSlots S) (bytes : List ℕ) → IsShape shape → HoldsFile place_of content shape standing bytes
      → All IsByte bytes → StandApart standing
      → IsStored (content_at (units_of standing ++ inode_slots standing) place_of content) shape.unit (layout_of place_of standing) bytes
  stored shape Absent bytes is holds all apart = stored_absent shape bytes holds
  stored shape (Empty inode) bytes is holds all apart = stored_empty shape inode bytes is holds apart
  stored shape (Written size units inode) bytes is holds all apart = stored_written shape size units inode bytes is holds all apart

  units_stand : (standing : FileSlots S) → map (λ x. place_from (place_of x)) (units_of standing) ≡ places_of (layout_of place_of standing).groups
  units_stand Absent = refl
  units_stand (Empty inode) = refl
  units_stand (Written size units inode) = refl

  inode_stands : (standing : FileSlots S) → map (λ x. place_from (place_of x)) (inode_slots standing) ≡ places_of (group_list (layout_of place_of standing).inode)
  inode_stands Absent = refl
  inode_stands (Empty inode) = refl
  inode_stands (Written size units inode) = refl

  -- what the file keeps inside is what its slots tell
  pub keeps : (shape : Shape) (log : List NotedEntry) (standing : FileSlots S) → IsShape shape → KeepsFile place_of content shape log standing
      → StandApart standing → KeepsStored place_of content (file_view shape log standing)
  keeps shape log standing is inside apart = record {
    units = units_stand standing ∙ ap (λ (l : Layout). places_of l.groups) (sym inside.layout);
    inode = inode_stands standing ∙ ap (λ (l : Layout). places_of (group_list l.inode)) (sym inside.layout);
    stored = subst (λ (l : Layout). IsStored (content_at (units_of standing ++ inode_slots standing) place_of content) shape.unit l (bytes_after log)) (sym inside.layout)
        (stored shape standing (bytes_after log) is inside.holds inside.bytes apart);
  }

  -- so it is after an operation
  pub keeps_played : (by : By) (o : PlainOp) (shape : Shape) (log later : List NotedEntry) (standing left : FileSlots S) (stock rest : StockView S)
      → IsShape shape → OneEach place_of (file_view shape log standing) stock
      → Moves place_of content o shape log later standing left stock rest
      → Played place_of content by o shape log later standing left stock rest
      → KeepsStored place_of content (file_view shape later left)
  keeps_played by o shape log later standing left stock rest is one moves played =
      keeps shape later left is played.inside (λ s.
      let before = one s in
      let same = moves.conserved (same_place s) in
      omega (arith, before, same))
