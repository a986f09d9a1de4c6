-- Ranges of a file of one unit.
use Rattle.std.proofs.Common.{◌≡◌, ℕ, ◌+◌, ◌-◌, ◌*◌, ◌<◌, ◌≤◌, min, Bool, true, false, ◌&&◌, ◌||◌, cond, ltb, List, [], ◌∷◌, ◌++◌, length, replicate, take, drop, All, Option, Some, None, is_none, refl, sym, ap, subst, ◌∙◌, inl, inr, arith}
use Rattle.std.proofs.lemmas.Bool.{cases_lt, lt-ltb, le-ltb, and_from, and_left, and_right}
use Rattle.std.proofs.lemmas.List.{take-append-le, drop-append-le, take_min, length-drop}
use Rattle.flex_io.specs.Slots.{Holds}
use Rattle.std.specs.List.{AllByRecursion}
use Rattle.flex_io.specs.declared.raw_place.RawPlace.{RawPlace}
use Rattle.domains.specs.Drive.{Drive}
use Rattle.domains.specs.Place.{Place, is_place_of}
use Rattle.domains.specs.Shape.{Shape}
use Rattle.domains.specs.Level.{two_copies}
use Rattle.domains.specs.declared.by.By.{By}
use Rattle.domains.specs.declared.group.Group.{Group}
use Rattle.domains.specs.declared.group.Lost.{Lost}
use Rattle.board_history.specs.Board.{up_after}
use Rattle.board_history.specs.declared.entry.BoardEntry.{BoardEntry}
use Rattle.file_history.specs.Bytes.{slice_of, bytes_after}
use Rattle.file_history.specs.Layout.{Layout}
use Rattle.file_history.specs.Live.{range, holds_byte, short_in, first_short}
use Rattle.plain_file.specs.LastMoment.{last_moment}
use Rattle.file_history.specs.Step.{Shows}
use Rattle.domains.specs.Counts.{one_if}
use Rattle.held_slots.specs.Slots.{place_from}
use Rattle.plain_file.specs.Slots.{Tell}
use Rattle.plain_file.specs.FreeOrder.{HasLowerNumber}
use Rattle.plain_file.specs.Mirrors.{slots_of, mirror_of, IsMirror, AreCopies}
use Rattle.plain_file.specs.LiveMirrors.{live_pair, lost_mirror}
use Rattle.plain_file.specs.Plain.{StockView}
use Rattle.galois.specs.Field.{IsByte}
use Rattle.inode_codec.specs.Inode as inode_words
use Rattle.file_history.specs.Stored as stored_words
use Rattle.plain_file.specs.FileParts.{is_present, inode_text, layout_of, units_of, inode_slots, HoldsFile, KeepsFile, HasBytes, SameFileSlots, Played}
use Rattle.file_history.specs.declared.entry.FileEvent.TheVariants.{Shown}
use Rattle.file_history.specs.declared.entry.NotedEntry.{NotedEntry}
use Rattle.plain_file.specs.declared.op.PlainOp.TheVariants as plain
use Rattle.plain_file.specs.declared.pair.Pair.{Pair}
use Rattle.plain_file.specs.declared.file_slots.FileSlots.{FileSlots}
use Rattle.plain_file.specs.declared.file_slots.FileSlots.TheVariants.{Absent, Empty, Written}
use Rattle.file_history.proofs.HistoryGrowth.{layout_from-push, bytes_from-push}
use Rattle.plain_file.proofs.FileTurns.{layout_present}

-- the one group of a file holds a byte of the range where the range and the file have one
pub one_group : (unit size offset len : ℕ) → size ≤ unit → holds_byte unit size offset len 0 1 ≡ ltb 0 len && ltb offset size
one_group unit size offset len fits =
    let stop : ℕ = min (offset + len) size in
    elim (cases_lt 0 len) [
      | inl some ↦ elim (cases_lt offset size) [
        | inl within ↦
            and_from _ _ (lt-ltb offset stop (omega arith)) (and_from _ _ (lt-ltb (0 * unit) stop (omega arith)) (lt-ltb offset ((0 + 1) * unit) (omega arith)))
            ∙ sym (and_from _ _ (lt-ltb 0 len some) (lt-ltb offset size within))
        | inr past ↦ and_left _ _ (le-ltb offset stop (omega arith)) ∙ sym (and_right _ _ (le-ltb offset size past))
      ]
      | inr none ↦ and_left _ _ (le-ltb offset stop (omega arith)) ∙ sym (and_left _ _ (le-ltb 0 len none))
    ]

-- the range of a padded unit that ends within the file is the range of the file
pub slice_padded : (told zeros : List ℕ) (offset len size stop : ℕ) → length told ≡ size → stop ≡ min (offset + len) size → offset < size
    → take (stop - offset) (drop offset (told ++ zeros)) ≡ slice_of told offset len
slice_padded told zeros offset len size stop whole ends within =
    let rest : length (drop offset told) ≡ length told - offset = length-drop offset told in
    let shorter : stop - offset ≤ length (drop offset told) = omega (arith, rest, whole, ends) in
    let as_min : stop - offset ≡ min len (length (drop offset told)) = omega (arith, rest, whole, ends) in
    ap (take (stop - offset)) (drop-append-le offset told zeros (omega arith))
    ∙ take-append-le (stop - offset) (drop offset told) zeros shorter
    ∙ ap (λ (n : ℕ). take n (drop offset told)) as_min
    ∙ take_min len (drop offset told)

-- a mirror of which a unit is live is passed over, and another is lost
short_cases : (a b : Bool) (generation : ℕ) (rest : Option Lost)
    → cond (ltb (cond (a && true) 1 0 + (cond (b && true) 1 0 + 0)) 1)
    (Some (record { generation = generation; have = cond (a && true) 1 0 + (cond (b && true) 1 0 + 0); need = 1 })) rest
    ≡ cond (a || b) rest (Some (record { generation = generation; have = 0; need = 1 }))
short_cases true true generation rest = refl
short_cases true false generation rest = refl
short_cases false true generation rest = refl
short_cases false false generation rest = refl

live_if_found : (live : Bool) (generation : ℕ) → lost_mirror generation live ≡ None → live ≡ true
live_if_found true generation h = refl
live_if_found false generation h = cc

told_content : (o : Option (List ℕ)) (bytes : List ℕ) → one_if (is_none o) ≡ 0 → Holds o bytes → o ≡ Some bytes
told_content None bytes told holds = absurd (omega (arith, told))
told_content (Some b) bytes told holds = ap Some holds

module _ {S : Type 0} (place_of : S → RawPlace) (content : S → Option (List ℕ)) where
  -- the inode is live, and the group holds bytes of the range: what the range lacks is what the group lacks
  pub short_second : (shape : Shape) (board : List BoardEntry) (size : ℕ) (units inode : Pair S) (offset len : ℕ) → size ≤ shape.unit
      → (ltb 0 len && ltb offset size) ≡ true → lost_mirror 2 (live_pair place_of shape board inode) ≡ None
      → lost_mirror 1 (live_pair place_of shape board units) ≡ first_short (last_moment shape board) (layout_of place_of (Written size units inode)) (range offset len)
  short_second shape board size units inode offset len fits touched found =
      let l : Layout = layout_of place_of (Written size units inode) in
      let up : Drive → Bool = up_after shape board (length board) in
      let holds : holds_byte shape.unit size offset len 0 1 ≡ true = one_group shape.unit size offset len fits ∙ touched in
      let group : Group = mirror_of place_of 1 units in
      sym (
      short_cases (up (place_from (place_of inode.first)).drive) (up (place_from (place_of inode.second)).drive) 2
      (short_in (cond (holds_byte shape.unit size offset len 0 1) (group ∷ []) []) (last_moment shape board) l)
      ∙ ap (λ b. cond b (short_in (cond (holds_byte shape.unit size offset len 0 1) (group ∷ []) []) (last_moment shape board) l)
      (Some (record { generation = 2; have = 0; need = 1 }))) (live_if_found _ 2 found)
      ∙ ap (λ b. short_in (cond b (group ∷ []) []) (last_moment shape board) l) holds
      ∙ short_cases (up (place_from (place_of units.first)).drive) (up (place_from (place_of units.second)).drive) 1 None
      )

  same_layout : (old new : FileSlots S) → SameFileSlots place_of content old new → layout_of place_of old ≡ layout_of place_of new
  same_layout Absent new same = ap (layout_of place_of) (sym same)
  same_layout (Empty inode) new same = ap (layout_of place_of) (sym same)
  same_layout (Written size units inode) Absent same = absurd same
  same_layout (Written size units inode) (Empty other) same = absurd same
  same_layout (Written size units inode) (Written more others other) same =
      let a : place_from (place_of units.first) ≡ place_from (place_of others.first) = ap place_from (sym same.1.first_place) in
      let b : place_from (place_of units.second) ≡ place_from (place_of others.second) = ap place_from (sym same.1.second_place) in
      let made : ℕ → Place → Place → Pair S → Layout = λ n s t i. record (layout_of place_of (Written n units i)) {
        groups = record { generation = 1; n = 1; m = 1; places = s ∷ t ∷ [] } ∷ [];
      } in
      ap (λ n. made n (place_from (place_of units.first)) (place_from (place_of units.second)) inode) (sym same.0)
      ∙ ap (λ s. made more s (place_from (place_of units.second)) inode) a
      ∙ ap (λ t. made more (place_from (place_of others.first)) t inode) b
      ∙ ap (λ i. made more (place_from (place_of others.first)) (place_from (place_of others.second)) i) (sym same.2)

  same_holds : (shape : Shape) (old new : FileSlots S) (bytes : List ℕ) → SameFileSlots place_of content old new
      → HoldsFile place_of content shape old bytes → HoldsFile place_of content shape new bytes
  same_holds shape Absent new bytes same holds = subst (λ (st : FileSlots S). HoldsFile place_of content shape st bytes) (sym same) holds
  same_holds shape (Empty inode) new bytes same holds = subst (λ (st : FileSlots S). HoldsFile place_of content shape st bytes) (sym same) holds
  same_holds shape (Written size units inode) Absent bytes same holds = absurd same
  same_holds shape (Written size units inode) (Empty other) bytes same holds = absurd same
  same_holds shape (Written size units inode) (Written more others other) bytes same holds =
      let text : List ℕ → Pair S → Type 0 = λ b i. AreCopies content i b in
      let layouts = same_layout (Written size units inode) (Written more others other) same in (
        holds.0 ∙ sym same.0,
        subst (λ n. 1 ≤ n) (sym same.0) holds.1,
        subst (λ n. n ≤ shape.unit) (sym same.0) holds.2,
        record {
          first = ap (λ (r : RawPlace). is_place_of shape (place_from r)) same.1.first_place ∙ holds.3.first;
          second = ap (λ (r : RawPlace). is_place_of shape (place_from r)) same.1.second_place ∙ holds.3.second;
          apart = λ h. holds.3.apart (ap (λ (r : RawPlace). r.node) (sym same.1.first_place) ∙ h ∙ ap (λ (r : RawPlace). r.node) same.1.second_place);
        },
        subst (IsMirror place_of shape) (sym same.2) holds.4,
        record {
          first = subst (λ n. Holds (content others.first) (bytes ++ replicate (shape.unit - n) 0)) (sym same.0)
              (subst (λ o. Holds o (bytes ++ replicate (shape.unit - size) 0)) (sym same.1.first_content) holds.5.first);
          second = subst (λ n. Holds (content others.second) (bytes ++ replicate (shape.unit - n) 0)) (sym same.0)
              (subst (λ o. Holds o (bytes ++ replicate (shape.unit - size) 0)) (sym same.1.second_content) holds.5.second);
        },
        subst (λ (i : Pair S). AreCopies content i (inode_text place_of content shape (Written more others other))) (sym same.2)
            (subst (λ (l : Layout). AreCopies content inode (inode_words.inode_bytes (stored_words.inode_of shape.unit l))) layouts holds.6),
      )

  same_tell : (old new : FileSlots S) → SameFileSlots place_of content old new → Tell content (units_of old) → Tell content (inode_slots old)
      → Tell content (units_of new) × Tell content (inode_slots new)
  same_tell Absent new same units inode = subst (λ (st : FileSlots S). Tell content (units_of st) × Tell content (inode_slots st)) (sym same) (units, inode)
  same_tell (Empty i) new same units inode = subst (λ (st : FileSlots S). Tell content (units_of st) × Tell content (inode_slots st)) (sym same) (units, inode)
  same_tell (Written size us i) Absent same units inode = absurd same
  same_tell (Written size us i) (Empty other) same units inode = absurd same
  same_tell (Written size us i) (Written more others other) same units inode =
      let first : one_if (is_none (content others.first)) ≡ one_if (is_none (content us.first)) = ap (λ o. one_if (is_none o)) same.1.first_content in
      let second : one_if (is_none (content others.second)) ≡ one_if (is_none (content us.second)) = ap (λ o. one_if (is_none o)) same.1.second_content in
      let told : (0 + one_if (is_none (content us.first))) + one_if (is_none (content us.second)) ≡ 0 = units in
      (omega (arith, first, second, told), subst (λ (p : Pair S). Tell content (inode_slots (Written more others p))) (sym same.2) inode)

  -- a file whose slots tell has the bytes that its log says
  bytes_told : (shape : Shape) (standing : FileSlots S) (bytes : List ℕ) → HoldsFile place_of content shape standing bytes
      → Tell content (units_of standing) → HasBytes content shape standing bytes
  bytes_told shape Absent bytes holds told = holds
  bytes_told shape (Empty inode) bytes holds told = holds.0
  bytes_told shape (Written size units inode) bytes holds told =
      let both : (0 + one_if (is_none (content units.first))) + one_if (is_none (content units.second)) ≡ 0 = told in (
        holds.0,
        holds.2,
        record {
          first = told_content _ _ (omega (arith, both)) holds.5.first;
          second = told_content _ _ (omega (arith, both)) holds.5.second;
        },
      )

  -- the inode of a file without a group is where it was
  same_kept : (old new : FileSlots S) (free : List S) → SameFileSlots place_of content old new
      → (units_of old ≡ [] → AllByRecursion (HasLowerNumber place_of free) (inode_slots old))
      → units_of new ≡ [] → AllByRecursion (HasLowerNumber place_of free) (inode_slots new)
  same_kept Absent new free same = subst (λ (st : FileSlots S). units_of st ≡ [] → AllByRecursion (HasLowerNumber place_of free) (inode_slots st)) (sym same)
  same_kept (Empty i) new free same = subst (λ (st : FileSlots S). units_of st ≡ [] → AllByRecursion (HasLowerNumber place_of free) (inode_slots st)) (sym same)
  same_kept (Written size us i) Absent free same = absurd same
  same_kept (Written size us i) (Empty other) free same = absurd same
  same_kept (Written size us i) (Written more others other) free same = λ kept none. absurd (some_slots others none)
    where
      some_slots : (pair : Pair S) → slots_of pair ≡ [] → ⊥
      some_slots pair h = cc

  -- the bytes were shown
  pub shown_played : (by : By) (shape : Shape) (offset len : ℕ) (bytes : List ℕ) (log later : List NotedEntry) (old new : FileSlots S) (stock : StockView S)
      → later ≡ log ++ record { entry = record { by = by; epoch = length stock.board; event = Shown offset len bytes }; payload = [] } ∷ []
      → KeepsFile place_of content shape log old → is_present old ≡ true
      → first_short (last_moment shape stock.board) (layout_of place_of old) (range offset len) ≡ None
      → ((told : List ℕ) → HasBytes content shape old told → bytes ≡ slice_of told offset len)
      → SameFileSlots place_of content old new
      → Played place_of content by (plain.Read offset len) shape log later old new stock stock
  shown_played by shape offset len bytes log later old new stock grown inside present readable shown same =
      let t : NotedEntry = record { entry = record { by = by; epoch = length stock.board; event = Shown offset len bytes }; payload = [] } in
      record {
        plays = record {
          event = Shown offset len bytes;
          answers = refl;
          told = t;
          is_told = refl;
          log = grown;
          legal = subst (λ (l : Layout). Shows (last_moment shape stock.board) l offset len) (sym inside.layout) (record {
            present = layout_present place_of content old ∙ present;
            readable = readable;
          });
          shown = λ tell. shown (bytes_after log) (bytes_told shape old (bytes_after log) inside.holds tell.units);
        };
        inside = subst (λ (l : List NotedEntry). KeepsFile place_of content shape l new) (sym grown) (record {
          layout = layout_from-push log t two_copies _ ∙ inside.layout ∙ same_layout old new same;
          holds = subst (HoldsFile place_of content shape new) (sym (bytes_from-push log t [])) (same_holds shape old new (bytes_after log) same inside.holds);
          bytes = subst (All IsByte) (sym (bytes_from-push log t [])) inside.bytes;
        });
        tell = λ tell.
            let both = same_tell old new same tell.units tell.inode in
            record { units = both.0; inode = both.1; free = tell.free; retired = tell.retired };
        ordered = λ kept. record { free = kept.free; inode = same_kept old new stock.free same kept.inode };
      }
