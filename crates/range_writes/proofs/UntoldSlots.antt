-- Slots of a type that tells nothing may be said to hold any bytes, so what a write makes ready holds the file's in either case.
use Rattle.std.proofs.Common.{◌≡◌, ℕ, suc, ◌+◌, ◌*◌, ◌≤◌, ◌<◌, List, [], ◌∷◌, All, length, map, Option, None, Some, IsSome, refl, sym, ap, subst, ◌∙◌, arith}
use Rattle.std.specs.List.{AllByRecursion}
use Rattle.std.proofs.lemmas.Bool.{false≢true}
use Rattle.std.proofs.lemmas.List.{ext_get_or}
use Rattle.board.specs.declared.board_view.View.{View}
use Rattle.domains.specs.Level.{IsLevel, Level}
use Rattle.domains.specs.Room.{room_of}
use Rattle.domains.specs.Shape.{Shape}
use Rattle.file_history.specs.Bytes.{overwrite}
use Rattle.file_history.specs.Refusals.{is_usable}
use Rattle.file_history.specs.WriteRule.{new_units}
use Rattle.flex_io.specs.Slots.{Holds}
use Rattle.flex_io.specs.declared.raw_place.RawPlace.{RawPlace}
use Rattle.galois.specs.Field.{IsByte}
use Rattle.rs_codes.specs.Codes.{IsCodeSize}
use Rattle.striped_groups.specs.StoredGroups.{AllTell, Content, GroupSlots, HoldEach, HoldsUnits}
use Rattle.file_core.specs.FileView.{FileView, IsFile, bytes_of, layout_of, now_of}
use Rattle.write_rule.specs.NewBytes.{padded_slice}
use Rattle.write_rule.proofs.NewBytesByPlace.{at, slice_at, slice_length}
use Rattle.write_plans.specs.declared.plan.WritePlan.{WritePlan}
use Rattle.write_units.proofs.DataCodewords.{are_units_for, data_word}
use Rattle.placed_runs.specs.declared.terms.RunTerms.{RunTerms}
use Rattle.range_writes.specs.ReadyWrites.{IsReadyWrite}
use Rattle.range_writes.specs.StandingRuns.{HoldBytes}
use Rattle.range_writes.proofs.FileBytes.{AreBytes, file_bytes, overwrite_bytes, slice_bytes}
use Rattle.range_writes.proofs.LegalWrites.{each_chunk, width_within}
use Rattle.range_writes.proofs.LevelSizes.{code_sizes}

-- a slice from the first byte on of as many bytes as there are is the whole
slice_whole : (xs : List ℕ) (len : ℕ) → length xs ≡ len → padded_slice xs 0 len ≡ xs
slice_whole xs len long =
    let sliced = slice_length xs 0 len in
    ext_get_or 0 (padded_slice xs 0 len) xs (sliced ∙ sym long) (λ i below. slice_at xs 0 len i (omega (arith, below, sliced)) ∙ ap (at xs) (let here : 0 + i ≡ i = omega arith in here))

module _ {S : Type 0} (place_of : S → RawPlace) (content : S → Option (List ℕ)) (len_of : S → ℕ) (untold : (y : S) → content y ≡ None) where
  none_held : (slots : List S) (units : List (List ℕ)) → length slots ≡ length units → HoldEach (map content slots) units
  none_held [] [] same = tt
  none_held [] (u ∷ us) same = absurd (omega (arith, same))
  none_held (y ∷ ys) [] same = absurd (omega (arith, same))
  none_held (y ∷ ys) (u ∷ us) same = (subst (λ (c : Content). Holds c u) (sym (untold y)) tt, none_held ys us (omega (arith, same)))

  -- groups that hold some bytes may be said to hold others
  retold : (t : RunTerms) (shape : Shape) (bytes others : List ℕ) → AreBytes others → (chunks : List ℕ) (from : ℕ) (groups : List (GroupSlots S))
      → AllByRecursion (λ (n : ℕ). IsCodeSize n t.level.m) chunks → HoldBytes place_of content len_of t shape bytes from chunks groups
      → HoldBytes place_of content len_of t shape others from chunks groups
  retold t shape bytes others are [] from [] sizes holds = tt
  retold t shape bytes others are [] from (g ∷ gs) sizes holds = absurd holds
  retold t shape bytes others are (n ∷ ns) from [] sizes holds = absurd holds
  retold t shape bytes others are (n ∷ ns) from (g ∷ gs) sizes holds =
      let m = t.level.m in
      let part = padded_slice others from (n * t.unit) in
      let most = sizes.0.most in
      let units = are_units_for n m t.unit part sizes.0.some_data (omega (arith, most)) (slice_length others from (n * t.unit)) (slice_bytes others from (n * t.unit) are) in (
        record {
          stands = holds.0.stands;
          holds = record {
            units = data_word n m t.unit part;
            codeword = units.codeword;
            lengths = units.lengths;
            joined = units.joined;
            held = none_held g.slots (data_word n m t.unit part) (holds.0.stands.whole ∙ sym units.codeword.count);
          };
          sized = holds.0.sized;
        },
        retold t shape bytes others are ns (from + n * t.unit) gs sizes.1 holds.1,
      )

-- what was made ready, with bytes that are those of the run in the file after the write
pub record IsSettled {S : Type 0} (place_of : S → RawPlace) (content : S → Option (List ℕ)) (len_of : S → ℕ) (x : FileView S) (view : View) (t : RunTerms) (plan : WritePlan)
    (offset : ℕ) (payload : List ℕ) (groups : List (GroupSlots S)) (inode : GroupSlots S) : Type 0 where
  pub bytes : List ℕ
  pub ready : IsReadyWrite place_of content len_of x view t plan offset payload bytes groups inode
  pub written : padded_slice bytes 0 (plan.run.new_units * x.shape.unit)
      ≡ padded_slice (overwrite (bytes_of x) offset payload) (plan.run.start * x.shape.unit) (plan.run.new_units * x.shape.unit)

module _ {S : Type 0} (place_of : S → RawPlace) (content : S → Option (List ℕ)) (len_of : S → ℕ) (alike : (one other : S) → IsSome (content one) → IsSome (content other))
    (x : FileView S) (view : View) (t : RunTerms) (plan : WritePlan) (offset : ℕ) (payload bytes : List ℕ) (groups : List (GroupSlots S)) (inode : GroupSlots S)
    (is : IsFile place_of content len_of x) (sized : IsLevel t.level) (are : AreBytes payload)
    (ready : IsReadyWrite place_of content len_of x view t plan offset payload bytes groups inode) where
  -- where all slots tell
  told : AllTell content → IsSettled place_of content len_of x view t plan offset payload groups inode
  told tell = record { bytes = bytes; ready = ready; written = ready.written tell }

  -- where none does
  not_told : ((y : S) → content y ≡ None) → IsSettled place_of content len_of x view t plan offset payload groups inode
  not_told untold =
      let new = overwrite (bytes_of x) offset payload in
      let len = plan.run.new_units * x.shape.unit in
      let part = padded_slice new (plan.run.start * x.shape.unit) len in
      let same = slice_whole part len (slice_length new (plan.run.start * x.shape.unit) len) in
      record {
        bytes = part;
        ready = record {
          plan_is = ready.plan_is;
          some = ready.some;
          terms = ready.terms;
          groups_hold = retold place_of content len_of untold t x.shape bytes part
              (slice_bytes new (plan.run.start * x.shape.unit) len (overwrite_bytes (bytes_of x) offset payload (file_bytes place_of content len_of x is) are))
              plan.chunks 0 groups sizes ready.groups_hold;
          inode_stands = ready.inode_stands;
          written = λ tell. same;
        };
        written = same;
      }
    where
      narrow : plan.width ≤ t.level.w
      narrow =
          let within = width_within (layout_of x).requested (room_of (layout_of x).requested x.shape (is_usable (now_of x view) (layout_of x))) plan.width ready.plan_is.may.wide in
          subst (λ (v : Level). plan.width ≤ v.w) (sym ready.terms.level) within

      sizes : AllByRecursion (λ (n : ℕ). IsCodeSize n t.level.m) plan.chunks
      sizes = code_sizes t.level plan.width plan.chunks sized narrow
          (each_chunk plan.chunks (new_units x.shape.unit (layout_of x) offset (length payload) plan.width) plan.width ready.plan_is.wide ready.plan_is.chunks)

  -- one of its slots says which
  by_content : (y : S) (o : Option (List ℕ)) → o ≡ content y → IsSettled place_of content len_of x view t plan offset payload groups inode
  by_content y None is_none = not_told (λ z. no_content z (content z) refl)
    where
      no_content : (z : S) (o : Option (List ℕ)) → o ≡ content z → content z ≡ None
      no_content z None same = sym same
      no_content z (Some told_bytes) same = absurd (false≢true (subst IsSome (sym is_none) (alike z y (subst IsSome same refl))))
  by_content y (Some told_bytes) is_some = told (λ z. alike y z (subst IsSome is_some refl))

  by_slots : (slots : List S) → 1 ≤ length slots → IsSettled place_of content len_of x view t plan offset payload groups inode
  by_slots [] some = absurd (omega (arith, some))
  by_slots (y ∷ ys) some = by_content y (content y) refl

  pub settled : IsSettled place_of content len_of x view t plan offset payload groups inode
  settled = by_slots inode.slots (let whole = ready.inode_stands.whole in omega (arith, whole))
