-- What the plan of a write gives for the bytes and the places of its new groups.
use Rattle.std.proofs.Common.{◌≡◌, ℕ, ◌+◌, ◌-◌, ◌*◌, ◌/◌, ◌^◌, ◌<◌, ◌≤◌, max, inr, List, length, take, Option, sym, ap, subst, ◌∙◌, arith}
use Rattle.std.specs.List.{AllByRecursion}
use Rattle.std.proofs.lemmas.Nat.{div_below}
use Rattle.board.specs.declared.board_view.View.{View}
use Rattle.domains.specs.Level.{IsLevel, Level}
use Rattle.flex_io.specs.declared.raw_place.RawPlace.{RawPlace}
use Rattle.inode_codec.specs.Inode.{IsInode, data_units, units_for}
use Rattle.rs_codes.specs.Codes.{IsCodeSize}
use Rattle.file_history.specs.Bytes.{overwrite}
use Rattle.file_history.specs.Live.{write}
use Rattle.file_history.specs.Refusals.{is_usable}
use Rattle.file_history.specs.Stored.{inode_of}
use Rattle.file_history.specs.WriteRule.{new_units}
use Rattle.domains.specs.Room.{room_of}
use Rattle.file_core.specs.FileView.{FileView, IsFile, bytes_of, layout_of, now_of}
use Rattle.file_heads.specs.Parts.{needs}
use Rattle.write_rule.specs.NewBytes.{StaysAround, bytes_of as new_bytes_of, padded_slice}
use Rattle.write_rule.specs.Runs.{last_unit, run_of}
use Rattle.write_rule.specs.declared.new_bytes.NewBytes.{NewBytes}
use Rattle.write_rule.proofs.NewBytesByPlace.{new_bytes}
use Rattle.write_plans.specs.Plans.{IsPlan}
use Rattle.write_plans.specs.declared.plan.WritePlan.{WritePlan}
use Rattle.write_plans.proofs.PresentInodes.{inode_is}
use Rattle.write_plans.proofs.RunBounds.{run_within}
use Rattle.write_units.specs.Laws.{CoverRun, HoldsRange, NeededGroupsCoverRuns, RunsHoldWrites}
use Rattle.write_units.specs.Spans.{Span, spans_with}
use Rattle.placed_runs.specs.declared.terms.RunTerms.{RunTerms}
use Rattle.range_writes.specs.ReadyWrites.{AreTermsOf}
use Rattle.range_writes.proofs.LegalWrites.{chunk_length, each_chunk, width_within}
use Rattle.range_writes.proofs.LevelSizes.{code_sizes}

-- a quotient of small numbers is small
small_div : (n k : ℕ) → 1 ≤ k → n < 2 ^ 33 → n / k < 2 ^ 33
small_div n k some small = div_below n k (2 ^ 33) some (wider k some)
  where
    wider : (k : ℕ) → 1 ≤ k → n < 2 ^ 33 * k
    wider k some = omega (arith, some, small)

module _ {S : Type 0} (place_of : S → RawPlace) (content : S → Option (List ℕ)) (len_of : S → ℕ) (x : FileView S) (view : View) (t : RunTerms) (plan : WritePlan) (offset len : ℕ)
    (is : IsFile place_of content len_of x) (planned : IsPlan (now_of x view) (layout_of x) offset len plan) (some : 1 ≤ len) where
  valid : IsInode (inode_of x.shape.unit (layout_of x))
  valid = inode_is place_of content len_of x is planned.present

  pub holds_range : RunsHoldWrites → HoldsRange x.shape.unit (layout_of x).size offset len plan.run
  holds_range law = law x.shape.unit (layout_of x) offset len plan.width plan.run valid some planned.run

  pub covers_run : RunsHoldWrites → NeededGroupsCoverRuns → (spans : List Span) → spans ≡ spans_with (layout_of x).groups 0 (needs x.shape.unit (layout_of x).size (write offset len plan.width))
      → CoverRun x.shape.unit (layout_of x).size offset len plan.run spans
  covers_run law covers spans spans_are =
      subst (CoverRun x.shape.unit (layout_of x).size offset len plan.run) (sym spans_are)
      (covers x.shape.unit (layout_of x) offset len plan.width plan.run valid some planned.run (holds_range law))

  -- the numbers of the run are small
  pub run_small : offset + len < 2 ^ 32 → (plan.run.start + plan.run.new_units < 2 ^ 34) × (plan.run.start + plan.run.units < 2 ^ 34)
  run_small within =
      let l = layout_of x in
      let run = planned.run in
      let least = valid.least_unit in
      let most = valid.most_unit in
      let size = valid.size in
      let sum : data_units l.groups ≡ units_for x.shape.unit l.size = valid.sum in
      let last : last_unit x.shape.unit offset len < 2 ^ 33 = small_div (offset + len - 1) x.shape.unit (omega (arith, least)) (omega (arith, within)) in
      let all : units_for x.shape.unit l.size < 2 ^ 33 = small_div (l.size + (x.shape.unit - 1)) x.shape.unit (omega (arith, least)) (omega (arith, size, most)) in
      let ends = run_within l.groups plan.run.first plan.run.count in
      let covers = run.affected.covers in
      let new = run.new_units in
      let start = run.start in
      let units = run.units in
      (both (last_unit x.shape.unit offset len) (data_units (take plan.run.first l.groups)) (data_units (run_of l.groups plan.run.first plan.run.count)) _ (data_units l.groups) last
      (omega (arith, sum, all)) ends plan.run.start plan.run.new_units plan.run.units start new units covers)
    where
      both : (last front units new all : ℕ) → last < 2 ^ 33 → all < 2 ^ 33 → front + units ≤ all → (start told count : ℕ) → start ≡ front → told ≡ new → count ≡ units
          → front + new ≡ max (last + 1) (front + units) → (start + told < 2 ^ 34) × (start + count < 2 ^ 34)
      both last front units new all low high within start told count a b c covers = (omega (arith, low, high, within, a, b, covers), omega (arith, high, within, a, c))

  pub few_chunks : length plan.chunks ≤ 256
  few_chunks =
      let many = chunk_length plan.chunks (new_units x.shape.unit (layout_of x) offset len plan.width) plan.width planned.wide planned.chunks in
      let most = planned.may.groups in
      omega (arith, many, most)

  pub sizes : AreTermsOf x view t → IsLevel t.level → AllByRecursion (λ (n : ℕ). IsCodeSize n t.level.m) plan.chunks
  sizes terms level =
      let narrow = width_within (layout_of x).requested (room_of (layout_of x).requested x.shape (is_usable (now_of x view) (layout_of x))) plan.width planned.may.wide in
      let same : t.level.w ≡ (layout_of x).requested.w = ap (λ (v : Level). v.w) terms.level in
      code_sizes t.level plan.width plan.chunks level (omega (arith, narrow, same))
      (each_chunk plan.chunks (new_units x.shape.unit (layout_of x) offset len plan.width) plan.width planned.wide planned.chunks)

  -- the bytes around the payload are those of the run after the write
  pub bytes_written : (payload : List ℕ) (b : NewBytes) → HoldsRange x.shape.unit (layout_of x).size offset len plan.run → len ≡ length payload
      → StaysAround (bytes_of x) (plan.run.start * x.shape.unit) ((plan.run.start + plan.run.new_units) * x.shape.unit) offset (length payload) b → b.payload.now ≡ payload
      → padded_slice (new_bytes_of b) 0 (plan.run.new_units * x.shape.unit)
      ≡ padded_slice (overwrite (bytes_of x) offset payload) (plan.run.start * x.shape.unit) (plan.run.new_units * x.shape.unit)
  bytes_written payload b holds long stays payload_is =
      let low = holds.begins in
      let high = holds.ends in
      let whole = spread plan.run.start plan.run.new_units x.shape.unit in
      new_bytes (bytes_of x) payload (plan.run.start * x.shape.unit) ((plan.run.start + plan.run.new_units) * x.shape.unit) offset b stays payload_is low (omega (arith, high, long)) 0
      (plan.run.new_units * x.shape.unit) (inr (omega (arith, whole)))
      ∙ ap (λ (n : ℕ). padded_slice (overwrite (bytes_of x) offset payload) n (plan.run.new_units * x.shape.unit)) (let none : plan.run.start * x.shape.unit + 0 ≡ plan.run.start * x.shape.unit = omega arith in none)
    where
      spread : (a b c : ℕ) → (a + b) * c ≡ a * c + b * c
      spread a b c = grind arith
