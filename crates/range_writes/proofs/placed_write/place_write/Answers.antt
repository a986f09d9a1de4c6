-- The bytes around the payload, and the places of the groups.
use Rattle.std.proofs.Common.{◌≡◌, ℕ, ◌+◌, ◌*◌, List, length, refl, sym, ap, subst, ◌∙◌, arith}
use Rattle.std.specs.List.{AllByRecursion}
use Rattle.std.proofs.lemmas.Result.{IfOk-weaker}
use Rattle.domains.specs.Shape.{Shape}
use Rattle.fabric.specs.Views.{fabric_view}
use Rattle.rs_codes.specs.Codes.{IsCodeSize}
use Rattle.file_core.specs.FileView.{bytes_of, layout_of}
use Rattle.pulled_groups.specs.PullAnswers.{ShowsGroup}
use Rattle.pulled_groups.specs.declared.pull_groups.PulledGroup.{PulledGroup}
use Rattle.placed_runs.specs.PlacedRuns.{FindsNoRun, PlacesRun}
use Rattle.placed_runs.proofs.RunSteps.{no_room_in}
use Rattle.write_rule.specs.NewBytes.{StaysAround, bytes_of as new_bytes_of}
use Rattle.write_units.specs.GroupUnits.{IsOldGroup, pulled_spans, spans_of}
use Rattle.write_units.specs.Laws.{CoverRun, HoldsRange}
use Rattle.write_units.specs.declared.old_data.OldGroup.{OldGroup}
use Rattle.range_writes.specs.PlacedWrites.{AreWrittenBytes}
use Rattle.range_writes.proofs.PlannedRuns.{bytes_written, covers_run, few_chunks, holds_range, run_small, sizes}
use Rattle.range_writes.proofs.placed_write.place_write.Given.{Over}
use Rattle.striped_groups.specs.StoredGroups.{AllTell}
use Rattle.range_writes.proofs.placed_write.place_write.Goals as goal

pub bytes_around-bytes-requires-clause-few : goal.bytes_around-bytes-requires-clause-few
bytes_around-bytes-requires-clause-few g c =
    (run_small g.S.Slot.place_of g.S.Slot.content g.S.Slot.len_of c.args.file.now c.args.terms.now.view c.args.terms.now c.args.plan.now c.args.offset (length c.args.payload.now) c.requires.file c.requires.plan c.requires.some c.requires.within).0

pub bytes_around-bytes-requires-clause-most : goal.bytes_around-bytes-requires-clause-most
bytes_around-bytes-requires-clause-most g c =
    (run_small g.S.Slot.place_of g.S.Slot.content g.S.Slot.len_of c.args.file.now c.args.terms.now.view c.args.terms.now c.args.plan.now c.args.offset (length c.args.payload.now) c.requires.file c.requires.plan c.requires.some c.requires.within).1

pub bytes_around-bytes-requires-clause-holds : goal.bytes_around-bytes-requires-clause-holds
bytes_around-bytes-requires-clause-holds g c =
    subst (λ (n : ℕ). HoldsRange c.args.terms.now.unit n c.args.offset (length c.args.payload.now) c.args.plan.now.run) (sym c.requires.size)
    (subst (λ (u : ℕ). HoldsRange u (layout_of c.args.file.now).size c.args.offset (length c.args.payload.now) c.args.plan.now.run) (sym c.requires.terms.unit)
    (holds_range g.S.Slot.place_of g.S.Slot.content g.S.Slot.len_of c.args.file.now c.args.terms.now.view c.args.terms.now c.args.plan.now c.args.offset (length c.args.payload.now) c.requires.file c.requires.plan c.requires.some
    c.runs_hold_writes.ensures))

pub bytes_around-bytes-requires-clause-covers : goal.bytes_around-bytes-requires-clause-covers
bytes_around-bytes-requires-clause-covers g c =
    subst (λ (n : ℕ). CoverRun c.args.terms.now.unit n c.args.offset (length c.args.payload.now) c.args.plan.now.run (spans_of c.deref.result.now)) (sym c.requires.size)
    (subst (λ (u : ℕ). CoverRun u (layout_of c.args.file.now).size c.args.offset (length c.args.payload.now) c.args.plan.now.run (spans_of c.deref.result.now)) (sym c.requires.terms.unit)
    (covers_run g.S.Slot.place_of g.S.Slot.content g.S.Slot.len_of c.args.file.now c.args.terms.now.view c.args.terms.now c.args.plan.now c.args.offset (length c.args.payload.now) c.requires.file c.requires.plan c.requires.some
    c.runs_hold_writes.ensures c.needed_groups_cover_runs.ensures (spans_of c.deref.result.now)
    (ap (λ (os : List OldGroup). spans_of os) c.deref.ensures.value ∙ c.in-Ok.ensures.spans ∙ ap (λ (ps : List PulledGroup). pulled_spans ps) c.as_slice.ensures ∙ c.requires.spans)))

pub place_run-requires-clause-sizes : goal.place_run-requires-clause-sizes
place_run-requires-clause-sizes g c κs within =
    subst (AllByRecursion (λ (n : ℕ). IsCodeSize n c.args.terms.now.level.m)) (sym c.as_slice-2.ensures)
    (sizes g.S.Slot.place_of g.S.Slot.content g.S.Slot.len_of c.args.file.now c.args.terms.now.view c.args.terms.now c.args.plan.now c.args.offset (length c.args.payload.now) c.requires.file c.requires.plan c.requires.some
    c.requires.terms c.requires.level)

pub place_run-requires-clause-few : goal.place_run-requires-clause-few
place_run-requires-clause-few g c κs within =
    let few = few_chunks g.S.Slot.place_of g.S.Slot.content g.S.Slot.len_of c.args.file.now c.args.terms.now.view c.args.terms.now c.args.plan.now c.args.offset (length c.args.payload.now) c.requires.file c.requires.plan c.requires.some in
    let same : length c.as_slice-2.result.now ≡ length c.args.plan.now.chunks = ap (λ (ns : List ℕ). length ns) c.as_slice-2.ensures in
    omega (arith, few, same)

pub place_run-requires-clause-spins : goal.place_run-requires-clause-spins
place_run-requires-clause-spins g c κs within =
    let few = few_chunks g.S.Slot.place_of g.S.Slot.content g.S.Slot.len_of c.args.file.now c.args.terms.now.view c.args.terms.now c.args.plan.now c.args.offset (length c.args.payload.now) c.requires.file c.requires.plan c.requires.some in
    let same : length c.as_slice-2.result.now ≡ length c.args.plan.now.chunks = ap (λ (ns : List ℕ). length ns) c.as_slice-2.ensures in
    let spin = c.requires.spin in
    omega (arith, few, same, spin)

module _ (g : Over) (c : goal.After-drop-old g) (tell : AllTell g.S.Slot.content) where
  shown : AllByRecursion (IsOldGroup (bytes_of c.args.file.now)) c.deref.result.now
  shown =
      subst (AllByRecursion (IsOldGroup (bytes_of c.args.file.now))) (sym c.deref.ensures.value)
      (c.in-Ok.ensures.shown (bytes_of c.args.file.now)
      (subst (AllByRecursion (ShowsGroup c.args.terms.now.unit (bytes_of c.args.file.now))) (sym c.as_slice.ensures)
      (subst (λ (u : ℕ). AllByRecursion (ShowsGroup u (bytes_of c.args.file.now)) c.args.pulled.now.groups) (sym c.requires.terms.unit) (c.requires.shown tell))))

  written : AreWrittenBytes c.args.file.now c.args.plan.now c.args.offset c.args.payload.now (new_bytes_of c.bytes_around-bytes.result)
  written =
      bytes_written g.S.Slot.place_of g.S.Slot.content g.S.Slot.len_of c.args.file.now c.args.terms.now.view c.args.terms.now c.args.plan.now c.args.offset (length c.args.payload.now) c.requires.file c.requires.plan c.requires.some
      c.args.payload.now c.bytes_around-bytes.result
      (holds_range g.S.Slot.place_of g.S.Slot.content g.S.Slot.len_of c.args.file.now c.args.terms.now.view c.args.terms.now c.args.plan.now c.args.offset (length c.args.payload.now) c.requires.file c.requires.plan c.requires.some
      c.runs_hold_writes.ensures) refl
      (subst (λ (u : ℕ). StaysAround (bytes_of c.args.file.now) (c.args.plan.now.run.start * u) ((c.args.plan.now.run.start + c.args.plan.now.run.new_units) * u) c.args.offset (length c.args.payload.now) c.bytes_around-bytes.result)
      c.requires.terms.unit
      (c.bytes_around-bytes.ensures.stays (bytes_of c.args.file.now) (sym (c.requires.size ∙ c.requires.file.slots.size)) shown))
      c.bytes_around-bytes.ensures.payload

pub returns-clause-placed : goal.returns-clause-placed
returns-clause-placed g c =
    IfOk-weaker c.place_run.result _ _
    (λ r placed. record {
      bytes = new_bytes_of c.bytes_around-bytes.result;
      written = λ tell. written g c tell;
      placed = subst (λ (shape : Shape). PlacesRun g.S.Slot.place_of g.S.Slot.content g.S.Slot.len_of g.S.Slot.faults c.args.terms.now shape c.args.spin (new_bytes_of c.bytes_around-bytes.result) 0 c.args.plan.now.chunks r.groups r.inode
          c.args.desk.now.hand.now c.place_run.new.desk.hand.now) c.requires.shape
          (subst (λ (ns : List ℕ). PlacesRun g.S.Slot.place_of g.S.Slot.content g.S.Slot.len_of g.S.Slot.faults c.args.terms.now (fabric_view c.args.desk.now.fabric.now).shape c.args.spin (new_bytes_of c.bytes_around-bytes.result) 0 ns r.groups r.inode
          c.args.desk.now.hand.now c.place_run.new.desk.hand.now) c.as_slice-2.ensures placed);
    })
    c.place_run.ensures.placed

pub returns-clause-no_room : goal.returns-clause-no_room
returns-clause-no_room g c =
    no_room_in c.place_run.result _ _
    (λ told none. record {
      bytes = new_bytes_of c.bytes_around-bytes.result;
      written = λ tell. written g c tell;
      none = subst (λ (shape : Shape). FindsNoRun g.S.Slot.place_of g.S.Slot.content g.S.Slot.len_of g.S.Slot.faults c.args.terms.now shape c.args.spin (new_bytes_of c.bytes_around-bytes.result) 0 c.args.plan.now.chunks told
          c.args.desk.now.hand.now c.place_run.new.desk.hand.now) c.requires.shape
          (subst (λ (ns : List ℕ). FindsNoRun g.S.Slot.place_of g.S.Slot.content g.S.Slot.len_of g.S.Slot.faults c.args.terms.now (fabric_view c.args.desk.now.fabric.now).shape c.args.spin (new_bytes_of c.bytes_around-bytes.result) 0 ns told
          c.args.desk.now.hand.now c.place_run.new.desk.hand.now) c.as_slice-2.ensures none);
    })
    c.place_run.ensures.no_room
