use Rattle.std.proofs.Common.{◌∙◌, ℕ, List, None, sym, subst}
use Rattle.std.specs.List.{AllByRecursion}
use Rattle.std.proofs.lemmas.Result.{IfErr-weaker, IfOk-weaker}
use Rattle.inode_codec.specs.Inode.{inode_bytes}
use Rattle.stale_changes.specs.declared.stale.Stale.{Stale}
use Rattle.map_switches.specs.declared.change.MapChange.{MapChange}
use Rattle.striped_groups.specs.StoredGroups.{Took}
use Rattle.map_switches.specs.Switches.{IsRefusal}
use Rattle.map_switches.proofs.ChangeLemmas.{refused_memory}
use Rattle.file_core.specs.FileSwitches.{IsPrepared, IsPut, IsReady, new_inode_of}
use Rattle.file_core.specs.FileView.{FileView, IsFile}
use Rattle.file_core.proofs.PreparedChanges.{prepared_written}
use Rattle.file_core.proofs.WrittenChanges.{ready_written, switched_written}
use Rattle.file_core.proofs.state.FileState.write_inode.Goals as goal

pub returns-in-Err-clause-file : goal.returns-in-Err-clause-file
returns-in-Err-clause-file g c = subst (λ (f : FileView g.row.S.Denot). IsFile g.S.Slot.place_of g.S.Slot.content g.S.Slot.len_of f) c.self.view_is c.self.invariant.0

pub returns-in-Err-clause-refused : goal.returns-in-Err-clause-refused
returns-in-Err-clause-refused g c = (c.write_slots.ensures.back, c.in-Err.ensures.failed)

pub put-requires-clause-ready : goal.put-requires-clause-ready
put-requires-clause-ready g c κs within =
    subst (λ (m : MapChange g.row.S.Denot). IsReady g.S.Slot.place_of g.S.Slot.content g.S.Slot.len_of c.args.self.now c.args.view.now m)
    (sym c.write_slots.ensures.back.same)
    (ready_written g.S.Slot.place_of g.S.Slot.content g.S.Slot.len_of g.S.Slot.faults c.args.self.now c.args.view.now c.args.change c.write_slots.new.change.inode.slots
    c.write_slots.ensures.back.places c.requires.ready)

pub put-requires-clause-prepared : goal.put-requires-clause-prepared
put-requires-clause-prepared g c κs within =
    subst (λ (m : MapChange g.row.S.Denot). IsPrepared c.args.self.now m c.args.prepared) (sym c.write_slots.ensures.back.same)
    (prepared_written g.S.Slot.place_of c.args.self.now c.args.change c.args.prepared c.write_slots.new.change.inode.slots c.write_slots.ensures.back.places c.requires.prepared)

pub put-requires-clause-took : goal.put-requires-clause-took
put-requires-clause-took g c κs within =
    subst (λ (m : MapChange g.row.S.Denot). AllByRecursion (Took g.S.Slot.content g.S.Slot.len_of (inode_bytes (new_inode_of c.args.self.now m))) c.write_slots.new.change.inode.slots)
    (sym c.write_slots.ensures.back.same)
    (subst (λ (t : List ℕ). AllByRecursion (Took g.S.Slot.content g.S.Slot.len_of t) c.write_slots.new.change.inode.slots) (c.deref.ensures.value ∙ c.requires.prepared.text) c.in_default.ensures.took)

pub returns-clause-switched : goal.returns-clause-switched
returns-clause-switched g c =
    IfOk-weaker c.put.result _ _
    (λ done put. switched_written g.S.Slot.place_of g.S.Slot.content g.S.Slot.len_of g.S.Slot.faults c.args.by c.args.view.now c.args.change c.write_slots.new.change.inode.slots c.args.self.now c.put.new.self done
    c.write_slots.ensures.back.places
    (subst (λ (t : List ℕ). AllByRecursion (Took g.S.Slot.content g.S.Slot.len_of t) c.write_slots.new.change.inode.slots) (c.deref.ensures.value ∙ c.requires.prepared.text) c.in_default.ensures.took)
    (subst (λ (m : MapChange g.row.S.Denot). IsPut c.args.by c.args.view.now m c.args.self.now c.put.new.self done) c.write_slots.ensures.back.same put))
    c.put.ensures.put

pub returns-clause-refused : goal.returns-clause-refused
returns-clause-refused g c =
    IfErr-weaker c.put.result _ _
    (λ refused back. subst (λ (x : Stale × MapChange g.row.S.Denot). IsRefusal g.S.Slot.place_of g.S.Slot.faults None c.args.change x.0 x.1)
    (λ i. (sym back.0 i, sym (back.1 ∙ c.write_slots.ensures.back.same) i))
    (refused_memory g.S.Slot.place_of g.S.Slot.faults c.args.change c.write_slots.new.change.inode.slots c.write_slots.ensures.back.places))
    c.put.ensures.back
