-- The change that is made of what was placed.
use Rattle.std.proofs.Common.{ℕ, ◌+◌, ◌-◌, ◌/◌, All, List, ap, subst, sym}
use Rattle.galois.specs.Field.{IsByte}
use Rattle.file_core.specs.FileSwitches.{HoldIfFresh, IsLegalIfFresh}
use Rattle.map_switches.specs.Switches.{IsOfSlots}
use Rattle.range_writes.specs.ReadyWrites.{write_change}
use Rattle.range_writes.proofs.FreshChanges.{refused_fresh}
use Rattle.range_writes.proofs.LegalWrites.{hold_if_fresh, legal_if_fresh, of_slots}
use Rattle.range_writes.proofs.FileBytes.{each_byte}
use Rattle.range_writes.proofs.UntoldSlots.{settled}
use Rattle.range_writes.proofs.placed_change.switch_placed.Goals as goal

pub switch-requires-clause-slots : goal.switch-requires-clause-slots
switch-requires-clause-slots g c κs within =
    subst (λ (ns : List ℕ). IsOfSlots g.S.Slot.place_of g.S.Slot.len_of c.args.file.now.shape.unit
    (write_change ns c.args.offset c.args.payload c.args.look.now.at ((c.args.look.now.size + (c.from-unit.result - 1)) / c.from-unit.result) c.args.terms.now.level c.args.placed.groups c.args.placed.inode)) (sym c.requires.old)
    (of_slots g.S.Slot.place_of g.S.Slot.content g.S.Slot.len_of c.args.file.now c.args.view.now c.args.terms.now c.args.plan.now c.args.offset c.args.payload c.requires.ready.0 c.args.placed.groups c.args.placed.inode
    c.args.look.now.at ((c.args.look.now.size + (c.from-unit.result - 1)) / c.from-unit.result) c.args.terms.now.level c.requires.file c.requires.ready.1)

pub switch-requires-clause-legal : goal.switch-requires-clause-legal
switch-requires-clause-legal g c κs within =
    subst (λ (ns : List ℕ). IsLegalIfFresh c.args.file.now c.args.view.now
    (write_change ns c.args.offset c.args.payload c.args.look.now.at ((c.args.look.now.size + (c.from-unit.result - 1)) / c.from-unit.result) c.args.terms.now.level c.args.placed.groups c.args.placed.inode)) (sym c.requires.old)
    (legal_if_fresh g.S.Slot.place_of g.S.Slot.content g.S.Slot.len_of c.args.file.now c.args.view.now c.args.terms.now c.args.plan.now c.args.offset c.args.payload c.requires.ready.0 c.args.placed.groups c.args.placed.inode
    c.args.look.now.at ((c.args.look.now.size + (c.from-unit.result - 1)) / c.from-unit.result) c.args.terms.now.level c.requires.file c.requires.ready.1)

pub switch-requires-clause-holds : goal.switch-requires-clause-holds
switch-requires-clause-holds g c κs within =
    let at = c.args.look.now.at in
    let units = (c.args.look.now.size + (c.from-unit.result - 1)) / c.from-unit.result in
    let s = settled g.S.Slot.place_of g.S.Slot.content g.S.Slot.len_of c.slots_are_alike.ensures c.args.file.now c.args.view.now c.args.terms.now c.args.plan.now c.args.offset c.args.payload
    c.requires.ready.0 c.args.placed.groups c.args.placed.inode c.requires.file c.requires.level
    (each_byte c.args.payload (subst (All IsByte) c.as_slice.ensures c.are_bytes.ensures)) c.requires.ready.1 in
    subst (λ (ns : List ℕ). HoldIfFresh g.S.Slot.place_of g.S.Slot.content g.S.Slot.len_of c.args.file.now
    (write_change ns c.args.offset c.args.payload at units c.args.terms.now.level c.args.placed.groups c.args.placed.inode)) (sym c.requires.old)
    (hold_if_fresh g.S.Slot.place_of g.S.Slot.content g.S.Slot.len_of c.args.file.now c.args.view.now c.args.terms.now c.args.plan.now c.args.offset c.args.payload s.bytes c.args.placed.groups c.args.placed.inode
    at units c.args.terms.now.level c.requires.file s.ready s.written)

pub returns-clause-refused : goal.returns-clause-refused
returns-clause-refused g c =
    refused_fresh g.S.Slot.place_of g.S.Slot.faults c.switch.result c.args.file.now
    (write_change c.args.old c.args.offset c.args.payload c.args.look.now.at ((c.args.look.now.size + (c.from-unit.result - 1)) / c.from-unit.result) c.args.terms.now.level c.args.placed.groups c.args.placed.inode)
    (write_change c.args.old c.args.offset c.args.payload c.args.look.now.at ((c.args.look.now.size + (c.args.terms.now.unit - 1)) / c.args.terms.now.unit) c.args.terms.now.level c.args.placed.groups c.args.placed.inode)
    c.requires.entries
    (ap (λ (u : ℕ). write_change c.args.old c.args.offset c.args.payload c.args.look.now.at ((c.args.look.now.size + (u - 1)) / u) c.args.terms.now.level c.args.placed.groups c.args.placed.inode) c.from-unit.ensures)
    c.switch.ensures.refused
