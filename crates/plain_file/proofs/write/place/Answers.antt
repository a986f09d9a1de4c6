use Rattle.std.proofs.Common.{◌∙◌, ap}
use Rattle.domains.specs.Shape.{IsShape}
use Rattle.held_slots.specs.Slots.{count_at}
use Rattle.plain_file.specs.declared.op.PlainOp.TheVariants as plain
use Rattle.plain_file.proofs.FileTurns.{nothing_moves}
use Rattle.plain_file.proofs.FaultCauses.{fault_goes_on}
use Rattle.plain_file.proofs.ReleasedSlots.{failed_same}
use Rattle.plain_file.proofs.FirstWrite.{has_inode_alone, may_release, write_played, write_moves}
use Rattle.plain_file.proofs.write.place.Goals as goal

pub returns-in_err-units-clause-moves : goal.returns-in_err-units-clause-moves
returns-in_err-units-clause-moves g c =
    let a = c.args in
    let ready = c.prepare.ensures.same in
    let same = c.draw_both.ensures.same in
    nothing_moves g.S.Slot.place_of g.S.Slot.content (plain.Write a.payload) a.shape a.log.now.items c.reserve.new.self.items a.standing.now a.stock.now c.draw_both.new.stock
    (λ p. c.in_err-units.ensures.kept p ∙ ap (count_at g.S.Slot.place_of p) ready.2)
    (same.shape ∙ ready.0) (same.board ∙ ready.1) (same.retired ∙ ready.3)

pub release_inode-requires : goal.release_inode-requires
release_inode-requires g c =
    let a = c.args in
    let alone = has_inode_alone g.S.Slot.place_of g.S.Slot.content a.shape a.log.now.items a.standing.now c.requires.inside c.requires.present c.requires.unwritten in
    let ready = c.prepare.ensures.same in
    let same = c.draw_both.ensures.same in
    rw (c.replace-before.ensures.value, alone.1)
    (may_release g.S.Slot.place_of g.S.Slot.content a.shape a.log.now.items a.payload c.prepare.new.self c.draw_both.new.stock alone.0 c.in_ok-units.units c.in_ok-units.inode
    (same.shape ∙ ready.0 ∙ c.requires.shape) c.in_ok-prepare.ensures.ok same.spare (rw c.as_slice.ensures at c.in_ok-units.ensures.ok) (rw alone.1 at c.requires.inside))

pub returns-clause-played : goal.returns-clause-played
returns-clause-played g c =
    let a = c.args in
    let alone = has_inode_alone g.S.Slot.place_of g.S.Slot.content a.shape a.log.now.items a.standing.now c.requires.inside c.requires.present c.requires.unwritten in
    let ready = c.prepare.ensures.same in
    let within : IsShape a.shape = c.mirror_group.ensures.within in
    rw (alone.1, c.replace-before.ensures.after, c.len-size.ensures)
    (write_played g.S.Slot.place_of g.S.Slot.content a.by a.shape a.log.now.items c.push_reserved-2.new.self.items a.payload a.stock.now c.prepare.new.self
    c.draw_both.new.stock c.release_inode.new.stock alone.0 c.in_ok-units.units c.in_ok-units.inode
    c.requires.shape ready.0 ready.1 ready.2 ready.3 within c.requires.some c.requires.fits c.requires.bytes c.requires.usable
    (rw (
      c.reserve.ensures.items,
      c.written.ensures,
      c.epoch-epoch.ensures,
      c.len-size.ensures,
      c.new.ensures,
      c.from_vec.ensures,
      c.push_reserved.ensures.items,
      c.in_ok-groups.ensures.items,
      c.mirror_group.ensures.value,
      c.mirror_group-2.ensures.value,
    ) at c.push_reserved-2.ensures.items)
    (rw alone.1 at c.requires.inside) (rw alone.1 at c.requires.one_each)
    (rw c.as_slice.ensures at c.in_ok-units.ensures.ok) c.draw_both.ensures.same (rw (c.replace-before.ensures.value, alone.1) at c.release_inode.ensures))

pub returns-clause-moves : goal.returns-clause-moves
returns-clause-moves g c =
    let a = c.args in
    let alone = has_inode_alone g.S.Slot.place_of g.S.Slot.content a.shape a.log.now.items a.standing.now c.requires.inside c.requires.present c.requires.unwritten in
    let ready = c.prepare.ensures.same in
    rw (alone.1, c.replace-before.ensures.after, c.len-size.ensures)
    (write_moves g.S.Slot.place_of g.S.Slot.content a.shape a.log.now.items c.push_reserved-2.new.self.items a.payload a.stock.now c.prepare.new.self c.draw_both.new.stock
    c.release_inode.new.stock alone.0 c.in_ok-units.units c.in_ok-units.inode ready.0 ready.1 ready.2 ready.3
    (rw c.as_slice.ensures at c.in_ok-units.ensures.ok) c.draw_both.ensures.same (rw (c.replace-before.ensures.value, alone.1) at c.release_inode.ensures))

pub returns-in_err-units-clause-fault : goal.returns-in_err-units-clause-fault
returns-in_err-units-clause-fault g c =
    λ is. failed_same g.S.Slot.place_of g.S.Slot.faults c.args.stock.now c.prepare.new.self c.prepare.ensures.same.2 c.prepare.ensures.same.0 (c.in_err-units.ensures.fault (fault_goes_on c.from_residual-in_err-units.result _ c.from_residual-in_err-units.ensures.1 is))
