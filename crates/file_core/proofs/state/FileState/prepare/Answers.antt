use Rattle.std.proofs.Common.{◌≤◌, ◌<◌, ℕ, List, length, sym, subst, arith}
use Rattle.std.proofs.lemmas.Result.{IfOk-weaker}
use Rattle.domains.specs.Level.{IsLevel}
use Rattle.map_switches.specs.declared.map_text.InodeHead.{InodeHead}
use Rattle.map_switches.specs.declared.prepared.Prepared.{Prepared}
use Rattle.file_core.specs.FileView.{FileView, layout_of}
use Rattle.striped_groups.specs.StoredGroups.{GroupSlots}
use Rattle.map_switches.specs.Switches.{IsBounded, IsMadeReady, size_after}
use Rattle.file_core.specs.FileSwitches.{IsPrepared, IsReady}
use Rattle.file_core.proofs.PreparedChanges.{bounded_head, prepared_is}
use Rattle.file_core.proofs.state.FileState.prepare.Given.{Over}
use Rattle.file_core.proofs.state.FileState.prepare.Goals as goal

module _ (g : Over) (c : goal.After-deref g) where
  abbrev now : FileView g.row.S.Denot
  now = record {
    file = c.self.inside.file;
    shape = c.self.inside.shape;
    level = c.self.inside.level;
    room = c.self.inside.room;
    turns = c.self.inside.turns;
    seat = c.self.inside.seat;
    notes = c.self.inside.log.notes;
    groups = c.self.inside.groups.items;
    inode = c.self.inside.inode;
    spare = c.self.inside.log.spare;
  }

  below : length c.self.inside.log.notes < c.self.inside.room
  below =
      let some : 1 ≤ c.self.inside.log.spare = subst (λ (f : FileView g.row.S.Denot). 1 ≤ f.spare) (sym c.self.view_is) c.requires.spare in
      let room = c.self.invariant.2 in omega (arith, room, some)

  level : IsLevel (layout_of now).requested
  level = subst IsLevel c.self.invariant.1.requested c.m-most.ensures.level

  ready : IsReady g.S.Slot.place_of g.S.Slot.content g.S.Slot.len_of now c.args.view.now c.args.change.now
  ready = subst (λ (f : FileView g.row.S.Denot). IsReady g.S.Slot.place_of g.S.Slot.content g.S.Slot.len_of f c.args.view.now c.args.change.now) (sym c.self.view_is) c.requires.ready

pub make_ready-requires : goal.make_ready-requires
make_ready-requires g c = record {
  bounds = subst (λ (gs : List (GroupSlots g.row.S.Denot)). IsBounded gs c.self.inside.head.next c.self.inside.head.size c.args.change.now) (sym c.deref.ensures.value)
      (bounded_head g.S.Slot.place_of g.S.Slot.content g.S.Slot.len_of (now g c) c.args.view.now c.args.change.now c.self.inside.head c.self.invariant.0 (ready g c) (level g c) (below g c) c.self.invariant.1);
}

module _ (g : Over) (c : goal.After-make_ready g) where
  abbrev here : FileView g.row.S.Denot
  here = record {
    file = c.self.inside.file;
    shape = c.self.inside.shape;
    level = c.self.inside.level;
    room = c.self.inside.room;
    turns = c.self.inside.turns;
    seat = c.self.inside.seat;
    notes = c.self.inside.log.notes;
    groups = c.self.inside.groups.items;
    inode = c.self.inside.inode;
    spare = c.self.inside.log.spare;
  }

  room_left : length c.self.inside.log.notes < c.self.inside.room
  room_left =
      let some : 1 ≤ c.self.inside.log.spare = subst (λ (f : FileView g.row.S.Denot). 1 ≤ f.spare) (sym c.self.view_is) c.requires.spare in
      let room = c.self.invariant.2 in omega (arith, room, some)

  is_ready : IsReady g.S.Slot.place_of g.S.Slot.content g.S.Slot.len_of here c.args.view.now c.args.change.now
  is_ready = subst (λ (f : FileView g.row.S.Denot). IsReady g.S.Slot.place_of g.S.Slot.content g.S.Slot.len_of f c.args.view.now c.args.change.now) (sym c.self.view_is) c.requires.ready

  abbrev head_of : ℕ → InodeHead
  head_of unit = record { level = c.self.inside.head.requested; unit = unit; size = size_after c.args.change.now.why c.self.inside.head.size }

pub returns-clause-prepared : goal.returns-clause-prepared
returns-clause-prepared g c =
    IfOk-weaker c.make_ready.result
    (λ (p : Prepared). IsMadeReady c.deref.result.now c.self.inside.head.next (head_of g c c.unit.result) c.args.change.now p)
    (λ (p : Prepared). IsPrepared c.args.self.now c.args.change.now p)
    (λ (p : Prepared) made. subst (λ (f : FileView g.row.S.Denot). IsPrepared f c.args.change.now p) c.self.view_is
    (prepared_is g.S.Slot.place_of g.S.Slot.content g.S.Slot.len_of (here g c) c.args.view.now c.args.change.now c.self.inside.head c.self.invariant.0 (is_ready g c)
    (subst IsLevel c.self.invariant.1.requested c.m-most.ensures.level) (room_left g c) c.self.invariant.1 p
    (subst (λ (x : List (GroupSlots g.row.S.Denot) × ℕ). IsMadeReady x.0 c.self.inside.head.next (head_of g c x.1) c.args.change.now p)
    (λ i. (c.deref.ensures.value i, c.unit.ensures.value i)) made)))
    c.make_ready.ensures
