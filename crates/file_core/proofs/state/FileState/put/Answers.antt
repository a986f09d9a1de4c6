use Rattle.std.proofs.Common.{◌≡◌, ◌∙◌, ◌<◌, ◌≤◌, List, [], ◌∷◌, ◌++◌, map, length, if◌then◌else◌, Some, sym, subst, ap, arith, length-append}
use Rattle.std.specs.List.{AllByRecursion}
use Rattle.domains.specs.Level.{IsLevel}
use Rattle.domains.specs.declared.group.Group.{Group}
use Rattle.inode_codec.specs.Inode.{inode_bytes}
use Rattle.turn_cell.specs.declared.chronicle.Note.{Note}
use Rattle.file_core.specs.declared.noted.Noted.{Noted}
use Rattle.file_core.specs.declared.switch.Switched.{Switched}
use Rattle.striped_groups.specs.StoredGroups.{Took}
use Rattle.file_core.specs.FileInvariant.{KeepsFile, KeepsLeft}
use Rattle.file_core.specs.FileView.{FileView, IsLater, layout_of}
use Rattle.file_core.specs.NoteLog.{NoteList}
use Rattle.file_core.specs.Notes.{noted, told_of}
use Rattle.file_heads.specs.LeftGenerations.{entry_at, has_generation}
use Rattle.map_switches.specs.Switches.{IsExchanged, logged}
use Rattle.striped_groups.specs.StoredGroups.{AllTell, GroupSlots, list_of, stored_group}
use Rattle.file_core.specs.FileSwitches.{IsPrepared, IsPut, IsReady, new_inode_of}
use Rattle.file_core.proofs.ExchangedMaps.{event_is, gone_are}
use Rattle.file_core.proofs.PreparedChanges.{inode_numbered, repaired_numbered}
use Rattle.file_core.proofs.ExchangedFiles.{bounded_groups, done, file_put, head_put, view_put}
use Rattle.file_core.proofs.LeftLemmas.{KeepsLeft-changed, known_groups, known_root, known_run, left_with_room, run_is}
use Rattle.file_core.proofs.state.FileState.put.Given.{Over}
use Rattle.file_core.proofs.state.FileState.put.Goals as goal

-- the file before the call, at the call of `put_groups`
abbrev before : (g : Over) → goal.After-put_groups-arg-1 g → FileView g.row.S.Denot
before g c = record {
  file = c.self.inside.file;
  shape = c.self.inside.shape;
  level = c.self.inside.level;
  room = c.self.inside.room;
  turns = c.self.inside.turns;
  seat = c.self.inside.seat;
  notes = c.self.inside.log.notes;
  groups = c.self.inside.groups.items;
  inode = c.self.inside.inode;
  spare = c.self.inside.log.spare;
}

pub overflow_add-prepared : goal.overflow_add-prepared
overflow_add-prepared g c =
    let f : FileView g.row.S.Denot = record {
      file = c.self.inside.file;
      shape = c.self.inside.shape;
      level = c.self.inside.level;
      room = c.self.inside.room;
      turns = c.self.inside.turns;
      seat = c.self.inside.seat;
      notes = c.self.inside.log.notes;
      groups = c.self.inside.groups.items;
      inode = c.self.inside.inode;
      spare = c.self.inside.log.spare;
    } in
    let room = c.self.invariant.2 in
    let some : 1 ≤ c.self.inside.log.spare = subst (λ (x : FileView g.row.S.Denot). 1 ≤ x.spare) (sym c.self.view_is) c.requires.spare in
    let prepared : IsPrepared f c.args.change c.args.prepared = subst (λ (x : FileView g.row.S.Denot). IsPrepared x c.args.change c.args.prepared) (sym c.self.view_is) c.requires.prepared in
    let ready : IsReady g.S.Slot.place_of g.S.Slot.content g.S.Slot.len_of f c.args.view.now c.args.change =
    subst (λ (x : FileView g.row.S.Denot). IsReady g.S.Slot.place_of g.S.Slot.content g.S.Slot.len_of x c.args.view.now c.args.change) (sym c.self.view_is) c.requires.ready in
    let level = subst IsLevel c.self.invariant.1.requested c.m-most.ensures.level in
    let is = inode_numbered g.S.Slot.place_of g.S.Slot.content g.S.Slot.len_of f c.args.view.now c.args.change c.self.inside.head c.self.invariant.0 ready
    level (omega (arith, room, some)) c.self.invariant.1 c.reserve.new.self.items c.args.prepared c.reserve.ensures.items prepared in
    let small = (bounded_groups g.S.Slot.place_of g.S.Slot.content g.S.Slot.len_of f c.args.view.now c.args.change c.args.prepared c.self.inside.head c.self.invariant.0 ready
    level (omega (arith, room, some)) c.self.invariant.1 c.reserve.new.self.items c.reserve.ensures.items).small in
    omega (arith, is, small)

pub invariant_of-self-in_default : goal.invariant_of-self-in_default
invariant_of-self-in_default g c = (
  subst (λ (gs : List (GroupSlots g.row.S.Denot)). KeepsFile (AllTell g.S.Slot.content) c.self.inside.shape c.self.inside.level c.self.inside.room c.self.inside.log.notes
      (map (stored_group g.S.Slot.place_of g.S.Slot.content g.S.Slot.len_of) gs)
      (map (stored_group g.S.Slot.place_of g.S.Slot.content g.S.Slot.len_of) (list_of c.self.inside.inode))) (sym c.reserve.ensures.items) c.self.invariant.0,
  c.self.invariant.1,
  c.self.invariant.2,
  left_with_room c.self.inside.level (told_of c.self.inside.log.notes) c.self.inside.left.items c.reserve-2.new.self.items c.self.invariant.3 c.reserve-2.ensures.same
      c.reserve-2.ensures.more,
)

pub invariant_of-self-in_default-new : goal.invariant_of-self-in_default-new
invariant_of-self-in_default-new g c = (
  subst (λ (gs : List (GroupSlots g.row.S.Denot)). KeepsFile (AllTell g.S.Slot.content) c.self.inside.shape c.self.inside.level c.self.inside.room c.self.inside.log.notes
      (map (stored_group g.S.Slot.place_of g.S.Slot.content g.S.Slot.len_of) gs)
      (map (stored_group g.S.Slot.place_of g.S.Slot.content g.S.Slot.len_of) (list_of c.self.inside.inode))) (sym c.reserve.ensures.items) c.self.invariant.0,
  c.self.invariant.1,
  c.self.invariant.2,
  left_with_room c.self.inside.level (told_of c.self.inside.log.notes) c.self.inside.left.items c.reserve-2.new.self.items c.self.invariant.3 c.reserve-2.ensures.same
      c.reserve-2.ensures.more,
)

pub put_groups-event-requires-clause-bounds : goal.put_groups-event-requires-clause-bounds
put_groups-event-requires-clause-bounds g c =
    let ready : _ = subst (λ (f : FileView g.row.S.Denot). IsReady g.S.Slot.place_of g.S.Slot.content g.S.Slot.len_of f c.args.view.now c.args.change) (sym c.self.view_is) c.requires.ready in
    let some : 1 ≤ c.self.inside.log.spare = subst (λ (f : FileView g.row.S.Denot). 1 ≤ f.spare) (sym c.self.view_is) c.requires.spare in
    let room = c.self.invariant.2 in
    bounded_groups g.S.Slot.place_of g.S.Slot.content g.S.Slot.len_of (before g c) c.args.view.now c.args.change c.args.prepared c.self.inside.head c.self.invariant.0 ready
    (subst IsLevel c.self.invariant.1.requested c.m-most.ensures.level) (omega (arith, room, some)) c.self.invariant.1 c.reserve.new.self.items c.reserve.ensures.items

pub put_groups-event-requires-clause-numbered : goal.put_groups-event-requires-clause-numbered
put_groups-event-requires-clause-numbered g c =
    let ready : _ = subst (λ (f : FileView g.row.S.Denot). IsReady g.S.Slot.place_of g.S.Slot.content g.S.Slot.len_of f c.args.view.now c.args.change) (sym c.self.view_is) c.requires.ready in
    let some : 1 ≤ c.self.inside.log.spare = subst (λ (f : FileView g.row.S.Denot). 1 ≤ f.spare) (sym c.self.view_is) c.requires.spare in
    let room = c.self.invariant.2 in
    inode_numbered g.S.Slot.place_of g.S.Slot.content g.S.Slot.len_of (before g c) c.args.view.now c.args.change c.self.inside.head c.self.invariant.0 ready
    (subst IsLevel c.self.invariant.1.requested c.m-most.ensures.level) (omega (arith, room, some)) c.self.invariant.1 c.reserve.new.self.items c.args.prepared c.reserve.ensures.items
    (subst (λ (f : FileView g.row.S.Denot). IsPrepared f c.args.change c.args.prepared) (sym c.self.view_is) c.requires.prepared)

pub put_groups-event-requires-clause-repaired : goal.put_groups-event-requires-clause-repaired
put_groups-event-requires-clause-repaired g c =
    let ready : _ = subst (λ (f : FileView g.row.S.Denot). IsReady g.S.Slot.place_of g.S.Slot.content g.S.Slot.len_of f c.args.view.now c.args.change) (sym c.self.view_is) c.requires.ready in
    let some : 1 ≤ c.self.inside.log.spare = subst (λ (f : FileView g.row.S.Denot). 1 ≤ f.spare) (sym c.self.view_is) c.requires.spare in
    let room = c.self.invariant.2 in
    repaired_numbered g.S.Slot.place_of g.S.Slot.content g.S.Slot.len_of (before g c) c.args.view.now c.args.change c.self.inside.head c.self.invariant.0 ready
    (subst IsLevel c.self.invariant.1.requested c.m-most.ensures.level) (omega (arith, room, some)) c.self.invariant.1 c.reserve.new.self.items c.args.prepared c.reserve.ensures.items
    (subst (λ (f : FileView g.row.S.Denot). IsPrepared f c.args.change c.args.prepared) (sym c.self.view_is) c.requires.prepared)

pub take_away-requires-clause-known : goal.take_away-requires-clause-known
take_away-requires-clause-known g c =
    let inside = c.self.inside in
    let known = known_groups g.S.Slot.place_of g.S.Slot.content g.S.Slot.len_of inside.shape inside.level (told_of inside.log.notes) _ inside.groups.items _ c.reserve-2.new.self.items
    c.self.invariant.0.slots
    (left_with_room inside.level (told_of inside.log.notes) inside.left.items c.reserve-2.new.self.items c.self.invariant.3 c.reserve-2.ensures.same c.reserve-2.ensures.more) in
    subst (AllByRecursion (λ (s : GroupSlots g.row.S.Denot). s.group.generation < length c.reserve-2.new.self.items)) (sym c.as_slice.ensures)
    (known_run c.reserve.new.self.items c.put_groups-event.result.gone c.args.change.fresh _ _ (length c.reserve-2.new.self.items) c.put_groups-event.ensures.gone
    (subst (AllByRecursion (λ (s : GroupSlots g.row.S.Denot). s.group.generation < length c.reserve-2.new.self.items)) (sym c.reserve.ensures.items) known))

pub take_away-requires-clause-root : goal.take_away-requires-clause-root
take_away-requires-clause-root g c =
    let inside = c.self.inside in
    known_root g.S.Slot.place_of g.S.Slot.content g.S.Slot.len_of inside.shape inside.level (told_of inside.log.notes) _ _ inside.inode c.in-Some.inode c.reserve-2.new.self.items
    c.self.invariant.0.slots
    (left_with_room inside.level (told_of inside.log.notes) inside.left.items c.reserve-2.new.self.items c.self.invariant.3 c.reserve-2.ensures.same c.reserve-2.ensures.more)
    (sym c.replace.ensures.value ∙ c.in-Some.is)

module _ (g : Over) (c : goal.After-take_away g) where
  abbrev old : FileView g.row.S.Denot
  old = record {
    file = c.self.inside.file;
    shape = c.self.inside.shape;
    level = c.self.inside.level;
    room = c.self.inside.room;
    turns = c.self.inside.turns;
    seat = c.self.inside.seat;
    notes = c.self.inside.log.notes;
    groups = c.self.inside.groups.items;
    inode = c.self.inside.inode;
    spare = c.self.inside.log.spare;
  }

  spare : 1 ≤ c.self.inside.log.spare
  spare = subst (λ (f : FileView g.row.S.Denot). 1 ≤ f.spare) (sym c.self.view_is) c.requires.spare

  below : length c.self.inside.log.notes < c.self.inside.room
  below = let room = c.self.invariant.2 in let some = spare in omega (arith, room, some)

  level : IsLevel (layout_of old).requested
  level = subst IsLevel c.self.invariant.1.requested c.m-most.ensures.level

  ready : IsReady g.S.Slot.place_of g.S.Slot.content g.S.Slot.len_of old c.args.view.now c.args.change
  ready = subst (λ (f : FileView g.row.S.Denot). IsReady g.S.Slot.place_of g.S.Slot.content g.S.Slot.len_of f c.args.view.now c.args.change) (sym c.self.view_is) c.requires.ready

  prepared : IsPrepared old c.args.change c.args.prepared
  prepared = subst (λ (f : FileView g.row.S.Denot). IsPrepared f c.args.change c.args.prepared) (sym c.self.view_is) c.requires.prepared

  took : AllByRecursion (Took g.S.Slot.content g.S.Slot.len_of (inode_bytes (new_inode_of old c.args.change))) c.args.change.inode.slots
  took = subst (λ (f : FileView g.row.S.Denot). AllByRecursion (Took g.S.Slot.content g.S.Slot.len_of (inode_bytes (new_inode_of f c.args.change))) c.args.change.inode.slots) (sym c.self.view_is) c.requires.took

  later : IsLater c.args.view.now old
  later = subst (λ (f : FileView g.row.S.Denot). IsLater c.args.view.now f) (sym c.self.view_is) c.requires.later

  abbrev one : Note Noted
  one = record { turn = c.self.inside.turns; seat = c.self.inside.seat; entry = noted c.args.by c.args.view.now c.put_groups-event.result.event c.put_groups-event.result.payload }

  notes : c.push.new.self.notes ≡ c.self.inside.log.notes ++ one ∷ []
  notes = ap (λ (l : NoteList). l.notes) c.push.ensures

  keeps : KeepsFile (AllTell g.S.Slot.content) c.self.inside.shape c.self.inside.level c.self.inside.room c.push.new.self.notes
      (map (stored_group g.S.Slot.place_of g.S.Slot.content g.S.Slot.len_of) c.put_groups-event.new.groups.items)
      (map (stored_group g.S.Slot.place_of g.S.Slot.content g.S.Slot.len_of) (list_of c.replace.new.self))
  keeps =
      file_put g.S.Slot.place_of g.S.Slot.content g.S.Slot.len_of old c.args.view.now c.args.change c.args.prepared c.self.inside.head c.self.invariant.0 ready level below
      c.self.invariant.1 c.reserve.new.self.items c.put_groups-event.new.groups.items c.put_groups-event.result c.reserve.ensures.items prepared c.put_groups-event.ensures
      c.args.by c.push.new.self.notes c.replace.new.self notes c.replace.ensures.after later took

  exchanged : IsExchanged old.groups c.put_groups-event.new.groups.items (layout_of old).next (layout_of old).size c.args.change c.args.prepared c.put_groups-event.result
  exchanged =
      done g.S.Slot.place_of g.S.Slot.content g.S.Slot.len_of old c.args.view.now c.args.change c.args.prepared c.self.inside.head c.self.invariant.0 ready level below
      c.self.invariant.1 c.reserve.new.self.items c.put_groups-event.new.groups.items c.put_groups-event.result c.reserve.ensures.items prepared c.put_groups-event.ensures c.args.by

  left : KeepsLeft c.take_away.new.self.items c.self.inside.level (told_of c.push.new.self.notes)
  left =
      let inside = c.self.inside in
      let known = c.in-Ok.ensures.ok in
      let same = c.take_away.ensures.count in
      let number = ap (λ (x : Group). x.generation) prepared.inode in
      let long = ap (λ (l : List (Note Noted)). length l) notes ∙ length-append inside.log.notes (one ∷ []) in
      let count = c.len-at.ensures ∙ long in
      subst (λ (ns : List (Note Noted)). KeepsLeft c.take_away.new.self.items inside.level (told_of ns)) (sym notes)
      (KeepsLeft-changed inside.level inside.log.notes one c.reserve-2.new.self.items c.take_away.new.self.items
      (map (λ (s : GroupSlots g.row.S.Denot). s.group) c.put_groups-event.result.gone ++ c.in-Some.inode.group ∷ [])
      c.args.change.why (layout_of old).size (logged (layout_of old) c.args.change)
      (event_is g.S.Slot.place_of g.S.Slot.content g.S.Slot.len_of old c.args.view.now c.args.change c.args.prepared c.put_groups-event.new.groups.items c.put_groups-event.result
      c.self.invariant.0 prepared exchanged)
      (left_with_room inside.level (told_of inside.log.notes) inside.left.items c.reserve-2.new.self.items c.self.invariant.3 c.reserve-2.ensures.same c.reserve-2.ensures.more)
      (λ k. c.take_away.ensures.left k ∙ (λ i.
      if has_generation k (map (λ (s : GroupSlots g.row.S.Denot). s.group) (c.as_slice.ensures i) ++ c.in-Some.inode.group ∷ []) then Some (count i) else entry_at c.reserve-2.new.self.items k))
      (run_is g.S.Slot.place_of g.S.Slot.content g.S.Slot.len_of inside.shape (layout_of old) _ inside.groups.items c.put_groups-event.result.gone inside.inode c.in-Some.inode c.args.change.old c.args.change.fresh
      c.self.invariant.0.slots (sym c.replace.ensures.value ∙ c.in-Some.is)
      (gone_are g.S.Slot.place_of g.S.Slot.content g.S.Slot.len_of old c.args.view.now c.args.change c.args.prepared c.put_groups-event.new.groups.items c.put_groups-event.result
      c.self.invariant.0 prepared exchanged))
      (omega (arith, known, same, number)))

pub invariant_of-self-2 : goal.invariant_of-self-2
invariant_of-self-2 g c =
    let room = c.self.invariant.2 in
    let some = spare g c in
    let spared = ap (λ (l : NoteList). l.spare) c.push.ensures in
    let long = ap (λ (l : List (Note Noted)). length l) (notes g c) ∙ length-append c.self.inside.log.notes (one g c ∷ []) in (
      keeps g c,
      head_put g.S.Slot.place_of g.S.Slot.content g.S.Slot.len_of (old g c) c.args.view.now c.args.change c.args.prepared c.self.inside.head c.self.invariant.0 (ready g c) (level g c) (below g c)
          c.self.invariant.1 c.reserve.new.self.items c.put_groups-event.new.groups.items c.put_groups-event.result c.reserve.ensures.items (prepared g c) c.put_groups-event.ensures
          c.args.by c.push.new.self.notes c.switch.new.self (notes g c) c.switch.ensures,
      omega (arith, room, some, spared, long),
      left g c,
    )

pub returns-clause-put : goal.returns-clause-put
returns-clause-put g c =
    let new : FileView g.row.S.Denot = record (old g c) { notes = c.push.new.self.notes; groups = c.put_groups-event.new.groups.items; inode = c.replace.new.self; spare = c.push.new.self.spare } in
    let back : Switched g.row.S.Denot = record { at = c.len-at.result; groups = c.put_groups-event.result.gone; inode = c.in-Some.inode } in
    subst (λ (f : FileView g.row.S.Denot). IsPut c.args.by c.args.view.now c.args.change f new back) c.self.view_is
    (record {
      file = view_put g.S.Slot.place_of g.S.Slot.content g.S.Slot.len_of (old g c) c.args.view.now c.args.change c.args.prepared c.self.inside.head c.self.invariant.0 (ready g c) (level g c) (below g c)
          c.self.invariant.1 c.reserve.new.self.items c.put_groups-event.new.groups.items c.put_groups-event.result c.reserve.ensures.items (prepared g c) c.put_groups-event.ensures
          c.args.by c.push.new.self c.replace.new.self c.push.ensures c.replace.ensures.after;
      groups = gone_are g.S.Slot.place_of g.S.Slot.content g.S.Slot.len_of (old g c) c.args.view.now c.args.change c.args.prepared c.put_groups-event.new.groups.items c.put_groups-event.result c.self.invariant.0 (prepared g c)
          (done g.S.Slot.place_of g.S.Slot.content g.S.Slot.len_of (old g c) c.args.view.now c.args.change c.args.prepared c.self.inside.head c.self.invariant.0 (ready g c) (level g c) (below g c)
          c.self.invariant.1 c.reserve.new.self.items c.put_groups-event.new.groups.items c.put_groups-event.result c.reserve.ensures.items (prepared g c) c.put_groups-event.ensures c.args.by);
      inode = sym c.in-Some.is ∙ c.replace.ensures.value;
      at = c.len-at.ensures;
    })

pub returns-clause-file : goal.returns-clause-file
returns-clause-file g c = keeps g c
