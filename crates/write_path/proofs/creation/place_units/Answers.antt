-- The units of the inode are placed, and the file is created on their slots.
use Rattle.std.proofs.Common.{ℕ, ◌+◌, ap, ◌∙◌, rules}
use Rattle.fabric.specs.Views.{fabric_view}
use Rattle.placement.specs.PlacedGroups.{FindsNoPlace}
use Rattle.slot_search.specs.HandSeats.{draw_request}
use Rattle.write_path.proofs.InodePlacement.{none_legal, none_tells, placed_legal, placed_tells, placed_took}
use Rattle.write_path.proofs.creation.place_units.Goals as goal

pub switch_in-requires-clause-legal : goal.switch_in-requires-clause-legal
switch_in-requires-clause-legal g c κs within =
    placed_legal g.S.Slot.place_of g.S.Slot.content g.S.Slot.len_of g.S.Slot.faults c.args.file.now c.args.view.now c.args.look.now _ c.args.usable.now c.new-none.result _
    (fabric_view c.args.desk.now.fabric.now).shape c.args.units.now.units c.requires.file c.requires.look c.requires.usable c.new-none.ensures
    (ap (λ (n : ℕ). n + c.args.look.now.next_generation) (c.from-number.ensures ∙ c.file.ensures)) c.requires.shape c.requires.units
    c.requires.level c.requires.absent c.in-Ok.slots c.args.desk.now.hand.now c.place.new.desk.hand.now c.in-Ok.ensures.ok

pub switch_in-requires-clause-spelled : goal.switch_in-requires-clause-spelled
switch_in-requires-clause-spelled g c κs within =
    placed_took g.S.Slot.place_of g.S.Slot.content g.S.Slot.len_of g.S.Slot.faults c.args.file.now c.args.view.now c.args.look.now _ c.args.usable.now c.new-none.result _
    (fabric_view c.args.desk.now.fabric.now).shape c.args.units.now.units c.requires.file c.requires.look c.requires.usable c.new-none.ensures
    (ap (λ (n : ℕ). n + c.args.look.now.next_generation) (c.from-number.ensures ∙ c.file.ensures)) c.requires.shape c.requires.units
    c.in-Ok.slots c.args.desk.now.hand.now c.place.new.desk.hand.now c.in-Ok.ensures.ok

pub note_no_room-requires-clause-refusal : goal.note_no_room-requires-clause-refusal
note_no_room-requires-clause-refusal g c κs within =
    let found : FindsNoPlace g.S.Slot.place_of g.S.Slot.content g.S.Slot.len_of g.S.Slot.faults
    (draw_request c.args.look.now.level (fabric_view c.args.desk.now.fabric.now).shape c.args.view.now c.args.usable.now c.new-none.result
    (c.from-number.result + c.args.look.now.next_generation)) c.args.units.now.units c.in-Err-NoRoom.told c.args.desk.now.hand.now c.place.new.desk.hand.now =
    search rules in
    none_legal g.S.Slot.place_of g.S.Slot.content g.S.Slot.len_of g.S.Slot.faults c.args.file.now c.args.view.now c.args.look.now _ c.args.usable.now c.new-none.result _
    (fabric_view c.args.desk.now.fabric.now).shape c.args.units.now.units c.requires.file c.requires.look c.requires.usable c.new-none.ensures
    (ap (λ (n : ℕ). n + c.args.look.now.next_generation) (c.from-number.ensures ∙ c.file.ensures)) c.requires.shape c.requires.units
    c.requires.absent c.requires.enough c.in-Err-NoRoom.told c.args.desk.now.hand.now c.place.new.desk.hand.now found

pub returns-in-Ok-clause-tells : goal.returns-in-Ok-clause-tells
returns-in-Ok-clause-tells g c =
    placed_tells g.S.Slot.place_of g.S.Slot.content g.S.Slot.len_of g.S.Slot.faults c.args.file.now c.args.view.now c.args.look.now _ c.args.usable.now c.new-none.result _
    (fabric_view c.args.desk.now.fabric.now).shape c.args.units.now.units c.requires.file c.requires.look c.requires.usable c.new-none.ensures
    (ap (λ (n : ℕ). n + c.args.look.now.next_generation) (c.from-number.ensures ∙ c.file.ensures)) c.requires.shape c.requires.units
    c.place.new.desk.by c.args.desk.now.by c.place.ensures.same.by c.switch_in.new.file c.args.desk.now.hand.now c.place.new.desk.hand.now c.switch_in.new.desk.hand.now c.in-Ok.slots c.in-Ok.ensures.ok c.place.ensures.board c.switch_in.result
    c.switch_in.ensures.created c.switch_in.ensures.taken c.switch_in.ensures.kept c.switch_in.ensures.memory

pub returns-in-Err-NoRoom-clause-tells : goal.returns-in-Err-NoRoom-clause-tells
returns-in-Err-NoRoom-clause-tells g c =
    let found : FindsNoPlace g.S.Slot.place_of g.S.Slot.content g.S.Slot.len_of g.S.Slot.faults
    (draw_request c.args.look.now.level (fabric_view c.args.desk.now.fabric.now).shape c.args.view.now c.args.usable.now c.new-none.result
    (c.from-number.result + c.args.look.now.next_generation)) c.args.units.now.units c.in-Err-NoRoom.told c.args.desk.now.hand.now c.place.new.desk.hand.now =
    search rules in
    none_tells g.S.Slot.place_of g.S.Slot.content g.S.Slot.len_of g.S.Slot.faults c.args.file.now c.args.view.now c.args.look.now _ c.args.usable.now c.new-none.result _
    (fabric_view c.args.desk.now.fabric.now).shape c.args.units.now.units c.requires.file c.requires.look c.requires.usable c.new-none.ensures
    (ap (λ (n : ℕ). n + c.args.look.now.next_generation) (c.from-number.ensures ∙ c.file.ensures)) c.requires.shape c.requires.units
    c.place.new.desk.by c.args.desk.now.by c.place.ensures.same.by c.in-Err-NoRoom.told c.note_no_room.new.file c.args.desk.now.hand.now c.place.new.desk.hand.now found c.place.ensures.board ℕ c.note_no_room.result c.note_no_room.ensures.tells
