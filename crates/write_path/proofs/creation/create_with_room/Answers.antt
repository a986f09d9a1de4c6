-- What is told at the view that the hand saw.
use Rattle.std.proofs.Common.{ℕ, refl, sym, subst, ◌∙◌}
use Rattle.std.proofs.lemmas.Bool.{false≢true}
use Rattle.fabric.specs.Views.{fabric_view}
use Rattle.file_turns.specs.Paths.{SeesBoard}
use Rattle.write_path.proofs.CreationLemmas.{tells_placed}
use Rattle.write_path.proofs.InodeRoom.{has_room, too_few}
use Rattle.write_path.proofs.creation.create_with_room.Goals as goal

pub returns-then-found-clause-tells : goal.returns-then-found-clause-tells
returns-then-found-clause-tells g c =
    let view = c.look_at_board-view.result in
    let looked = c.look_at_board-view.new.hand in
    let sees = subst (λ (n : ℕ). SeesBoard (fabric_view c.args.desk.now.fabric.now) n view c.args.desk.now.hand.now looked) c.last_epoch.ensures c.look_at_board-view.ensures.sees in
    record {
      view = view;
      begins = record { room = c.requires.room; sees = sees };
      present = sym c.look-found.ensures.present ∙ c.if-found.true;
      refused = record { spare = c.args.file.now.spare; noted = c.note_refused.ensures.noted };
    }

pub note_refused-requires-in-Err-clause-refusal : goal.note_refused-requires-in-Err-clause-refusal
note_refused-requires-in-Err-clause-refusal g c κs within = (
  sym c.look-found.ensures.present ∙ c.if-found.false,
  too_few c.args.file.now c.look_at_board-view.result c.look-found.result _ c.usable_drives-usable.result c.requires.file.cluster c.look-found.ensures c.usable_drives-usable.ensures _
      (c.shape.ensures ∙ sym c.requires.shape) c.in-Err.fault c.in-Err.ensures.too_few.0 c.in-Err.ensures.too_few.1 (λ enough. false≢true (c.in-Err.ensures.accepts.1 enough)),
)

pub place_inode-requires-clause-enough : goal.place_inode-requires-clause-enough
place_inode-requires-clause-enough g c κs within =
    has_room c.args.file.now c.look_at_board-view.result c.look-found.result _ c.usable_drives-usable.result c.requires.file.cluster c.look-found.ensures c.usable_drives-usable.ensures _
    (c.shape.ensures ∙ sym c.requires.shape) (c.in-Ok.ensures.accepts.0 refl)

pub returns-in-Err-clause-tells : goal.returns-in-Err-clause-tells
returns-in-Err-clause-tells g c =
    let view = c.look_at_board-view.result in
    let looked = c.look_at_board-view.new.hand in
    let sees = subst (λ (n : ℕ). SeesBoard (fabric_view c.args.desk.now.fabric.now) n view c.args.desk.now.hand.now looked) c.last_epoch.ensures c.look_at_board-view.ensures.sees in
    record {
      view = view;
      begins = record { room = c.requires.room; sees = sees };
      absent = sym c.look-found.ensures.present ∙ c.if-found.false;
      few = too_few c.args.file.now view c.look-found.result _ c.usable_drives-usable.result c.requires.file.cluster c.look-found.ensures c.usable_drives-usable.ensures _
          (c.shape.ensures ∙ sym c.requires.shape) c.in-Err.fault c.in-Err.ensures.too_few.0 c.in-Err.ensures.too_few.1 (λ enough. false≢true (c.in-Err.ensures.accepts.1 enough));
      refused = record { spare = c.args.file.now.spare; noted = c.note_refused-in-Err.ensures.noted };
    }

pub returns-in-Ok-clause-tells : goal.returns-in-Ok-clause-tells
returns-in-Ok-clause-tells g c =
    let view = c.look_at_board-view.result in
    let looked = c.look_at_board-view.new.hand in
    let sees = subst (λ (n : ℕ). SeesBoard (fabric_view c.args.desk.now.fabric.now) n view c.args.desk.now.hand.now looked) c.last_epoch.ensures c.look_at_board-view.ensures.sees in
    tells_placed g.S.Slot.place_of g.S.Slot.content g.S.Slot.len_of g.S.Slot.faults (fabric_view c.args.desk.now.fabric.now) c.args.desk.now.by view c.args.file.now c.place_inode.new.file
    c.args.desk.now.hand.now looked c.place_inode.new.desk.hand.now (record {
      begins = record { room = c.requires.room; sees = sees };
      absent = sym c.look-found.ensures.present ∙ c.if-found.false;
      enough = has_room c.args.file.now view c.look-found.result _ c.usable_drives-usable.result c.requires.file.cluster c.look-found.ensures c.usable_drives-usable.ensures _
          (c.shape.ensures ∙ sym c.requires.shape) (c.in-Ok.ensures.accepts.0 refl);
    }) c.place_inode.result c.place_inode.ensures.tells
