use Rattle.std.proofs.Common.{◌∙◌, sym, ap, subst, List}
use Rattle.std.specs.List.{AllByRecursion}
use Rattle.domains.specs.declared.group.Group.{Group}
use Rattle.held_slots.specs.Slots.{places_from}
use Rattle.inode_codec.specs.Inode.{inode_bytes}
use Rattle.striped_groups.specs.StoredGroups.{Took}
use Rattle.file_core.specs.Creation.{empty_inode}
use Rattle.file_core.proofs.state.FileState.create.Goals as goal

pub take_inode-requires-clause-stands : goal.take_inode-requires-clause-stands
take_inode-requires-clause-stands g c κs within =
    sym (ap (λ (made : Group). made.places) c.in-Ok.ensures.logged ∙ ap (places_from g.S.Slot.place_of) c.deref.ensures.value)

pub take_inode-requires-clause-spelled : goal.take_inode-requires-clause-spelled
take_inode-requires-clause-spelled g c κs within =
    subst (λ (slots : List g.row.S.Denot). AllByRecursion (Took g.S.Slot.content g.S.Slot.len_of (inode_bytes (empty_inode c.args.self.now.level c.args.self.now.shape.unit))) slots)
    (sym c.into_vec-slots.ensures) c.requires.spelled
