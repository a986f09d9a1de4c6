use Rattle.std.proofs.Common.{sym, subst}
use Rattle.std.specs.List.{AllByRecursion}
use Rattle.domains.specs.Place.{IsPlaceOf}
use Rattle.held_slots.specs.Slots.{places_from}
use Rattle.file_core.specs.FileView.{FileView}
use Rattle.file_core.proofs.CreatedFile.{are_places}
use Rattle.file_core.proofs.state.FileState.inode_group.Goals as goal

pub push_places-requires : goal.push_places-requires
push_places-requires g c =
    are_places c.self.inside.shape (places_from g.S.Slot.place_of c.args.slots.now) c.self.invariant.0.cluster
    (subst (λ (f : FileView g.row.S.Denot). AllByRecursion (IsPlaceOf f.shape) (places_from g.S.Slot.place_of c.args.slots.now)) (sym c.self.view_is) c.requires)
