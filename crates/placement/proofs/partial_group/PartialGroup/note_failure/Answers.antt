-- The sets and the list are told by the place.
use Rattle.std.proofs.Common.{not, ◌&&◌, ◌||◌, refl, ap, ◌∙◌}
use Rattle.domains.specs.Drive.{same_drive}
use Rattle.domains.specs.DriveSet.{has}
use Rattle.placement.proofs.partial_group.PartialGroup.note_failure.Goals as goal

pub returns : goal.returns
returns g c = record {
  removed = λ e is. c.remove.ensures e is ∙ ap (λ d. not (same_drive e d) && has c.args.self.now.search.taken e) c.drive.ensures;
  added = λ e is. c.add.ensures e is ∙ ap (λ d. same_drive e d || has c.args.self.now.search.spent e) c.drive-2.ensures;
  slots = refl;
  empty = refl;
  waiting = refl;
  written = refl;
  failed = c.push_reserved.ensures.items;
  capacity = c.push_reserved.ensures.capacity;
}
