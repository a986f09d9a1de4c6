use Rattle.std.proofs.Common.{◌∙◌, ap}
use Rattle.file_core.specs.FileView.{FileView}
use Rattle.file_core_tests.proofs.ExampleFile.{first_creation}
use Rattle.file_core_tests.proofs.tests.create_and_delete.Goals as goal

pub create-requires-clause-legal : goal.create-requires-clause-legal
create-requires-clause-legal g c κs within =
    first_creation g.S.Slot.place_of c.reserve.new.self c.all_up-view.result c.args.slots
    (record {
      shape = ap (λ (f : FileView g.row.S.Denot). f.shape) c.reserve.ensures.same ∙ c.requires.new.shape;
      level = ap (λ (f : FileView g.row.S.Denot). f.level) c.reserve.ensures.same ∙ c.requires.new.level;
      notes = ap (λ (f : FileView g.row.S.Denot). f.notes) c.reserve.ensures.same ∙ c.requires.new.notes;
    })
    c.all_up-view.ensures c.requires.slots
