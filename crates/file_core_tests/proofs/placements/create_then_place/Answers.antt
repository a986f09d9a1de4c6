use Rattle.std.proofs.Common.{◌∙◌, ap}
use Rattle.file_core.specs.FileView.{FileView, layout_of}
use Rattle.file_core.specs.Notes.{last_epoch_of}
use Rattle.file_core_tests.proofs.ExampleFile.{first_creation, first_epoch, first_layout}
use Rattle.file_core_tests.proofs.placements.create_then_place.Goals as goal

pub create-requires-clause-legal : goal.create-requires-clause-legal
create-requires-clause-legal g c κs within =
    first_creation g.S.Slot.place_of c.args.file.now c.all_up.result c.args.slots c.requires.new c.all_up.ensures c.requires.slots

pub place_inode-requires-clause-created : goal.place_inode-requires-clause-created
place_inode-requires-clause-created g c κs within =
    ap layout_of c.in-Ok.ensures.created
    ∙ first_layout g.S.Slot.place_of _ c.args.file.now c.all_up.result c.args.slots c.requires.new c.requires.slots

pub place_inode-requires-clause-early : goal.place_inode-requires-clause-early
place_inode-requires-clause-early g c κs within =
    ap (λ (f : FileView g.row.S.Denot). last_epoch_of f.notes) c.in-Ok.ensures.created
    ∙ first_epoch g.S.Slot.place_of _ c.args.file.now c.all_up.result c.args.slots c.requires.new c.all_up.ensures
