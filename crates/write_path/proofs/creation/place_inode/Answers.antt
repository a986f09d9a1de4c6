-- The units of the inode are made.
use Rattle.std.proofs.Common.{ℕ, ◌+◌, replicate, ap, ◌∙◌}
use Rattle.domains.specs.Level.{Level}
use Rattle.inode_codec.specs.Inode.{inode_bytes}
use Rattle.file_core.specs.Creation.{empty_inode}
use Rattle.write_path.proofs.InodePlacement.{next_bound}
use Rattle.write_path.proofs.creation.place_inode.Goals as goal

pub place_units-requires-clause-next : goal.place_units-requires-clause-next
place_units-requires-clause-next g c κs within =
    next_bound g.S.Slot.place_of g.S.Slot.content g.S.Slot.len_of c.args.file.now c.args.look.now _ c.requires.file c.requires.look

pub place_units-requires-clause-units : goal.place_units-requires-clause-units
place_units-requires-clause-units g c κs within =
    c.in-Ok.ensures.units
    ∙ ap (λ (n : ℕ). replicate (n + 1) (inode_bytes (empty_inode c.args.file.now.level c.args.file.now.shape.unit)))
    (c.m-correction.ensures.value ∙ ap (λ (l : Level). l.m) c.requires.look.level)
