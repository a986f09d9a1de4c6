use Rattle.std.proofs.Common.{◌∙◌, sym}
use Rattle.plain_file.proofs.ReadRanges.{short_second}
use Rattle.plain_file.proofs.read.lost_for.Goals as goal

pub returns-else-not-touches : goal.returns-else-not-touches
returns-else-not-touches g c =
    let fits = rw c.in-Written.is at c.requires.fits in
    rw c.in-Written.is
    (c.lost_group-in-Written-2.ensures
    ∙ short_second g.S.Slot.place_of g.S.Slot.content c.args.stock.now.shape c.args.stock.now.board c.in-Written.size c.in-Written.units c.in-Written.inode
    c.args.offset c.args.len fits (sym c.touches.ensures ∙ c.if-not-touches.false) (sym c.lost_group-in-Written.ensures ∙ c.in_default.is))
