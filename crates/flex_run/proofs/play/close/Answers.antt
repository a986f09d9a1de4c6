use Rattle.std.proofs.Common.{length, ap, ◌∙◌}
use Rattle.flex_run.proofs.RackCounts.{RisesBy-then, RisesBy-same}
use Rattle.flex_run.proofs.TakenSlots.{PutsBack-append, PutsBack-same}
use Rattle.flex_run.proofs.play.close.Goals as goal

-- the four lists came back one after the other
pub returns-clause-back : goal.returns-clause-back
returns-clause-back g c =
    let place_of = g.R.Piece.Slot.place_of in
    let content = g.R.Piece.Slot.content in
    let units = PutsBack-same _ _ place_of content _ _ c.in_ok-log.ensures.units c.in_ok-put_all.ensures.back in
    let inode = PutsBack-same _ _ place_of content _ _ c.in_ok-log.ensures.inode c.in_ok-put_all-2.ensures.back in
    let retired = PutsBack-same _ _ place_of content _ _ c.close-board.ensures.retired c.in_ok-put_all-3.ensures.back in
    let free = PutsBack-same _ _ place_of content _ _ c.close-board.ensures.free c.in_ok-put_all-4.ensures.back in
    PutsBack-append _ _ _ place_of content _ _ units
    (PutsBack-append _ _ _ place_of content _ _ inode (PutsBack-append _ _ _ place_of content _ _ retired free))

pub returns-clause-takes : goal.returns-clause-takes
returns-clause-takes g c =
    c.in_ok-put_all-4.ensures.takes ∙ c.in_ok-put_all-3.ensures.takes ∙ c.in_ok-put_all-2.ensures.takes ∙ c.in_ok-put_all.ensures.takes

-- and each was counted
pub returns-clause-puts : goal.returns-clause-puts
returns-clause-puts g c =
    let units = RisesBy-same _ _ _ _ (ap length c.in_ok-log.ensures.units) c.in_ok-put_all.ensures.puts in
    let inode = RisesBy-same _ _ _ _ (ap length c.in_ok-log.ensures.inode) c.in_ok-put_all-2.ensures.puts in
    let retired = RisesBy-same _ _ _ _ (ap length c.close-board.ensures.retired) c.in_ok-put_all-3.ensures.puts in
    let free = RisesBy-same _ _ _ _ (ap length c.close-board.ensures.free) c.in_ok-put_all-4.ensures.puts in
    RisesBy-then _ _ _ _ _ units (RisesBy-then _ _ _ _ _ inode (RisesBy-then _ _ _ _ _ retired free))
