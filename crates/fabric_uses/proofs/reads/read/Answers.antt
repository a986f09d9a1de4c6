use Rattle.std.proofs.Common.{◌∙◌}
use Rattle.fabric_uses.proofs.KnownContent.{content_is}
use Rattle.fabric_uses.proofs.reads.read.Goals as goal

pub returns-in-Ok : goal.returns-in-Ok
returns-in-Ok g c =
    let tells = g.met.K.Rack.tells c.args._rack.now c.requires.tells c.slot-2.result.now in
    record { content = c.in-Ok.ensures.content ∙ content_is _ _ tells c.in-Ok.ensures.ok }
