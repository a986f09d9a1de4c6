use Rattle.std.proofs.Common.{List, ap, ◌∙◌}
use Rattle.std.specs.List.{list_any}
use Rattle.domains.specs.Drive.{Drive, same_drive}
use Rattle.checkpoints.proofs.CheckpointReader.{tail_is}
use Rattle.checkpoints.proofs.reading.tail_of.Goals as goal

pub returns : goal.returns
returns c =
    tail_is c.args.bytes.now c.in_ok-count.count c.in_ok-count.rest.now c.in-Ok.read.0.items c.in-Ok.read.1.now c.in_ok-earlier.earlier c.in_ok-earlier.rest.now c.in_ok-count-2.count c.in_ok-count-2.rest.now c.in_ok-items.items.items c.in_ok-items.rest.now c.set_of.result
    c.in_ok-count.ensures c.in-Ok.ensures c.in_ok-earlier.ensures c.in_ok-count-2.ensures c.in_ok-items.ensures
    (λ d drive. c.set_of.ensures d drive ∙ ap (λ (ds : List Drive). list_any (same_drive d) ds) c.deref.ensures.value)
