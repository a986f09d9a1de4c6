use Rattle.std.proofs.Common.{arith}
use Rattle.domains.proofs.DriveSetLemmas.{bit_added}
use Rattle.domains.proofs.drive_set.DriveSet.add.Goals as goal

pub returns : goal.returns
returns c = λ d of_d.
    rw (c.from.ensures, c.node.ensures.value, c.drive.ensures.value)
    (bit_added c.args.self.now.nodes d c.args.drive (omega arith) of_d c.drive.ensures.within)
