use Rattle.std.proofs.Common.{arith}
use Rattle.domains.proofs.DriveSetLemmas.{bit_removed}
use Rattle.domains.proofs.drive_set.DriveSet.remove.Goals as goal

pub returns : goal.returns
returns c = λ d of_d.
    rw (c.from.ensures, c.node.ensures.value, c.drive.ensures.value)
    (bit_removed c.args.self.now.nodes d c.args.drive (omega arith) of_d c.drive.ensures.within)
