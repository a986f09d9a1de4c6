use Rattle.domains.proofs.DriveSetLemmas.{bit_of_none}
use Rattle.domains.proofs.drive_set.DriveSet.new.Goals as goal

pub returns : goal.returns
returns c = bit_of_none
