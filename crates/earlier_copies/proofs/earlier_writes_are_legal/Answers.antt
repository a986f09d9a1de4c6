use Rattle.earlier_copies.proofs.MadeNow.{earlier_writes_are_legal}
use Rattle.earlier_copies.proofs.earlier_writes_are_legal.Goals as goal

pub returns : goal.returns
returns c = earlier_writes_are_legal
